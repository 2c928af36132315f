-- Track 2 (document 01, 'Track 2 from bits').
use Rattle.std.specs.Prelude.{true, false, List, [], ◌∷◌, ℕ}
use Rattle.reasons.specs.Reasons.{Outcome}
use Rattle.chars.specs.Reading.{Format}
use Rattle.bits.specs.Reading.{Track, read_rule}

-- "four data bits", byte "48 + number", start "bits 11010", end "15", "If the 39th character .. isn't the end sentinel"
abbrev pub track2 : Format
track2 =
    record { letters = record { data_bits = 4; end_number = 15; base = 48 }; start = true ∷ true ∷ false ∷ true ∷ false ∷ []; limit = 39 }

-- the call, with s lent, a bit count and n bytes of output: "output under 37 bytes is 1; then 7", then the reading either way round
abbrev pub track2_rule : List ℕ → ℕ → ℕ → Outcome Track
track2_rule s bits n = read_rule track2 s bits n
