-- Track 1 (request E1, 'Fleet cards on track 1').
use Rattle.std.specs.Prelude.{true, false, List, [], ◌∷◌, ℕ}
use Rattle.reasons.specs.Reasons.{Outcome}
use Rattle.chars.specs.Reading.{Format}
use Rattle.bits.specs.Reading.{Track, read_rule}

-- "six data bits, lowest first, for byte 32 + number", start "bits 1010001", end `?`, "11 falls when the 78th character isn't the end"
abbrev pub track1 : Format
track1 =
    record { letters = record { data_bits = 6; end_number = 31; base = 32 }; start = true ∷ false ∷ true ∷ false ∷ false ∷ false ∷ true ∷ []; limit = 78 }

-- the call, with s lent, a bit count and n bytes of output: "the output must have 76 bytes (1)", 7, then the reading either way round
abbrev pub track1_rule : List ℕ → ℕ → ℕ → Outcome Track
track1_rule s bits n = read_rule track1 s bits n
