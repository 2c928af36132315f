-- Texts as document 01 has them: bytes in ASCII. "Digit" is 48 to 57, "capital" is 65 to 90.
use Rattle.std.specs.Prelude.{ℕ, Bool, true, ◌&&◌, List, [], ◌∷◌, leb, get_or, set}
use Prim.Native.Char.{code}
use Prim.Native.String.{String, [] as empty, ◌∷◌ as ◌then◌}

-- the bytes of a quoted text: `bytes_of "RF18"`
abbrev pub bytes_of : String → List ℕ
bytes_of empty = []
bytes_of (c then s) = code c ∷ bytes_of s

-- n lies from low to high, ends included
abbrev pub within : ℕ → ℕ → ℕ → Bool
within low high n = leb low n && leb n high

unfoldable pub is_digit : ℕ → Bool
is_digit b = within 48 57 b

unfoldable pub is_capital : ℕ → Bool
is_capital b = within 65 90 b

-- every byte of a text passes a test
unfoldable pub every : (ℕ → Bool) → List ℕ → Bool
every f [] = true
every f (b ∷ s) = f b && every f s

abbrev pub all_digits : List ℕ → Bool
all_digits s = every is_digit s

-- the text with the bytes at i and j exchanged
abbrev pub swap : List ℕ → ℕ → ℕ → List ℕ
swap s i j = set (set s i (get_or s j 0)) j (get_or s i 0)
