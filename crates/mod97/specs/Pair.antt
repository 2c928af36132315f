-- The check pair at places 3 and 4 of a text (ISO 7064, MOD 97-10): when it passes, and how it is made.
use Rattle.std.specs.Prelude.{ℕ, ◌+◌, ◌*◌, ◌-◌, ◌%◌, ◌/◌, Bool, ◌&&◌, List, [], ◌∷◌, ◌++◌, eqb, get_or, take, drop}
use Rattle.text.specs.Bytes.{within, is_digit}
use Rattle.mod97.specs.Text.{number, decimal_of}

-- the first four characters moved to the end
abbrev pub moved : List ℕ → List ℕ
moved s = drop 4 s ++ take 4 s

-- what the moved text's number leaves on division by 97
abbrev pub leaves : List ℕ → ℕ
leaves s = decimal_of (moved s) % 97

-- digits at places 3 and 4
unfoldable pub pair_digits : List ℕ → Bool
pair_digits s = is_digit (get_or s 2 0) && is_digit (get_or s 3 0)

-- the pair that they write
unfoldable pub pair_of : List ℕ → ℕ
pair_of s = 10 * number (get_or s 2 0) + number (get_or s 3 0)

-- pair 02 to 98 and remainder 1
unfoldable pub checks : List ℕ → Bool
checks s = within 2 98 (pair_of s) && eqb (leaves s) 1

-- two letters, the pair p in the check places, a body
abbrev pub paired : List ℕ → ℕ → List ℕ → List ℕ
paired letters p body = letters ++ ((48 + p / 10) ∷ (48 + p % 10) ∷ []) ++ body

-- 98 less the remainder with 00 in the check places
unfoldable pub pair_for : List ℕ → List ℕ → ℕ
pair_for letters body = 98 - leaves (paired letters 0 body)
