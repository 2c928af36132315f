-- The number that a text writes (ISO 7064, MOD 97-10).
use Rattle.std.specs.Prelude.{ℕ, ◌+◌, ◌-◌, ◌/◌, ◌%◌, cond, List, [], ◌∷◌, ◌++◌, ltb}
use Rattle.text.specs.Numbers.{decimal_after}

-- A = 10, B = 11, up to Z = 35; a digit is itself
unfoldable pub number : ℕ → ℕ
number c = cond (ltb c 65) (c - 48) (c - 55)

-- a number below 100 in decimal: its digit, or its two digits
unfoldable pub in_decimal : ℕ → List ℕ
in_decimal n = cond (ltb n 10) ((48 + n) ∷ []) ((48 + n / 10) ∷ (48 + n % 10) ∷ [])

-- each character's number in decimal, one after another
unfoldable pub written : List ℕ → List ℕ
written [] = []
written (c ∷ s) = in_decimal (number c) ++ written s

-- the resulting number, where n stands before it
unfoldable pub number_after : ℕ → List ℕ → ℕ
number_after n s = decimal_after n (written s)

-- the resulting number
abbrev pub decimal_of : List ℕ → ℕ
decimal_of s = number_after 0 s
