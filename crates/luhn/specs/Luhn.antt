-- The Luhn rule of document 01 (ISO/IEC 7812-1, annex on the check digit).
use Rattle.std.specs.Prelude.{ℕ, zero, suc, ◌+◌, ◌-◌, ◌*◌, ◌%◌, Bool, true, false, not, cond, List, [], ◌∷◌, ◌++◌, length, leb, eqb}
use Rattle.text.specs.Bytes.{within, all_digits}
use Rattle.reasons.specs.Reasons.{Outcome, gives, demand}

unfoldable pub even : ℕ → Bool
even zero = true
even (suc n) = not (even n)

-- "doubled, less 9 where the double exceeds 9"
abbrev pub doubled : ℕ → ℕ
doubled d = cond (leb (2 * d) 9) (2 * d) (2 * d - 9)

-- what a digit adds: at a place that is doubled, and at one that is not
unfoldable pub weighed : Bool → ℕ → ℕ
weighed true d = doubled d
weighed false d = d

-- "From the right, the last digit has place 1", so the first digit of a text has the text's length for its place.
-- "Digits at even places are doubled."
unfoldable pub luhn_sum : List ℕ → ℕ
luhn_sum [] = 0
luhn_sum (b ∷ rest) = weighed (even (length (b ∷ rest))) (b - 48) + luhn_sum rest

-- "The text passes when the sum is a multiple of 10."
unfoldable pub passes : List ℕ → Bool
passes s = eqb (luhn_sum s % 10) 0

-- "Test: 2 to 40 digits." "Order: 2, 3, 4."
unfoldable pub luhn_rule : List ℕ → Outcome (Unit {0})
luhn_rule s =
    demand (within 2 40 (length s)) 2
    (demand (all_digits s) 3
    (demand (passes s) 4
    (gives tt)))

-- the check digit of a body, as a byte: what its sum with a 0 at the end lacks to a multiple of 10
unfoldable pub check_digit : List ℕ → ℕ
check_digit s = 48 + (10 - luhn_sum (s ++ (48 ∷ [])) % 10) % 10

-- "Make the check digit: 1 to 39 digits"
unfoldable pub make_rule : List ℕ → Outcome ℕ
make_rule s =
    demand (within 1 39 (length s)) 2
    (demand (all_digits s) 3
    (gives (check_digit s)))
