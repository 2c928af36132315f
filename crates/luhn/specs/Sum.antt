-- What `sum` gives: a text's sum from the right, whose last digit is doubled or not.
use Rattle.std.specs.Prelude.{ℕ, zero, suc, ◌+◌, ◌-◌, Bool, not, List, [], ◌∷◌, length}
use Rattle.text.specs.Bytes.{within, all_digits}
use Rattle.reasons.specs.Reasons.{Outcome, gives, demand}
use Rattle.luhn.specs.Luhn.{weighed}

-- whether a digit with n digits after it is doubled, the last one being as `last` says
unfoldable pub twice : Bool → ℕ → Bool
twice last zero = last
twice last (suc n) = not (twice last n)

unfoldable pub sum_from : Bool → List ℕ → ℕ
sum_from last [] = 0
sum_from last (b ∷ rest) = weighed (twice last (length rest)) (b - 48) + sum_from last rest

-- of a text of `least` to `most` digits
unfoldable pub sum_rule : ℕ → ℕ → Bool → List ℕ → Outcome ℕ
sum_rule least most last s =
    demand (within least most (length s)) 2
    (demand (all_digits s) 3
    (gives (sum_from last s)))
