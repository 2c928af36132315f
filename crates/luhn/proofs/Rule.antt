-- The two rules, by the sum that both go on with.
use mathlib.Core.Path.{◌≡◌, refl, ap, ◌∙◌}
use mathlib.Core.Bool.{Bool, true, false}
use mathlib.Core.List.{List}
use Prim.Native.Nat.{ℕ, ◌+◌, ◌-◌, ◌%◌}
use lib.Dec.{eqb}
use lib.ListN.{length}
use borrow.Author.Tests.{eq-eqb, ne_eqb}
use Rattle.text.specs.Bytes.{within, all_digits}
use Rattle.reasons.specs.Reasons.{Outcome, gives, refuses, demand, and_then}
use Rattle.luhn.specs.Luhn.{luhn_sum, passes, luhn_rule, check_digit, make_rule}
use Rattle.luhn.specs.Sum.{sum_from, sum_rule}
use Rattle.luhn.proofs.Summing.{sum-plain, sum_shifted}

pub test_wrong : (s : List ℕ) → within 2 40 (length s) ≡ true → all_digits s ≡ true → (luhn_sum s % 10 ≡ 0 → ⊥) → refuses 4 ≡ luhn_rule s
unfolding luhn_rule passes
test_wrong s e f g = simp (e, f, ne_eqb (luhn_sum s % 10) 0 g)

pub test_right : (s : List ℕ) → within 2 40 (length s) ≡ true → all_digits s ≡ true → luhn_sum s % 10 ≡ 0 → gives tt ≡ luhn_rule s
unfolding luhn_rule passes
test_right s e f g = simp (e, f, eq-eqb (luhn_sum s % 10) 0 g)

-- the sum, outcome by outcome
module _ (least most : ℕ) (last : Bool) (s : List ℕ) where
  pub sum_count : within least most (length s) ≡ false → refuses 2 ≡ sum_rule least most last s
  unfolding sum_rule
  sum_count e = simp e

  pub sum_byte : within least most (length s) ≡ true → all_digits s ≡ false → refuses 3 ≡ sum_rule least most last s
  unfolding sum_rule
  sum_byte e f = simp (e, f)

  pub sum_given : within least most (length s) ≡ true → all_digits s ≡ true → (n : ℕ) → n ≡ sum_from last s → gives n ≡ sum_rule least most last s
  unfolding sum_rule
  sum_given e f n g = simp (e, f) (ap gives g)

-- what follows a condition stands behind it
behind : {A B : Type 0} (t : Bool) (n : ℕ) (o : Outcome A) (f : A → Outcome B) → and_then (demand t n o) f ≡ demand t n (and_then o f)
behind true n o f = refl
behind false n o f = refl

-- a rule that goes on with the sum
module _ {A : Type 0} (f : ℕ → Outcome A) (least most : ℕ) (last : Bool) (s : List ℕ) where
  pub from_sum : and_then (sum_rule least most last s) f ≡ demand (within least most (length s)) 2 (demand (all_digits s) 3 (f (sum_from last s)))
  unfolding sum_rule
  from_sum = behind (within least most (length s)) 2 _ f ∙ ap (demand (within least most (length s)) 2) (behind (all_digits s) 3 (gives (sum_from last s)) f)

pub test_of : (s : List ℕ) (o : Outcome ℕ) → o ≡ sum_rule 2 40 false s → and_then o (λ n. demand (eqb (n % 10) 0) 4 (gives tt)) ≡ luhn_rule s
unfolding luhn_rule passes
test_of s o e = rw (e, from_sum {A = Unit {0}} _ 2 40 false s, sum-plain s)

pub make_of : (s : List ℕ) (o : Outcome ℕ) → o ≡ sum_rule 1 39 true s → and_then o (λ n. gives (48 + (10 - n % 10) % 10)) ≡ make_rule s
unfolding make_rule check_digit
make_of s o e = rw (e, from_sum {A = ℕ} _ 1 39 true s, sum_shifted s)
