-- A table's rule: tested once over all entries, by a test that antt computes, and carried to each look_up.
use Prim.Native.Nat.{ℕ, zero, suc, ◌+◌, ◌<◌}
use mathlib.Core.Path.{◌≡◌, ap, ◌∙◌}
use mathlib.Core.Bool.{Bool}
use mathlib.Core.List.{List}
use native.Mathlib.Omega.{arith}
use native.Mathlib.Nat.{le_of_suc-le-suc, not-suc-le-zero}
use lib.Dec.{T}
use lib.ListN.{length, get_or}
use Rattle.text.specs.Tables.{tabled}
use Rattle.text.proofs.Below.{all_below, below}

module _ {A : Type 0} (rule : A → Bool) (t : List A) (d : A) where
  -- the rule holds of every entry
  abbrev pub all_entries : Bool
  all_entries = all_below (λ i. rule (get_or t i d)) (length t)

  pub entry : T all_entries → (i : ℕ) → i < length t → T (rule (get_or t i d))
  entry h = below (λ i. rule (get_or t i d)) (length t) h

-- a table that is the rule's values, which antt computes: the rule at each look_up
module _ (rule : ℕ → ℕ) where
  from : (i n k : ℕ) → k < n → get_or (tabled rule i n) k 0 ≡ rule (i + k)
  from i zero k h = absurd (not-suc-le-zero h)
  from i (suc n) zero h = ap rule (omega arith)
  from i (suc n) (suc k) h = from (suc i) n k (le_of_suc-le-suc h) ∙ ap rule (omega arith)

  pub look_up : (n k : ℕ) → k < n → get_or (tabled rule 0 n) k 0 ≡ rule k
  look_up n k h = from 0 n k h ∙ ap rule (omega arith)
