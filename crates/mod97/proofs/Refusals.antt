-- The laws on refusals, over any rule that accepts only texts of 4 to 47 characters whose pair passes.
use Prim.Native.Nat.{ℕ, ◌<◌, ◌≤◌}
use mathlib.Core.Path.{◌≡◌, sym, ◌∙◌}
use mathlib.Core.Bool.{true}
use mathlib.Core.List.{List}
use mathlib.Core.Logic.{◌⊎◌, inl, inr}
use native.Mathlib.Omega.{arith}
use lib.ListN.{length, get_or, set}
use Rattle.text.specs.Bytes.{swap}
use Rattle.reasons.specs.Reasons.{Outcome, gives, refuses}
use Rattle.reasons.proofs.Laws.{refused}
use Rattle.mod97.specs.Kinds.{SameKind}
use Rattle.mod97.specs.Text.{number}
use Rattle.mod97.specs.Pair.{pair_of, checks}
use Rattle.mod97.proofs.Numbers.{Alike, alike, same_number}
use Rattle.mod97.proofs.Pairs.{pair_within, leaves_one}
use Rattle.mod97.proofs.Places.{moved_change, moved_exchange}

-- what an accepted text has
pub record Sound (s : List ℕ) : Type 0 where
  pub long : 4 ≤ length s
  pub short : length s < 48
  pub pair : checks s ≡ true

module _ (rule : List ℕ → Outcome (Unit {0})) (sound : (s : List ℕ) → rule s ≡ gives tt → Sound s) where
  -- told by the characters' numbers
  number_changed : (s : List ℕ) (i d : ℕ) → rule s ≡ gives tt → i < length s → Alike (get_or s i 0) d → (number (get_or s i 0) ≡ number d → ⊥)
      → (n : ℕ) × (rule (set s i d) ≡ refuses n)
  number_changed s i d p h k differ =
      let a = sound s p in
      refused (rule (set s i d))
      (λ q. differ (moved_change s i d a.long h k (leaves_one s a.pair ∙ sym (leaves_one (set s i d) (sound (set s i d) q).pair))))

  numbers_exchanged : (s : List ℕ) (i j : ℕ) → rule s ≡ gives tt → i < length s → j < length s
      → Alike (get_or s i 0) (get_or s j 0) → (number (get_or s i 0) ≡ number (get_or s j 0) → ⊥)
      → (n : ℕ) × (rule (swap s i j) ≡ refuses n)
  numbers_exchanged s i j p hi hj k differ =
      let a = sound s p in
      refused (rule (swap s i j))
      (λ q. differ (moved_exchange s i j a.long a.short hi hj k (leaves_one s a.pair ∙ sym (leaves_one (swap s i j) (sound (swap s i j) q).pair))))

  -- "changing one character into another of the same kind (digit for digit, capital for capital) is refused"
  pub change_refused : (s : List ℕ) (i d : ℕ) → rule s ≡ gives tt → i < length s → SameKind (get_or s i 0) d → (get_or s i 0 ≡ d → ⊥)
      → (n : ℕ) × (rule (set s i d) ≡ refuses n)
  change_refused s i d p h k differ = number_changed s i d p h (alike (get_or s i 0) d k) (λ e. differ (same_number (get_or s i 0) d k e))

  -- "exchanging any two different characters of the same kind is refused"
  pub exchange_refused : (s : List ℕ) (i j : ℕ) → rule s ≡ gives tt → i < length s → j < length s
      → SameKind (get_or s i 0) (get_or s j 0) → (get_or s i 0 ≡ get_or s j 0 → ⊥)
      → (n : ℕ) × (rule (swap s i j) ≡ refuses n)
  exchange_refused s i j p hi hj k differ =
      numbers_exchanged s i j p hi hj (alike (get_or s i 0) (get_or s j 0) k) (λ e. differ (same_number (get_or s i 0) (get_or s j 0) k e))

  -- "00, 01 and 99 are always refused, even where they leave 1"
  pub pair_refused : (s : List ℕ) → (pair_of s ≡ 0) ⊎ (pair_of s ≡ 1) ⊎ (pair_of s ≡ 99) → (n : ℕ) × (rule s ≡ refuses n)
  pair_refused s w = refused (rule s) (λ q. let b = pair_within s (sound s q).pair in out b.0 b.1 w)
    where
      out : 2 ≤ pair_of s → pair_of s ≤ 98 → (pair_of s ≡ 0) ⊎ (pair_of s ≡ 1) ⊎ (pair_of s ≡ 99) → ⊥
      out l h (inl e) = omega arith
      out l h (inr (inl e)) = omega arith
      out l h (inr (inr e)) = omega arith
