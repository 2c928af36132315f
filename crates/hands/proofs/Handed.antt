-- What an outcome hands over to C: 0 and the value, or the number and nothing.
use Prim.Native.Nat.{ℕ}
use mathlib.Core.Path.{◌≡◌, refl, ◌∙◌, subst}
use Rattle.reasons.specs.Reasons.{Outcome, gives, refuses}
use Rattle.hands.specs.Hands.{Hands}

module _ {A B : Type 0} (old : B) (new : A → B) where
  -- equal outcomes hand over the same
  pub outcome_is : (o p : Outcome A) (r : ℕ) (y : B) → o ≡ p → Hands o old new r y → Hands p old new r y
  outcome_is o p r y e h = subst (λ (q : Outcome A). Hands q old new r y) e h

  -- what stands behind the pointers is equal to what is due
  pub behind_is : (o : Outcome A) (r : ℕ) (y z : B) → z ≡ y → Hands o old new r y → Hands o old new r z
  behind_is o r y z e h = record { number = h.number; behind = e ∙ h.behind }

  -- the call gave v
  pub gave : (o : Outcome A) (v : A) → gives v ≡ o → Hands o old new 0 (new v)
  gave o v e = outcome_is (gives v) o 0 (new v) e (record { number = refl; behind = refl })

  -- the call refused, by the number n
  pub kept : (o : Outcome A) (n r : ℕ) → r ≡ n → refuses n ≡ o → Hands o old new r old
  kept o n r s e = outcome_is (refuses n) o r old e (record { number = s; behind = refl })
