-- What is handed over is determined: one outcome, and one answer of the library's call, hand over one number and one value.
use Prim.Native.Nat.{ℕ}
use mathlib.Core.Path.{◌≡◌, sym, ap, ◌∙◌}
use Rattle.reasons.specs.Reasons.{Outcome}
use Rattle.hands.specs.Hands.{Hands, HandsOn}
use Rattle.hands.proofs.Handed.{outcome_is}

module _ {A B : Type 0} {o : Outcome A} {old : B} {new : A → B} {r q : ℕ} {y z : B} where
  pub hands_one : Hands o old new r y → Hands o old new q z → (r ≡ q) × (y ≡ z)
  hands_one f g = (f.number ∙ sym g.number, f.behind ∙ sym g.behind)

module _ {Q A B : Type 0} {P R : Q → Type 0} {said : Q → Outcome A} {old : B} {new : A → B} {r q : ℕ} {y z : B} where
  -- of one answer
  pub hands_on_one : (f : HandsOn P said old new r y) (g : HandsOn R said old new q z) → f.answer ≡ g.answer → (r ≡ q) × (y ≡ z)
  hands_on_one f g e = hands_one f.handed (outcome_is _ _ _ _ _ _ (ap said (sym e)) g.handed)

  -- with the bytes that the library's call determines
  pub hands_on_bytes : {C : Type 0} (f : HandsOn P said old new r y) (g : HandsOn R said old new q z) → (f.answer ≡ g.answer) × C → (r ≡ q) × (y ≡ z) × C
  hands_on_bytes f g e = let h = hands_on_one f g e.0 in (h.0, h.1, e.1)
