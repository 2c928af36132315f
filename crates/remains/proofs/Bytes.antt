-- Every byte of a part passes a test, told place by place; and records told field by field.
use Prim.Native.Nat.{ℕ, suc, ◌<◌, ◌+◌, ◌-◌}
use mathlib.Core.Path.{◌≡◌, refl, sym, ap, ◌∙◌}
use mathlib.Core.Bool.{Bool, true, false}
use mathlib.Core.List.{List, [], ◌∷◌}
use native.Mathlib.Omega.{arith}
use borrow.Author.Tests.{eqb-true, eq-eqb}
use lib.ListN.{length, get_or, drop, length-drop}
use lib.Seq.{get_or-drop}
use Rattle.text.specs.Bytes.{every}
use Rattle.text.proofs.Every.{every_at, every_cons}
use Rattle.slots.specs.Record.{Zeros}
use Rattle.slots.specs.Journal.{Tells}
use Rattle.remains.specs.Slot.{is_zero}
use Rattle.remains.specs.declared.Fields.{Fields}
use Rattle.remains.specs.declared.Tests.{Tests}

-- a test that holds at each place holds of every byte
pub every_all : (f : ℕ → Bool) (s : List ℕ) → ((i : ℕ) → i < length s → f (get_or s i 0) ≡ true) → every f s ≡ true
unfolding every
every_all f [] all = refl
every_all f (b ∷ s) all = every_cons f b s (all 0 (omega arith)) (every_all f s (λ i h. all (suc i) (omega arith)))

-- the bytes from `from` on are zero
pub zeros_every : (r : List ℕ) (from : ℕ) → Zeros r from (length r) → every is_zero (drop from r) ≡ true
unfolding is_zero
zeros_every r from z =
    every_all is_zero (drop from r) (λ i h. eq-eqb _ 0 (get_or-drop from r i 0 ∙ z (from + i) (omega arith) (omega (arith, length-drop from r))))

pub every_zeros : (r : List ℕ) (from : ℕ) → every is_zero (drop from r) ≡ true → Zeros r from (length r)
unfolding is_zero
every_zeros r from e i l h =
    let q : from + (i - from) ≡ i = omega arith in
    let z : get_or (drop from r) (i - from) 0 ≡ 0 = eqb-true _ 0 (every_at is_zero (drop from r) (i - from) e (omega (arith, length-drop from r))) in
    sym (ap (λ (x : ℕ). get_or r x 0) q) ∙ sym (get_or-drop from r (i - from) 0) ∙ z

-- an answer that tells a fact is the test that stands for it
pub tells_test : {P : Type 0} (t u : Bool) → Tells t P → (P → u ≡ true) → (u ≡ true → P) → t ≡ u
tells_test true u w f g = sym (f (w.0 refl))
tells_test false true w f g = absurd (w.1 refl (g refl))
tells_test false false w f g = refl

pub tells_zeros : (r : List ℕ) (from to : ℕ) (t : Bool) → length r ≡ to → Tells t (Zeros r from to) → t ≡ every is_zero (drop from r)
tells_zeros r from to t e w =
    tells_test t (every is_zero (drop from r)) w
    (λ z. zeros_every r from (λ i l h. z i l (omega arith)))
    (λ h i l k. every_zeros r from h i l (omega arith))

pub fields_same : (f g : Fields) → f.serial ≡ g.serial → f.clock ≡ g.clock → f.amount ≡ g.amount → f.label ≡ g.label
    → f.length ≡ g.length → f.state ≡ g.state → f ≡ g
fields_same f g a b c d e h = λ i. record { serial = a i; clock = b i; amount = c i; label = d i; length = e i; state = h i }

pub tests_same : (t u : Tests) → t.serial ≡ u.serial → t.slot ≡ u.slot → t.state ≡ u.state → t.amount ≡ u.amount
    → t.length ≡ u.length → t.digits ≡ u.digits → t.zeros ≡ u.zeros → t ≡ u
tests_same t u a b c d e f g = λ i. record { serial = a i; slot = b i; state = c i; amount = d i; length = e i; digits = f i; zeros = g i }
