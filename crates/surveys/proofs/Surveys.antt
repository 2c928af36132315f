-- The survey's slots, one by one, and one turn of its loop.
use Rattle.std.proofs.Common.{Option, Result, Some, None}
use Prim.Native.Nat.{ℕ, ◌≤◌, ◌<◌, ◌+◌, ◌*◌}
use mathlib.Core.Path.{◌≡◌, refl, sym, ap, ◌∙◌, subst, subst⁻¹}
use mathlib.Core.Bool.{Bool, true, false}
use mathlib.Core.List.{List}
use native.Mathlib.Omega.{arith}
use native.Mathlib.Decide.{dec_lt}
use borrow.Author.Tests.{le-leb, lt-leb}
use lib.ListN.{length, get_or, set}
use lib.Seq.{get_or-set_same, get_or-set_other, ext_get_or}
use Rattle.reasons.specs.Reasons.{Outcome, gives, refuses}
use Rattle.reasons.proofs.Laws.{gives_refuses, said_one}
use Rattle.reasons.specs.declared.Reason.{Reason}
use Rattle.slots.specs.Record.{is_held, is_record, serial_at, state_at, Zeros, Good}
use Rattle.slots.specs.Journal.{slots_of, sized, place}
use Rattle.slots.specs.Views.{formed}
use Rattle.std.specs.Option.{is_some}
use Rattle.slots.proofs.Ranges.{differ}
use Rattle.slots.proofs.States.{not_both, free_no_record}
use Rattle.slots.proofs.Passed.{good_released}
use Rattle.slots.proofs.Views.{one_view}
use Rattle.surveys.specs.Survey.{Belongs, SlotIs, free, held, released, damaged, survey_rule, SlotsIn, Fills, filled, unfilled, Surveys}

-- ---- one slot

module _ (j : List ℕ) (k s : ℕ) (e : s ≡ serial_at j (32 * k)) where
  module _ (some : Zeros j (32 * k) (32 * k + 32) → ⊥) where
    pub no_serial : s ≡ 0 → SlotIs j k 3
    no_serial z = damaged some (λ b. omega (arith, e, b.some))

    pub no_place : (n p : ℕ) → n ≡ slots_of j → p ≡ place n s → (p ≡ 32 * k → ⊥) → SlotIs j k 3
    no_place n p en ep ne = damaged some (λ b. ne (ep ∙ (λ i. place (en i) (e i)) ∙ b.slot))

    pub no_record : (Good j (32 * k) s → ⊥) → SlotIs j k 3
    no_record ng = damaged some (λ b. ng (subst⁻¹ (Good j (32 * k)) e b.good))

  pub belongs : (s ≡ 0 → ⊥) → (n p : ℕ) → n ≡ slots_of j → p ≡ place n s → p ≡ 32 * k → Good j (32 * k) s → Belongs j k
  belongs nz n p en ep eq g = record {
    some = omega (arith, e, nz);
    slot = sym (λ i. place (en i) (e i)) ∙ sym ep ∙ eq;
    good = subst (Good j (32 * k)) e g;
  }

pub not_held : (j : List ℕ) (k : ℕ) → Belongs j k → is_held (state_at j (32 * k)) ≡ false → SlotIs j k 2
not_held j k b h = released b (good_released j (32 * k) (serial_at j (32 * k)) b.good h)

-- ---- one turn of the loop

pub each_more : (j out : List ℕ) (k v : ℕ) → k < length out → ((i : ℕ) → i < k → SlotIs j i (get_or out i 0)) → SlotIs j k v
    → (i : ℕ) → i < k + 1 → SlotIs j i (get_or (set out k v) i 0)
each_more j out k v h each here i l = go (dec_lt i k)
  where
    go : Dec (i < k) → SlotIs j i (get_or (set out k v) i 0)
    go (yes q) = subst⁻¹ (SlotIs j i) (get_or-set_other out k i v 0 (λ z. omega arith)) (each i q)
    go (no q) =
        let z : i ≡ k = omega arith in
        subst⁻¹ (λ (x : ℕ). SlotIs j x (get_or (set out k v) x 0)) z (subst⁻¹ (SlotIs j k) (get_or-set_same out k v 0 h) here)

pub later_same : (out₀ out : List ℕ) (k v : ℕ) → ((i : ℕ) → k ≤ i → get_or out i 0 ≡ get_or out₀ i 0) → (i : ℕ) → k + 1 ≤ i → get_or (set out k v) i 0 ≡ get_or out₀ i 0
later_same out₀ out k v later i l = get_or-set_other out k i v 0 (λ z. omega arith) ∙ later i (omega arith)

-- ---- the rule, outcome by outcome

pub formed_is : (m : Option ℕ) → formed m ≡ is_some m
formed_is None = refl
formed_is (Some b) = refl

module _ (m : Option ℕ) (j : List ℕ) (n : ℕ) where
  pub survey_length : sized (length j) ≡ false → refuses 16 ≡ survey_rule m j n
  unfolding survey_rule
  survey_length h = simp h

  pub survey_short : sized (length j) ≡ true → n < slots_of j → refuses 1 ≡ survey_rule m j n
  unfolding survey_rule
  survey_short h l = simp (h, lt-leb (slots_of j) n l)

  pub survey_done : (f : Bool) → sized (length j) ≡ true → slots_of j ≤ n → formed m ≡ f → gives f ≡ survey_rule m j n
  unfolding survey_rule
  survey_done f h l e = simp (h, le-leb (slots_of j) n l) (ap gives (sym e))

pub survey_refused : (j out : List ℕ) (o : Outcome Bool) (n : ℕ) → refuses n ≡ o → (refuses n ≡ o) × Fills j out o out
survey_refused j out o n e = (e, subst (λ (o : Outcome Bool). Fills j out o out) e unfilled)

pub survey_filled : (j out k : List ℕ) (o : Outcome Bool) (f : Bool) → gives f ≡ o → SlotsIn j out k → (gives f ≡ o) × Fills j out o k
survey_filled j out k o f e s = (e, subst (λ (o : Outcome Bool). Fills j out o k) e (filled s))

-- ---- one outcome

-- a record that belongs is not all zero
pub not_zero : (j : List ℕ) (k : ℕ) → Belongs j k → Zeros j (32 * k) (32 * k + 32) → ⊥
not_zero j k b z = differ (is_record 0) free_no_record (sym (ap (λ (x : ℕ). is_record x) (z (32 * k + 15) (omega arith) (omega arith))) ∙ b.good.state)

slot_one : (j : List ℕ) (k x y : ℕ) → SlotIs j k x → SlotIs j k y → x ≡ y
slot_one j k x y (free z) (free w) = refl
slot_one j k x y (free z) (held b h) = absurd (not_zero j k b z)
slot_one j k x y (free z) (released b h) = absurd (not_zero j k b z)
slot_one j k x y (free z) (damaged w d) = absurd (w z)
slot_one j k x y (held b h) (free z) = absurd (not_zero j k b z)
slot_one j k x y (held b h) (held c g) = refl
slot_one j k x y (held b h) (released c g) = absurd (not_both (state_at j (32 * k)) h g)
slot_one j k x y (held b h) (damaged w d) = absurd (d b)
slot_one j k x y (released b h) (free z) = absurd (not_zero j k b z)
slot_one j k x y (released b h) (held c g) = absurd (not_both (state_at j (32 * k)) g h)
slot_one j k x y (released b h) (released c g) = refl
slot_one j k x y (released b h) (damaged w d) = absurd (d b)
slot_one j k x y (damaged w d) (free z) = absurd (w z)
slot_one j k x y (damaged w d) (held b h) = absurd (d b)
slot_one j k x y (damaged w d) (released b h) = absurd (d b)
slot_one j k x y (damaged w d) (damaged v g) = refl

slots_one : (j out k l : List ℕ) → SlotsIn j out k → SlotsIn j out l → k ≡ l
slots_one j out k l a b = ext_get_or 0 k l (a.size ∙ sym b.size) (λ i h. go i (dec_lt i (slots_of j)))
  where
    go : (i : ℕ) → Dec (i < slots_of j) → get_or k i 0 ≡ get_or l i 0
    go i (yes h) = slot_one j i (get_or k i 0) (get_or l i 0) (a.each i h) (b.each i h)
    go i (no h) = a.later i (omega arith) ∙ sym (b.later i (omega arith))

fills_one : (j out : List ℕ) (o u : Outcome Bool) (k l : List ℕ) → o ≡ u → Fills j out o k → Fills j out u l → k ≡ l
fills_one j out o u k l e (filled a) (filled b) = slots_one j out k l a b
fills_one j out o u k l e (filled {f = f} a) (unfilled {n = n}) = gives_refuses f n e
fills_one j out o u k l e (unfilled {n = n}) (filled {f = f} b) = gives_refuses f n (sym e)
fills_one j out o u k l e unfilled unfilled = refl

-- survey: any two outcomes that its promise allows are equal
pub one_survey : (j out : List ℕ) (r q : Result Bool Reason) (k l : List ℕ) → Surveys j out r k → Surveys j out q l → (r ≡ q) × (k ≡ l)
one_survey j out r q k l a b =
    let w = one_view j a b in
    (said_one r q (w.1.0 ∙ sym w.2.0), fills_one j out _ _ k l refl w.1.1 w.2.1)
