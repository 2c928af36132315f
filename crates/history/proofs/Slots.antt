-- Slots of two journals that differ in clocks alone, and their surveys.
use Rattle.std.proofs.Common.{Option, Result}
use Prim.Native.Nat.{ℕ, ◌≤◌, ◌+◌, ◌*◌, ◌/◌, ◌%◌}
use mathlib.Core.Path.{◌≡◌, refl, sym, ap, ◌∙◌, subst}
use mathlib.Core.Bool.{Bool, false, ◌&&◌, and-false}
use mathlib.Core.List.{List}
use native.Mathlib.Omega.{arith}
use lib.ListN.{length, get_or}
use lib.Dec.{leb}
use Rattle.text.specs.Bytes.{within}
use Rattle.text.specs.Numbers.{u32_at}
use Rattle.reasons.specs.Reasons.{Outcome, gives, demand}
use Rattle.slots.specs.Record.{is_held, is_released, is_record, kept, length_fits, length_at, serial_at, state_at, Zeros, Good}
use Rattle.slots.specs.Journal.{SameButClocks, slots_of, sized, place}
use Rattle.slots.specs.Views.{formed}
use Rattle.slots.proofs.States.{free_no_record}
use Rattle.slots.proofs.Records.{good_same}
use Rattle.slots.proofs.Clocks.{slot_byte, slot_state, clocks_turned, clock_view}
use Rattle.surveys.specs.Survey.{Belongs, SlotIs, free, held, released, damaged, survey_rule, Fills, filled, unfilled, Surveys}
use Rattle.reasons.specs.declared.Reason.{Reason}

module _ (j k : List ℕ) (s : SameButClocks j k) where
  pub clock_serial : (x : ℕ) → serial_at j (32 * x) ≡ serial_at k (32 * x)
  unfolding u32_at
  clock_serial x = omega (arith, first, slot_byte j k s x 1 (omega arith) refl, slot_byte j k s x 2 (omega arith) refl, slot_byte j k s x 3 (omega arith) refl)
    where
      first : get_or j (32 * x) 0 ≡ get_or k (32 * x) 0
      first = let e : 32 * x + 0 ≡ 32 * x = omega arith in subst (λ (y : ℕ). get_or j y 0 ≡ get_or k y 0) e (slot_byte j k s x 0 (omega arith) refl)

  same_slots : slots_of j ≡ slots_of k
  same_slots = ap (λ (n : ℕ). n / 32) s.size

  -- a slot of zeros has no record, and so no clock
  zeros_same : (x : ℕ) → Zeros j (32 * x) (32 * x + 32) → Zeros k (32 * x) (32 * x + 32)
  zeros_same x z i l h =
      let q : i / 32 ≡ x = omega arith in
      let state : state_at j (32 * (i / 32)) ≡ 0 = ap (λ (y : ℕ). state_at j (32 * y)) q ∙ z (32 * x + 15) (omega arith) (omega arith) in
      let none : is_record (state_at j (32 * (i / 32))) ≡ false = ap is_record state ∙ free_no_record in
      sym (s.bytes i (ap (λ (t : Bool). within 4 7 (i % 32) && t) none ∙ and-false (within 4 7 (i % 32)))) ∙ z i l h

  good_too : (x t : ℕ) → Good j (32 * x) t → Good k (32 * x) t
  good_too x t g =
      let e : state_at k (32 * x) ≡ state_at j (32 * x) = sym (slot_state j k s x) in
      good_same j k (32 * x) (32 * x) t (λ i m _ c. sym (slot_byte j k s x i m c)) (ap is_record e ∙ g.state) (ap kept e)
      (ap (λ (y : ℕ). length_fits y (length_at j (32 * x))) e) g

  belongs_same : (x : ℕ) → Belongs j x → Belongs k x
  belongs_same x b = record {
    some = subst (λ (t : ℕ). 1 ≤ t) (clock_serial x) b.some;
    slot = sym (λ i. place (same_slots i) (clock_serial x i)) ∙ b.slot;
    good = subst (Good k (32 * x)) (clock_serial x) (good_too x (serial_at j (32 * x)) b.good);
  }

module _ (j k : List ℕ) (s : SameButClocks j k) where
  slot_same : (x v : ℕ) → SlotIs j x v → SlotIs k x v
  slot_same x v (free z) = free (zeros_same j k s x z)
  slot_same x v (held b h) = held (belongs_same j k s x b) (sym (ap is_held (slot_state j k s x)) ∙ h)
  slot_same x v (released b h) = released (belongs_same j k s x b) (sym (ap is_released (slot_state j k s x)) ∙ h)
  slot_same x v (damaged z b) =
      let w : SameButClocks k j = clocks_turned j k s in
      damaged (λ y. z (zeros_same k j w x y)) (λ c. b (belongs_same k j w x c))

  fills_same : (out : List ℕ) (o : Outcome Bool) (l : List ℕ) → Fills j out o l → Fills k out o l
  fills_same out o l (filled w) =
      filled (record {
        size = w.size;
        each = λ i h. slot_same i _ (w.each i (omega (arith, same_slots j k s)));
        later = λ i h. w.later i (omega (arith, same_slots j k s));
      })
  fills_same out o l unfilled = unfilled

  survey_same : (m : Option ℕ) (n : ℕ) → survey_rule m j n ≡ survey_rule m k n
  unfolding survey_rule
  survey_same m n = λ i. demand (sized (s.size i)) 16 (demand (leb (s.size i / 32) n) 1 (gives (formed m)))

  -- "No call compares clocks", the survey neither
  pub clock_survey : (out : List ℕ) (r : Result Bool Reason) (l : List ℕ) → Surveys j out r l → Surveys k out r l
  clock_survey out r l w =
      let e = survey_same w.view (length out) in
      record {
        view = w.view;
        is = clock_view j k s w.view w.is;
        so = (w.so.0 ∙ e, subst (λ (o : Outcome Bool). Fills k out o l) e (fills_same out _ l w.so.1));
      }
