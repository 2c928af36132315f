-- "No call compares clocks": what a salvage says of the whole of two journals that differ in clocks alone.
use Prim.Native.Nat.{ℕ}
use mathlib.Core.Path.{◌≡◌, refl, ap, ◌∙◌}
use mathlib.Core.List.{List}
use Rattle.reasons.specs.Reasons.{gives, demand}
use Rattle.slots.specs.Journal.{slots_of, sized, SameButClocks}
use Rattle.remains.specs.Slot.{told_at, but_clock}
use Rattle.remains.proofs.Clocks.{slots_same, by_slot, by_look}
use Rattle.remains.specs.declared.Slot.{Slot}
use Rattle.remains.specs.declared.Slot.TheVariants.{Free, Held, Released, Damaged}
use Rattle.salvage.specs.Whole.{serial_in, held_in, leader, newest_of, lowest, oldest_of, agree_rule, due, verdict_of, judge_rule}

-- ---- what is made of a slot goes by no clock

serial_but : (s : Slot) → serial_in (but_clock s) ≡ serial_in s
serial_but Free = refl
serial_but (Held f) = refl
serial_but (Released f) = refl
serial_but (Damaged f t) = refl

held_but : (s : Slot) → held_in (but_clock s) ≡ held_in s
held_but Free = refl
held_but (Held f) = refl
held_but (Released f) = refl
held_but (Damaged f t) = refl

verdict_but : (s : Slot) (d h : ℕ) → verdict_of (but_clock s) d h ≡ verdict_of s d h
verdict_but Free d h = refl
verdict_but (Held f) d h = refl
verdict_but (Released f) d h = refl
verdict_but (Damaged f t) d h = refl

-- ---- the calls

module _ (j k : List ℕ) (w : SameButClocks j k) where
  -- most records agree with the same newest serial, and the oldest held one is the same
  newest_same : newest_of j ≡ newest_of k
  newest_same = λ x. (leader (λ (i : ℕ). by_slot j k w (λ s. serial_in s) serial_but i x) (slots_same j k w x) (slots_same j k w x)).serial

  oldest_same : (b : ℕ) → oldest_of j b ≡ oldest_of k b
  oldest_same b = λ x. lowest (λ (i : ℕ). by_slot j k w (λ s. held_in s) held_but i x) (slots_same j k w x) b (slots_same j k w x)

  pub clock_agree : agree_rule j ≡ agree_rule k
  unfolding agree_rule
  clock_agree =
      let o : oldest_of j (newest_of j) ≡ oldest_of k (newest_of k) = oldest_same (newest_of j) ∙ ap (oldest_of k) newest_same in
      λ x. demand (sized (w.size x)) 16 (gives (record { newest = newest_same x; oldest = o x }))

  -- the same is wrong with each slot
  pub clock_judge : (i b h : ℕ) → judge_rule j i b h ≡ judge_rule k i b h
  clock_judge i b h =
      let d : due (slots_of j) b i ≡ due (slots_of k) b i = ap (λ (n : ℕ). due n b i) (slots_same j k w) in
      let v = by_slot j k w (λ s. verdict_of s (due (slots_of j) b i) h) (λ s. verdict_but s (due (slots_of j) b i) h) i in
      by_look j k w (λ s. gives (verdict_of s (due (slots_of j) b i) h)) (λ s. gives (verdict_of s (due (slots_of k) b i) h)) i
      (ap gives (v ∙ ap (λ (y : ℕ). verdict_of (told_at k i) y h) d))
