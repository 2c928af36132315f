-- Swipes on two journals that differ in clocks alone.
use Rattle.std.proofs.Common.{Option, Result}
use Prim.Native.Nat.{ℕ, zero, suc, ◌<◌, ◌/◌}
use mathlib.Core.Path.{◌≡◌, refl, sym, ap, ◌∙◌, subst, subst⁻¹}
use mathlib.Core.Bool.{◌&&◌}
use mathlib.Core.List.{List}
use native.Mathlib.Omega.{arith}
use native.Mathlib.Decide.{dec_lt}
use lib.ListN.{length}
use Rattle.reasons.specs.Reasons.{Outcome, gives, refuses, and_then, after}
use Rattle.reasons.specs.declared.Reason.{Reason}
use Rattle.reasons.proofs.Laws.{said_one}
use Rattle.slots.specs.Record.{is_held}
use Rattle.slots.specs.Journal.{NewestIs, SameButClocks, slots_of}
use Rattle.slots.specs.Views.{Seen}
use Rattle.slots.proofs.Clocks.{slot_state}
use Rattle.journal.specs.Rules.{held_slots, book_bytes}
use Rattle.journal.proofs.Clocks.{clock_book, clock_book_bytes}
use Rattle.payer.specs.Payer.{room, Given, Payer}
use Rattle.swipe.specs.Swipe.{swipe_rule, receipt, swipe_answer, swipe_bytes, Charges, Swipes}
use Rattle.swipe.specs.declared.Receipt.{Receipt}
use Rattle.swipe.proofs.Steps.{short_scratch}
use Rattle.swipe.proofs.Laws.{same_decision}
use Rattle.history.proofs.Views.{both}

module _ (j k : List ℕ) (s : SameButClocks j k) (g : Given) (amount space : ℕ) where
  same_full : (n : ℕ) → held_slots j n ≡ held_slots k n
  unfolding held_slots
  same_full zero = refl
  same_full (suc n) = λ i. same_full n i && is_held (slot_state j k s n i)

  clock_rule : (m : Option ℕ) → swipe_rule m g amount space j ≡ swipe_rule m g amount space k
  clock_rule m = same_decision m g amount space j k (same_full (slots_of j) ∙ ap (λ (x : ℕ). held_slots k (x / 32)) s.size)

  clock_answer : (m : Option ℕ) → swipe_answer m g amount space j ≡ swipe_answer m g amount space k
  unfolding swipe_answer
  clock_answer m = λ i. and_then (clock_rule m i) (λ p. and_then (clock_book j k s m p.pan p.label amount i) (λ n. gives (receipt n p.left)))

  clock_bytes : (m : Option ℕ) → NewestIs j m → (c d : ℕ) → SameButClocks (swipe_bytes m g amount space c j) (swipe_bytes m g amount space d k)
  unfolding swipe_bytes
  clock_bytes m is c d =
      subst (λ (o : Outcome Payer). SameButClocks (swipe_bytes m g amount space c j) (after o k (λ p. book_bytes m k p.pan p.label amount d))) (clock_rule m)
      (go (swipe_rule m g amount space j))
    where
      go : (o : Outcome Payer) → SameButClocks (after o j (λ p. book_bytes m j p.pan p.label amount c)) (after o k (λ p. book_bytes m k p.pan p.label amount d))
      go (gives p) = clock_book_bytes j k s m is p.pan p.label amount c d
      go (refuses x) = s

  no_answer : (m : Option ℕ) (l : List ℕ) {x : ℕ} → swipe_rule m g amount space l ≡ refuses x → swipe_answer m g amount space l ≡ refuses x
  unfolding swipe_answer
  no_answer m l e = rw e

  -- with too little scratch no view is taken, and none matters
  clock_short : (m n : Option ℕ) (c d : ℕ) → space < room g.track
      → (swipe_answer m g amount space j ≡ swipe_answer n g amount space k) × SameButClocks (swipe_bytes m g amount space c j) (swipe_bytes n g amount space d k)
  unfolding swipe_bytes
  clock_short m n c d h = (
    no_answer m j (short_scratch m g amount space j h) ∙ sym (no_answer n k (short_scratch n g amount space k h)),
    subst⁻¹ (λ (o : Outcome Payer). SameButClocks (after o j (λ p. book_bytes m j p.pan p.label amount c)) (swipe_bytes n g amount space d k)) (short_scratch m g amount space j h)
        (subst⁻¹ (λ (o : Outcome Payer). SameButClocks j (after o k (λ p. book_bytes n k p.pan p.label amount d))) (short_scratch n g amount space k h) s),
  )

pub swipe_twin : (j k : List ℕ) → SameButClocks j k → (g : Given) (amount c d : ℕ) (t : List ℕ) (r q : Result Receipt Reason) (u v l m : List ℕ)
    → Swipes g amount c t j r u l → Swipes g amount d t k q v m → (r ≡ q) × (u ≡ v) × SameButClocks l m
swipe_twin j k s g amount c d t r q u v l m x y = go (dec_lt (length t) (room g.track))
  where
    scratches : u ≡ v
    scratches = x.scratch ∙ sym y.scratch

    journals : {i n : List ℕ} → l ≡ i → m ≡ n → SameButClocks i n → SameButClocks l m
    journals {i} {n} e f w = subst⁻¹ (λ (r : List ℕ). SameButClocks r m) e (subst⁻¹ (λ (r : List ℕ). SameButClocks i r) f w)

    go : Dec (length t < room g.track) → (r ≡ q) × (u ≡ v) × SameButClocks l m
    go (yes h) =
        let w = clock_short j k s g amount (length t) x.view y.view c d h in
        (said_one r q (x.so.answer ∙ w.0 ∙ sym y.so.answer), scratches, journals x.so.journal y.so.journal w.1)
    go (no h) =
        let a : Seen j (λ n. Charges n g amount c (length t) j r l) = record { view = x.view; is = x.is (omega arith); so = x.so } in
        let b : Seen k (λ n. Charges n g amount d (length t) k q m) = record { view = y.view; is = y.is (omega arith); so = y.so } in
        let w = both j k s a b in (
          said_one r q (w.left.answer ∙ clock_answer j k s g amount (length t) w.view ∙ sym w.right.answer),
          scratches,
          journals w.left.journal w.right.journal (clock_bytes j k s g amount (length t) w.view w.is c d),
        )
