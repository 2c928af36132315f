-- "No call compares clocks": rules, answers and bytes of book and release on two journals that differ in clocks alone.
use Rattle.std.proofs.Common.{Option, Some, None}
use Prim.Native.Nat.{ℕ, zero, suc, ◌≤◌, ◌<◌, ◌+◌, ◌-◌, ◌*◌, ◌/◌, ◌%◌}
use mathlib.Core.Path.{◌≡◌, refl, sym, ap, ◌∙◌, subst}
use mathlib.Core.Bool.{Bool, true, false, cond, not, ◌&&◌, ◌||◌, or-true}
use mathlib.Core.List.{List}
use native.Mathlib.Omega.{arith}
use native.Mathlib.Decide.{dec_lt, ℕ_discrete}
use lib.Dec.{eqb}
use lib.ListN.{length, get_or, get_or-eq_default}
use Rattle.text.specs.Bytes.{within, all_digits}
use Rattle.text.specs.Numbers.{put}
use Rattle.text.proofs.Put.{put_in, put_before, put_after, length_put}
use Rattle.reasons.specs.Reasons.{Outcome, gives, refuses, demand, after}
use Rattle.reasons.proofs.Laws.{gives_refuses}
use Rattle.luhn.specs.Luhn.{passes}
use Rattle.pan.specs.Pan.{pan_length}
use Rattle.slots.specs.Record.{is_held, is_released, is_record, freed_state, state_at, record32}
use Rattle.slots.specs.Journal.{slots_of, place, NewestIs, is_clock, SameButClocks}
use Rattle.slots.specs.Views.{formed, newest}
use Rattle.slots.proofs.Ranges.{differ}
use Rattle.slots.proofs.States.{freed_released}
use Rattle.slots.proofs.Ring.{place_in}
use Rattle.slots.proofs.Records.{record_long, record_held}
use Rattle.slots.proofs.Clocks.{slot_state}
use Rattle.held.specs.Held.{low_of, SameRecord}
use Rattle.journal.specs.declared.Released.{Released}
use Rattle.journal.specs.Rules.{held_slots, full, book_rule, book_bytes, release_rule, release_bytes, freed_at, freed_after}
use Rattle.journal.proofs.Rule.{book_bad}
use Rattle.journal.proofs.Calls.{booking_of}
use Rattle.journal.proofs.Freed.{freed_length, freed_other, freed_here, freed_byte}
use Rattle.held.proofs.Clocks.{clock_record, same_length, same_sum, slots_same, clock_up_to}

-- ---- the rules

held_slots_same : (j k : List ℕ) (x : ℕ) → ((i : ℕ) → is_held (state_at j (32 * i)) ≡ is_held (state_at k (32 * i))) → held_slots j x ≡ held_slots k x
unfolding held_slots
held_slots_same j k zero h = refl
held_slots_same j k (suc x) h = λ i. held_slots_same j k x h i && h x i

module _ (j k : List ℕ) (w : SameButClocks j k) where
  same_full : full j ≡ full k
  same_full = held_slots_same j k (slots_of j) (λ i. ap is_held (slot_state j k w i)) ∙ ap (held_slots k) (slots_same j k w)

  pub clock_book : (m : Option ℕ) (pan : List ℕ) (label amount : ℕ) → book_rule m j pan label amount ≡ book_rule m k pan label amount
  unfolding book_rule
  clock_book m pan label amount =
      ap (λ (t : Bool). demand (formed m) 16 (demand (pan_length (length pan)) 2 (demand (all_digits pan) 3 (demand (passes pan) 4
      (demand (not (eqb amount 0)) 17 (demand (not (eqb (newest m) 4294967295)) 19 (demand (not t) 18 (gives (newest m + 1))))))))) same_full

  pub clock_release : (m : Option ℕ) (s : ℕ) → release_rule m j s ≡ release_rule m k s
  unfolding release_rule
  clock_release m s =
      let u = clock_up_to j k w (newest m) s in
      λ i. demand (formed m) 16 (demand (within 1 (newest m) s) 20 (gives (record { count = same_length _ _ u i; sum = same_sum _ _ u i })))

-- ---- the bytes

-- where a record stands, a byte that is no clock byte is none of the four
not_clock : (t u : Bool) → (t && u) ≡ false → u ≡ true → t ≡ false
not_clock true true h e = h
not_clock false true h e = refl
not_clock t false h e = absurd (differ false refl e)

-- a record put over a slot of each, the two alike but for the clock
put_clock : (j k r q : List ℕ) (x : ℕ) → SameButClocks j k → 32 * x + 32 ≤ length j → length r ≡ 32 → length q ≡ 32 → SameRecord r q → is_record (state_at r 0) ≡ true
    → SameButClocks (put j (32 * x) r) (put k (32 * x) q)
put_clock j k r q x w h lr lq s st =
    record { size = length_put j r (32 * x) hj ∙ w.size ∙ sym (length_put k q (32 * x) hk); bytes = λ i c. byte i c (dec_lt i (32 * x)) (dec_lt i (32 * x + 32)) }
  where
    hj : 32 * x + length r ≤ length j
    hj = omega arith

    hk : 32 * x + length q ≤ length k
    hk = omega (arith, w.size)

    -- the state of a slot beside
    beside : (i : ℕ) → is_clock (put j (32 * x) r) i ≡ false → state_at (put j (32 * x) r) (32 * (i / 32)) ≡ state_at j (32 * (i / 32)) → is_clock j i ≡ false
    beside i c e = sym (ap (λ (y : ℕ). within 4 7 (i % 32) && is_record y) e) ∙ c

    byte : (i : ℕ) → is_clock (put j (32 * x) r) i ≡ false → Dec (i < 32 * x) → Dec (i < 32 * x + 32) → get_or (put j (32 * x) r) i 0 ≡ get_or (put k (32 * x) q) i 0
    byte i c (yes a) b =
        put_before j r (32 * x) hj i a
        ∙ w.bytes i (beside i c (put_before j r (32 * x) hj (32 * (i / 32) + 15) (omega arith)))
        ∙ sym (put_before k q (32 * x) hk i a)
    byte i c (no a) (no b) =
        put_after j r (32 * x) hj i (omega arith)
        ∙ w.bytes i (beside i c (put_after j r (32 * x) hj (32 * (i / 32) + 15) (omega arith)))
        ∙ sym (put_after k q (32 * x) hk i (omega arith))
    byte i c (no a) (yes b) =
        let o : ℕ = i - 32 * x in
        let e : 32 * x + o ≡ i = omega arith in
        let m : i % 32 ≡ o = omega arith in
        let z : 32 * (i / 32) + 15 ≡ 32 * x + 15 = omega arith in
        let there : state_at (put j (32 * x) r) (32 * (i / 32)) ≡ state_at r 0 = ap (λ (y : ℕ). get_or (put j (32 * x) r) y 0) z ∙ put_in j r (32 * x) hj 15 (omega arith) in
        let none : within 4 7 o ≡ false = ap (within 4 7) (sym m) ∙ not_clock (within 4 7 (i % 32)) (is_record (state_at (put j (32 * x) r) (32 * (i / 32)))) c (ap is_record there ∙ st) in
        ap (λ (y : ℕ). get_or (put j (32 * x) r) y 0) (sym e) ∙ put_in j r (32 * x) hj o (omega arith) ∙ s o (omega arith) none
        ∙ sym (put_in k q (32 * x) hk o (omega arith)) ∙ ap (λ (y : ℕ). get_or (put k (32 * x) q) y 0) e

-- a booking, with any two clock readings
pub clock_book_bytes : (j k : List ℕ) → SameButClocks j k → (m : Option ℕ) → NewestIs j m → (pan : List ℕ) (label amount c d : ℕ)
    → SameButClocks (book_bytes m j pan label amount c) (book_bytes m k pan label amount d)
unfolding book_bytes
clock_book_bytes j k w m is pan label amount c d = go (book_rule m j pan label amount) refl (book_rule m k pan label amount) (clock_book j k w m pan label amount)
  where
    granted : (m : Option ℕ) → NewestIs j m → (s : ℕ) → gives s ≡ book_rule m j pan label amount
        → SameButClocks (put j (place (slots_of j) s) (record32 s c amount label pan)) (put k (place (slots_of k) s) (record32 s d amount label pan))
    granted None i s e = gives_refuses s 16 (e ∙ sym (book_bad j pan label amount))
    granted (Some b) f s e =
        let g = booking_of j pan label amount b s e in
        let long = g.pan_fine.count in
        subst (λ (n : ℕ). SameButClocks (put j (place (slots_of j) s) (record32 s c amount label pan)) (put k (place n s) (record32 s d amount label pan))) (slots_same j k w)
        (put_clock j k (record32 s c amount label pan) (record32 s d amount label pan) ((s - 1) % slots_of j) w
        (omega (arith, f.size, place_in (slots_of j) s f.least)) (record_long s c amount label pan long) (record_long s d amount label pan long)
        (clock_record s c d amount label pan)
        (ap (λ (t : Bool). t || is_released (state_at (record32 s c amount label pan) 0)) (record_held s c amount label pan)))

    go : (o : Outcome ℕ) → o ≡ book_rule m j pan label amount → (p : Outcome ℕ) → o ≡ p
        → SameButClocks (after o j (λ s. put j (place (slots_of j) s) (record32 s c amount label pan))) (after p k (λ s. put k (place (slots_of k) s) (record32 s d amount label pan)))
    go (refuses x) e (refuses y) q = w
    go (refuses x) e (gives t) q = gives_refuses t x (sym q)
    go (gives s) e (refuses y) q = gives_refuses s y q
    go (gives s) e (gives t) q =
        let z : s ≡ t = cc in
        subst (λ (y : ℕ). SameButClocks (put j (place (slots_of j) s) (record32 s c amount label pan)) (put k (place (slots_of k) y) (record32 y d amount label pan))) z (granted m is s e)

-- a release: records stay records
freed_record : (x : ℕ) → is_record (freed_byte x) ≡ is_record x
freed_record x = go (is_held x) refl
  where
    go : (t : Bool) → is_held x ≡ t → is_record (cond t (freed_state x) x) ≡ is_record x
    go true e =
        ap (λ (t : Bool). is_held (freed_state x) || t) (freed_released x e) ∙ or-true (is_held (freed_state x)) ∙ sym (ap (λ (t : Bool). t || is_released x) e)
    go false e = refl

free_clock : (j k : List ℕ) (x : ℕ) → SameButClocks j k → SameButClocks (freed_at j (32 * x)) (freed_at k (32 * x))
free_clock j k x w = record { size = freed_length j (32 * x) ∙ w.size ∙ sym (freed_length k (32 * x)); bytes = λ i c. byte i c (ℕ_discrete i (32 * x + 15)) (dec_lt (32 * x + 15) (length j)) }
  where
    record_stays : (y : ℕ) → Dec (y ≡ x) → Dec (32 * x + 15 < length j) → is_record (state_at (freed_at j (32 * x)) (32 * y)) ≡ is_record (state_at j (32 * y))
    record_stays y (no ne) d = ap is_record (freed_other j (32 * x) (32 * y + 15) (λ q. ne (omega arith)))
    record_stays y (yes e) (yes l) =
        subst (λ (z : ℕ). is_record (state_at (freed_at j (32 * x)) (32 * z)) ≡ is_record (state_at j (32 * z))) (sym e)
        (ap is_record (freed_here j (32 * x) l) ∙ freed_record (state_at j (32 * x)))
    record_stays y (yes e) (no l) =
        ap is_record (get_or-eq_default (freed_at j (32 * x)) 0 (omega (arith, freed_length j (32 * x))) ∙ sym (get_or-eq_default j 0 (omega arith)))

    byte : (i : ℕ) → is_clock (freed_at j (32 * x)) i ≡ false → Dec (i ≡ 32 * x + 15) → Dec (32 * x + 15 < length j) → get_or (freed_at j (32 * x)) i 0 ≡ get_or (freed_at k (32 * x)) i 0
    byte i c (yes e) (yes l) =
        subst (λ (y : ℕ). get_or (freed_at j (32 * x)) y 0 ≡ get_or (freed_at k (32 * x)) y 0) (sym e)
        (freed_here j (32 * x) l ∙ ap freed_byte (slot_state j k w x) ∙ sym (freed_here k (32 * x) (omega (arith, w.size))))
    byte i c (yes e) (no l) =
        get_or-eq_default (freed_at j (32 * x)) 0 (omega (arith, freed_length j (32 * x)))
        ∙ sym (get_or-eq_default (freed_at k (32 * x)) 0 (omega (arith, freed_length k (32 * x), w.size)))
    byte i c (no ne) d =
        freed_other j (32 * x) i ne
        ∙ w.bytes i (sym (ap (λ (t : Bool). within 4 7 (i % 32) && t) (record_stays (i / 32) (ℕ_discrete (i / 32) x) d)) ∙ c)
        ∙ sym (freed_other k (32 * x) i ne)

after_clock : (j k : List ℕ) (n low m : ℕ) → SameButClocks j k → SameButClocks (freed_after j n low m) (freed_after k n low m)
unfolding freed_after
after_clock j k n low zero w = w
after_clock j k n low (suc m) w = after_clock (freed_at j (place n (low + 1))) (freed_at k (place n (low + 1))) n (low + 1) m (free_clock j k ((low + 1 - 1) % n) w)

pub clock_release_bytes : (j k : List ℕ) → SameButClocks j k → (m : Option ℕ) (s : ℕ) → SameButClocks (release_bytes m j s) (release_bytes m k s)
unfolding release_bytes
clock_release_bytes j k w m s = go (release_rule m j s) (release_rule m k s) (clock_release j k w m s)
  where
    go : (o p : Outcome Released) → o ≡ p
        → SameButClocks (after o j (λ _. freed_after j (slots_of j) (low_of j (newest m)) (s - low_of j (newest m)))) (after p k (λ _. freed_after k (slots_of k) (low_of k (newest m)) (s - low_of k (newest m))))
    go (refuses x) (refuses y) q = w
    go (refuses x) (gives t) q = gives_refuses t x (sym q)
    go (gives t) (refuses y) q = gives_refuses t y q
    go (gives t) (gives u) q =
        subst (λ (n : ℕ). SameButClocks (freed_after j (slots_of j) (low_of j (newest m)) (s - low_of j (newest m))) (freed_after k n (newest m - n) (s - (newest m - n)))) (slots_same j k w)
        (after_clock j k (slots_of j) (low_of j (newest m)) (s - low_of j (newest m)) w)
