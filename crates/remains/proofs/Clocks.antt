-- "No call compares clocks": what is said of the slots of two journals that differ in clocks alone.
use Prim.Native.Nat.{ℕ, zero, suc, ◌<◌, ◌+◌, ◌*◌, ◌/◌, ◌%◌}
use mathlib.Core.Path.{◌≡◌, refl, sym, ap, ◌∙◌}
use mathlib.Core.Bool.{Bool, true, false, cond, ◌&&◌, and-false}
use mathlib.Core.List.{List}
use native.Mathlib.Omega.{arith}
use native.Mathlib.Decide.{dec_lt}
use borrow.Author.Tests.{eqb-true}
use lib.Dec.{ltb, eqb}
use lib.ListN.{length, get_or, take, drop, length-take, length-drop, get_or-eq_default}
use lib.Seq.{get_or-drop, drop-drop, ext_get_or}
use Rattle.text.specs.Bytes.{every, within, all_digits}
use Rattle.text.specs.Numbers.{u16_at}
use Rattle.text.proofs.Every.{every_at}
use Rattle.text.proofs.Tests.{under, over}
use Rattle.text.proofs.Put.{part_same}
use Rattle.reasons.specs.Reasons.{Outcome, gives, demand, and_then}
use Rattle.slots.specs.Record.{is_held, is_record, length_fits, kept, serial_at, amount_at, length_at, state_at}
use Rattle.slots.specs.Journal.{slots_of, sized, place, SameButClocks}
use Rattle.slots.proofs.States.{free_no_record}
use Rattle.slots.proofs.Records.{u32_in}
use Rattle.slots.proofs.Clocks.{slot_byte, clocks_turned}
use Rattle.remains.specs.Slot.{slot_at, is_zero, fields_of, tests_of, passes, told_of, told_at, look_rule, clockless, but_clock}
use Rattle.remains.specs.Count.{counted, count_of, count_rule}
use Rattle.remains.specs.declared.Counts.{Counts}
use Rattle.remains.specs.declared.Fields.{Fields}
use Rattle.remains.specs.declared.Tests.{Tests}
use Rattle.remains.specs.declared.Slot.{Slot}
use Rattle.remains.specs.declared.Slot.TheVariants.{Free, Held, Released, Damaged}
use Rattle.remains.proofs.Slots.{byte_at}

-- ---- the bytes of one slot

zero_byte : (r : List ℕ) (o : ℕ) → every is_zero r ≡ true → get_or r o 0 ≡ 0
unfolding is_zero
zero_byte r o e = go (dec_lt o (length r))
  where
    go : Dec (o < length r) → get_or r o 0 ≡ 0
    go (yes l) = eqb-true (get_or r o 0) 0 (every_at is_zero r o e l)
    go (no l) = get_or-eq_default r 0 (omega arith)

module _ (j k : List ℕ) (w : SameButClocks j k) (i : ℕ) where
  -- they are the same but for the clock's
  byte_same : (o : ℕ) → o < 32 → within 4 7 o ≡ false → get_or (slot_at j i) o 0 ≡ get_or (slot_at k i) o 0
  byte_same o l h = byte_at j i o l ∙ slot_byte j k w i o l h ∙ sym (byte_at k i o l)

  -- where no record stands all of them are
  free_same : is_record (state_at j (32 * i)) ≡ false → slot_at j i ≡ slot_at k i
  free_same h = part_same k j (32 * i) 32 w.size (λ o l.
      let q : (32 * i + o) / 32 ≡ i = omega arith in
      w.bytes (32 * i + o) (ap (λ (x : ℕ). within 4 7 ((32 * i + o) % 32) && is_record (state_at j (32 * x))) q
      ∙ ap (λ (t : Bool). within 4 7 ((32 * i + o) % 32) && t) h ∙ and-false (within 4 7 ((32 * i + o) % 32))))

  -- so that a slot that is all zero stays so
  zeros_stay : every is_zero (slot_at j i) ≡ true → every is_zero (slot_at k i) ≡ true
  zeros_stay e =
      let z : state_at j (32 * i) ≡ 0 = sym (byte_at j i 15 (omega arith)) ∙ zero_byte (slot_at j i) 15 e in
      sym (ap (every is_zero) (free_same (ap is_record z ∙ free_no_record))) ∙ e

-- ---- what one slot says

same_test : (t u : Bool) → (t ≡ true → u ≡ true) → (u ≡ true → t ≡ true) → t ≡ u
same_test true u f g = sym (f refl)
same_test false true f g = g refl
same_test false false f g = refl

told_but : (z p h : Bool) (f g : Fields) (t : Tests) → clockless f ≡ clockless g
    → but_clock (cond z Free (cond p (cond h (Held f) (Released f)) (Damaged f t)))
    ≡ but_clock (cond z Free (cond p (cond h (Held g) (Released g)) (Damaged g t)))
told_but true p h f g t e = refl
told_but false true true f g t e = ap Held e
told_but false true false f g t e = ap Released e
told_but false false h f g t e = λ x. Damaged (e x) t

module _ (j k : List ℕ) (w : SameButClocks j k) (i : ℕ) where
  abbrev r : List ℕ
  r = slot_at j i

  abbrev q : List ℕ
  q = slot_at k i

  serial_same : serial_at r 0 ≡ serial_at q 0
  serial_same = u32_in r q 0 0 0 (λ x l. byte_same j k w i (0 + (0 + x)) (omega arith) (under 4 7 (0 + (0 + x)) (omega arith)))

  amount_same : amount_at r 0 ≡ amount_at q 0
  amount_same = u32_in r q 0 0 8 (λ x l. byte_same j k w i (0 + (8 + x)) (omega arith) (over 4 7 (0 + (8 + x)) (omega arith)))

  length_same : length_at r 0 ≡ length_at q 0
  length_same = byte_same j k w i 14 (omega arith) refl

  state_same : state_at r 0 ≡ state_at q 0
  state_same = byte_same j k w i 15 (omega arith) refl

  rest_same : drop 16 r ≡ drop 16 q
  rest_same =
      ext_get_or 0 (drop 16 r) (drop 16 q) (simp (length-drop, length-take, w.size)) (λ x l.
      get_or-drop 16 r x 0
      ∙ byte_same j k w i (16 + x) (omega (arith, simp (length-drop, length-take) at l)) (over 4 7 (16 + x) (omega arith))
      ∙ sym (get_or-drop 16 q x 0))

  fields_same : clockless (fields_of r) ≡ clockless (fields_of q)
  unfolding fields_of u16_at
  fields_same = λ x. record {
    serial = serial_same x;
    clock = 0;
    amount = amount_same x;
    label = byte_same j k w i 12 (omega arith) refl x + 256 * byte_same j k w i 13 (omega arith) refl x;
    length = length_same x;
    state = state_same x;
  }

  zeros_same : drop (16 + kept (state_at r 0)) r ≡ drop (16 + kept (state_at q 0)) q
  zeros_same =
      sym (drop-drop (kept (state_at r 0)) 16 r) ∙ (λ x. drop (kept (state_same x)) (rest_same x))
      ∙ drop-drop (kept (state_at q 0)) 16 q

  tests_same : (n : ℕ) → tests_of n i r ≡ tests_of n i q
  unfolding tests_of
  tests_same n = λ x. record {
    serial = ltb 0 (serial_same x);
    slot = eqb (place n (serial_same x)) (32 * i);
    state = is_record (state_same x);
    amount = ltb 0 (amount_same x);
    length = length_fits (state_same x) (length_same x);
    digits = all_digits (take (kept (state_same x)) (rest_same x));
    zeros = every is_zero (zeros_same x);
  }

  zero_same : every is_zero r ≡ every is_zero q
  zero_same = same_test _ _ (zeros_stay j k w i) (zeros_stay k j (clocks_turned j k w) i)

  told_same : (n : ℕ) → but_clock (told_of n i r) ≡ but_clock (told_of n i q)
  unfolding told_of
  told_same n =
      let f = fields_of q in
      told_but (every is_zero r) (passes (tests_of n i r)) (is_held (state_at r 0)) (fields_of r) f (tests_of n i r) fields_same
      ∙ (λ x. but_clock (cond (zero_same x) Free
      (cond (passes (tests_same n x)) (cond (is_held (state_same x)) (Held f) (Released f)) (Damaged f (tests_same n x)))))

-- ---- what the slots come to goes by no clock

counted_but : (c : Counts) (s : Slot) → counted c (but_clock s) ≡ counted c s
counted_but c Free = refl
counted_but c (Held f) = refl
counted_but c (Released f) = refl
counted_but c (Damaged f t) = refl

count_but : (slot : ℕ → Slot) (m : ℕ) → count_of (λ (i : ℕ). but_clock (slot i)) m ≡ count_of slot m
unfolding count_of
count_but slot zero = refl
count_but slot (suc m) = ap (λ (c : Counts). counted c (but_clock (slot m))) (count_but slot m) ∙ counted_but (count_of slot m) (slot m)

-- ---- the calls

-- what a call makes of a look
of_look : {A : Type 0} (t u : Bool) (s : Slot) (f : Slot → Outcome A) → and_then (demand t 16 (demand u 20 (gives s))) f ≡ demand t 16 (demand u 20 (f s))
of_look true true s f = refl
of_look true false s f = refl
of_look false u s f = refl

module _ (j k : List ℕ) (w : SameButClocks j k) where
  pub slots_same : slots_of j ≡ slots_of k
  slots_same = ap (λ (x : ℕ). x / 32) w.size

  slot_same : (i : ℕ) → but_clock (told_at j i) ≡ but_clock (told_at k i)
  slot_same i = told_same j k w i (slots_of j) ∙ ap (λ (n : ℕ). but_clock (told_of n i (slot_at k i))) slots_same

  -- whatever is made of a slot by what it says but for its clock
  pub by_slot : {A : Type 0} (f : Slot → A) → ((s : Slot) → f (but_clock s) ≡ f s) → (i : ℕ) → f (told_at j i) ≡ f (told_at k i)
  by_slot f but i = sym (but (told_at j i)) ∙ ap f (slot_same i) ∙ but (told_at k i)

  pub by_look : {A : Type 0} (f g : Slot → Outcome A) (i : ℕ) → f (told_at j i) ≡ g (told_at k i) → and_then (look_rule j i) f ≡ and_then (look_rule k i) g
  unfolding look_rule
  by_look f g i e =
      of_look (sized (length j)) (ltb i (slots_of j)) (told_at j i) f
      ∙ (λ x. demand (sized (w.size x)) 16 (demand (ltb i (slots_same x)) 20 (e x)))
      ∙ sym (of_look (sized (length k)) (ltb i (slots_of k)) (told_at k i) g)

  -- a look says the same of each slot, its clock apart
  pub clock_look : (i : ℕ) → and_then (look_rule j i) (λ s. gives (but_clock s)) ≡ and_then (look_rule k i) (λ s. gives (but_clock s))
  clock_look i = by_look (λ s. gives (but_clock s)) (λ s. gives (but_clock s)) i (ap gives (slot_same i))

  -- the slots come to the same
  pub clock_count : count_rule j ≡ count_rule k
  unfolding count_rule
  clock_count =
      let c : count_of (told_at j) (slots_of j) ≡ count_of (told_at k) (slots_of k) =
      sym (count_but (told_at j) (slots_of j)) ∙ (λ x. count_of (λ (i : ℕ). slot_same i x) (slots_same x)) ∙ count_but (told_at k) (slots_of k) in
      λ x. demand (sized (w.size x)) 16 (gives (c x))
