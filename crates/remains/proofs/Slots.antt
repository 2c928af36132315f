-- What a slot's own bytes say against the journal's relations: free, a record that belongs there, or neither.
use Prim.Native.Nat.{ℕ, ◌≤◌, ◌<◌, ◌+◌, ◌-◌, ◌*◌}
use mathlib.Core.Path.{◌≡◌, refl, sym, ap, ◌∙◌, subst}
use mathlib.Core.Bool.{Bool, true, false, ◌&&◌}
use mathlib.Core.List.{List}
use native.Mathlib.Omega.{arith}
use borrow.Author.Tests.{ltb-true, lt-ltb, eqb-true, eq-eqb}
use lib.ListN.{length, get_or, take, drop, length-drop}
use lib.Seq.{get_or-take, get_or-drop, length-take-le}
use Rattle.text.specs.Bytes.{every, is_digit, all_digits}
use Rattle.text.specs.Numbers.{u32_at}
use Rattle.text.proofs.Every.{every_at}
use Rattle.text.proofs.Tests.{both_true}
use Rattle.slots.specs.Record.{is_held, is_released, is_record, length_fits, kept, serial_at, amount_at, state_at, Zeros, Digits}
use Rattle.slots.specs.Journal.{slots_of, place}
use Rattle.slots.proofs.Ranges.{differ}
use Rattle.slots.proofs.States.{kept-fits, state_released}
use Rattle.surveys.specs.Survey.{Belongs}
use Rattle.surveys.proofs.Surveys.{not_zero}
use Rattle.remains.specs.Slot.{slot_at, is_zero, fields_of, tests_of, passes, told_of, told_at}
use Rattle.remains.specs.declared.Fields.{Fields}
use Rattle.remains.specs.declared.Tests.{Tests}
use Rattle.remains.specs.declared.Slot.{Slot}
use Rattle.remains.specs.declared.Slot.TheVariants.{Free, Held, Released, Damaged}
use Rattle.remains.proofs.Bytes.{every_all, zeros_every, every_zeros}
use Rattle.remains.proofs.Rule.{told_free, told_held, told_released, told_damaged}

-- ---- the four cases

pub data Told (n k : ℕ) (r : List ℕ) : Slot → Type 0 where
  is_free : every is_zero r ≡ true → Told n k r Free
  is_held_lem : passes (tests_of n k r) ≡ true → is_held (state_at r 0) ≡ true → Told n k r (Held (fields_of r))
  is_released_lem : passes (tests_of n k r) ≡ true → is_held (state_at r 0) ≡ false → Told n k r (Released (fields_of r))
  is_damaged : every is_zero r ≡ false → passes (tests_of n k r) ≡ false → Told n k r (Damaged (fields_of r) (tests_of n k r))

pub told : (n k : ℕ) (r : List ℕ) → Told n k r (told_of n k r)
told n k r = go (every is_zero r) (passes (tests_of n k r)) (is_held (state_at r 0)) refl refl refl
  where
    go : (z p h : Bool) → every is_zero r ≡ z → passes (tests_of n k r) ≡ p → is_held (state_at r 0) ≡ h → Told n k r (told_of n k r)
    go true p h a b c = subst (Told n k r) (told_free n k r a) (is_free a)
    go false false h a b c = subst (Told n k r) (told_damaged n k r a b) (is_damaged a b)
    go false true true a b c = subst (Told n k r) (told_held n k r a b c) (is_held_lem b c)
    go false true false a b c = subst (Told n k r) (told_released n k r a b c) (is_released_lem b c)

field_serial : (r : List ℕ) → (fields_of r).serial ≡ serial_at r 0
unfolding fields_of
field_serial r = refl

-- ---- all tests

record Passed (t : Tests) : Type 0 where
  serial : t.serial ≡ true
  slot : t.slot ≡ true
  state : t.state ≡ true
  amount : t.amount ≡ true
  len : t.length ≡ true
  digits : t.digits ≡ true
  zeros : t.zeros ≡ true

all_passed : (t : Tests) → passes t ≡ true → Passed t
all_passed t e =
    let five = t.length && (t.digits && t.zeros) in
    let a = both_true t.serial (t.slot && (t.state && (t.amount && five))) e in
    let b = both_true t.slot (t.state && (t.amount && five)) a.1 in
    let c = both_true t.state (t.amount && five) b.1 in
    let d = both_true t.amount five c.1 in
    let f = both_true t.length (t.digits && t.zeros) d.1 in
    let g = both_true t.digits t.zeros f.1 in
    record { serial = a.0; slot = b.0; state = c.0; amount = d.0; len = f.0; digits = g.0; zeros = g.1 }

passed_all : (t : Tests) → Passed t → passes t ≡ true
passed_all t p = simp (p.serial, p.slot, p.state, p.amount, p.len, p.digits, p.zeros)

-- ---- a slot's bytes are the journal's

pub byte_at : (j : List ℕ) (k i : ℕ) → i < 32 → get_or (slot_at j k) i 0 ≡ get_or j (32 * k + i) 0
byte_at j k i h = get_or-take 32 (drop (32 * k) j) i 0 h ∙ get_or-drop (32 * k) j i 0

module _ (j : List ℕ) (k : ℕ) (there : 32 * k + 32 ≤ length j) where
  slot_length : length (slot_at j k) ≡ 32
  slot_length = length-take-le 32 (drop (32 * k) j) (omega (arith, length-drop (32 * k) j))

  word_at : (i : ℕ) → i + 4 ≤ 32 → u32_at (slot_at j k) i ≡ u32_at j (32 * k + i)
  unfolding u32_at
  word_at i h =
      let a = byte_at j k i (omega arith) in
      let b = byte_at j k (i + 1) (omega arith) in
      let c = byte_at j k (i + 2) (omega arith) in
      let d = byte_at j k (i + 3) (omega arith) in
      omega (
        arith,
        a,
        b ∙ ap (λ (x : ℕ). get_or j x 0) (sym (the_sum 1)),
        c ∙ ap (λ (x : ℕ). get_or j x 0) (sym (the_sum 2)),
        d ∙ ap (λ (x : ℕ). get_or j x 0) (sym (the_sum 3)),
      )
    where
      the_sum : (m : ℕ) → 32 * k + i + m ≡ 32 * k + (i + m)
      the_sum m = omega arith

  -- byte x of the journal, in the slot, is byte x − 32 k of the slot
  byte_back : (x : ℕ) → 32 * k ≤ x → x < 32 * k + 32 → get_or j x 0 ≡ get_or (slot_at j k) (x - 32 * k) 0
  byte_back x l h =
      let e : 32 * k + (x - 32 * k) ≡ x = omega arith in
      sym (ap (λ (y : ℕ). get_or j y 0) e) ∙ sym (byte_at j k (x - 32 * k) (omega arith))

  -- ---- free

  pub free_zeros : every is_zero (slot_at j k) ≡ true → Zeros j (32 * k) (32 * k + 32)
  free_zeros e x l h = byte_back x l h ∙ every_zeros (slot_at j k) 0 e (x - 32 * k) (omega arith) (omega (arith, slot_length))

  pub zeros_free : Zeros j (32 * k) (32 * k + 32) → every is_zero (slot_at j k) ≡ true
  zeros_free z = zeros_every (slot_at j k) 0 (λ i l h. byte_at j k i (omega (arith, slot_length)) ∙ z (32 * k + i) (omega arith) (omega (arith, slot_length)))

  -- ---- a record that belongs there

  pub serial_at_lem : serial_at (slot_at j k) 0 ≡ serial_at j (32 * k)
  serial_at_lem = word_at 0 (omega arith) ∙ ap (u32_at j) (omega arith)

  pub state_at_lem : state_at (slot_at j k) 0 ≡ state_at j (32 * k)
  state_at_lem = byte_at j k 15 (omega arith)

  -- place i of the n digits from 16 on
  digit_at : (n i : ℕ) → n ≤ 16 → i < n → get_or (take n (drop 16 (slot_at j k))) i 0 ≡ get_or j (32 * k + (16 + i)) 0
  digit_at n i l h = get_or-take n (drop 16 (slot_at j k)) i 0 h ∙ get_or-drop 16 (slot_at j k) i 0 ∙ byte_at j k (16 + i) (omega arith)

  digits_long : (n : ℕ) → n ≤ 16 → length (take n (drop 16 (slot_at j k))) ≡ n
  digits_long n l = length-take-le n (drop 16 (slot_at j k)) (omega (arith, length-drop 16 (slot_at j k), slot_length))

  digits_in : (n : ℕ) → n ≤ 16 → all_digits (take n (drop 16 (slot_at j k))) ≡ true → Digits j (32 * k + 16) (32 * k + 16 + n)
  digits_in n l e x a h =
      let i : ℕ = x - (32 * k + 16) in
      let q : 32 * k + (16 + i) ≡ x = omega arith in
      let d = every_at is_digit (take n (drop 16 (slot_at j k))) i e (omega (arith, digits_long n l)) in
      sym (ap is_digit (digit_at n i l (omega arith) ∙ ap (λ (y : ℕ). get_or j y 0) q)) ∙ d

  digits_out : (n : ℕ) → n ≤ 16 → Digits j (32 * k + 16) (32 * k + 16 + n) → all_digits (take n (drop 16 (slot_at j k))) ≡ true
  digits_out n l d = every_all is_digit (take n (drop 16 (slot_at j k))) (λ i h.
      let s = digits_long n l in
      ap is_digit (digit_at n i l (omega arith)) ∙ d (32 * k + (16 + i)) (omega arith) (omega arith))

  zeros_in : (n : ℕ) → every is_zero (drop (16 + n) (slot_at j k)) ≡ true → Zeros j (32 * k + 16 + n) (32 * k + 32)
  zeros_in n e x a h = byte_back x (omega arith) h ∙ every_zeros (slot_at j k) (16 + n) e (x - 32 * k) (omega arith) (omega (arith, slot_length))

  zeros_out : (n : ℕ) → Zeros j (32 * k + 16 + n) (32 * k + 32) → every is_zero (drop (16 + n) (slot_at j k)) ≡ true
  zeros_out n z = zeros_every (slot_at j k) (16 + n) (λ i l h.
      let s = slot_length in
      byte_at j k i (omega arith) ∙ z (32 * k + i) (omega arith) (omega arith))

  pub passes_belongs : passes (tests_of (slots_of j) k (slot_at j k)) ≡ true → Belongs j k
  unfolding tests_of
  passes_belongs e =
      let p = all_passed (tests_of (slots_of j) k (slot_at j k)) e in
      let s = serial_at_lem in
      let x = state_at_lem in
      let m = word_at 8 (omega arith) in
      record {
        some = omega (arith, ltb-true 0 (serial_at (slot_at j k) 0) p.serial);
        slot = sym (ap (place (slots_of j)) s) ∙ eqb-true (place (slots_of j) (serial_at (slot_at j k) 0)) (32 * k) p.slot;
        good = record {
          serial = refl;
          amount = omega (arith, ltb-true 0 (amount_at (slot_at j k) 0) p.amount);
          state = sym (ap (λ (y : ℕ). is_record y) x) ∙ p.state;
          len = sym (λ i. length_fits (x i) (byte_at j k 14 (omega arith) i)) ∙ p.len;
          digits = digits_in (kept (state_at j (32 * k))) (kept-fits _) (sym (ap (λ (y : ℕ). all_digits (take (kept y) (drop 16 (slot_at j k)))) x) ∙ p.digits);
          zeros = zeros_in (kept (state_at j (32 * k))) (sym (ap (λ (y : ℕ). every is_zero (drop (16 + kept y) (slot_at j k))) x) ∙ p.zeros);
        };
      }

  pub belongs_passes : Belongs j k → passes (tests_of (slots_of j) k (slot_at j k)) ≡ true
  unfolding tests_of
  belongs_passes b =
      let s = serial_at_lem in
      let x = state_at_lem in
      let m = word_at 8 (omega arith) in
      let g = b.good in
      passed_all (tests_of (slots_of j) k (slot_at j k)) (record {
        serial = lt-ltb 0 (serial_at (slot_at j k) 0) (omega (arith, b.some));
        slot = eq-eqb (place (slots_of j) (serial_at (slot_at j k) 0)) (32 * k) (ap (place (slots_of j)) s ∙ b.slot);
        state = ap (λ (y : ℕ). is_record y) x ∙ g.state;
        amount = lt-ltb 0 (amount_at (slot_at j k) 0) (omega (arith, g.amount));
        len = (λ i. length_fits (x i) (byte_at j k 14 (omega arith) i)) ∙ g.len;
        digits = ap (λ (y : ℕ). all_digits (take (kept y) (drop 16 (slot_at j k)))) x ∙ digits_out (kept (state_at j (32 * k))) (kept-fits _) g.digits;
        zeros = ap (λ (y : ℕ). every is_zero (drop (16 + kept y) (slot_at j k))) x ∙ zeros_out (kept (state_at j (32 * k))) g.zeros;
      })

-- ---- what a slot of a journal says

pub data Stands (j : List ℕ) (k : ℕ) : Slot → Type 0 where
  stands_free : Zeros j (32 * k) (32 * k + 32) → Stands j k Free
  stands_held : {f : Fields} → Belongs j k → is_held (state_at j (32 * k)) ≡ true → f.serial ≡ serial_at j (32 * k) → Stands j k (Held f)
  stands_released : {f : Fields} → Belongs j k → is_released (state_at j (32 * k)) ≡ true → f.serial ≡ serial_at j (32 * k)
      → Stands j k (Released f)
  stands_damaged : {f : Fields} {t : Tests} → (Zeros j (32 * k) (32 * k + 32) → ⊥) → (Belongs j k → ⊥) → Stands j k (Damaged f t)

pub stands : (j : List ℕ) (k : ℕ) → 32 * k + 32 ≤ length j → Stands j k (told_at j k)
stands j k there = go (told_at j k) (told (slots_of j) k (slot_at j k))
  where
    field : (fields_of (slot_at j k)).serial ≡ serial_at j (32 * k)
    field = field_serial (slot_at j k) ∙ serial_at_lem j k there

    go : (s : Slot) → Told (slots_of j) k (slot_at j k) s → Stands j k s
    go s (is_free z) = stands_free (free_zeros j k there z)
    go s (is_held_lem p h) = stands_held (passes_belongs j k there p) (sym (ap is_held (state_at_lem j k there)) ∙ h) field
    go s (is_released_lem p h) =
        let b = passes_belongs j k there p in
        let gone = state_released (state_at j (32 * k)) b.good.state (sym (ap is_held (state_at_lem j k there)) ∙ h) in
        stands_released b gone field
    go s (is_damaged z p) =
        stands_damaged (λ y. differ (every is_zero (slot_at j k)) z (zeros_free j k there y))
        (λ b. differ (passes (tests_of (slots_of j) k (slot_at j k))) p (belongs_passes j k there b))

-- a slot that is all zero is free
pub zeros_told : (j : List ℕ) (k : ℕ) (s : Slot) → Stands j k s → Zeros j (32 * k) (32 * k + 32) → s ≡ Free
zeros_told j k s (stands_free z) y = refl
zeros_told j k s (stands_held a h q) y = absurd (not_zero j k a y)
zeros_told j k s (stands_released a h q) y = absurd (not_zero j k a y)
zeros_told j k s (stands_damaged z a) y = absurd (z y)
