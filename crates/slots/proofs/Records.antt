-- The record that a booking writes, and records told byte by byte.
use Prim.Native.Nat.{ℕ, ◌≤◌, ◌<◌, ◌+◌, ◌-◌}
use mathlib.Core.Path.{◌≡◌, refl, sym, ap, ◌∙◌}
use mathlib.Core.Bool.{Bool, true, false, ◌||◌}
use mathlib.Core.List.{List, [], ◌∷◌, ◌++◌, append_assoc}
use native.Mathlib.Omega.{arith}
use native.Mathlib.Decide.{dec_lt}
use lib.ListN.{length, get_or, set, take, drop, replicate, length-append, length-drop, length-replicate, replicate-append-replicate, get_or-replicate, get_or-append}
use lib.Seq.{length-take-le, take_all, drop-drop, drop_at, take-append_seam, drop-append_seam, drop-append-add, get_or-take, get_or-drop, get_or-append-add}
use Rattle.text.specs.Bytes.{within, is_digit, all_digits}
use Rattle.text.specs.Numbers.{u32_at, le16, le32, put}
use Rattle.text.proofs.Tests.{under, over}
use Rattle.text.proofs.Every.{every_at}
use Rattle.text.proofs.Numbers.{u32_le32}
use Rattle.pan.specs.Pan.{pan_length, front_shown, back_shown, front, back, shown, masked}
use Rattle.pan.proofs.Masked.{shown-fits, front_length}
use Rattle.slots.specs.Record.{is_held, is_released, is_record, held_state, length_fits, front_kept, back_kept, kept, serial_at, amount_at, length_at, state_at, Good, record32, masked_of}
use Rattle.slots.proofs.States.{kept-fits, booked_held, booked-length, booked-front, booked-back}

-- ---- the bytes that a booking writes

-- the fields, written one after another over zeros: r has serial, clock and amount
pub fields_are : (serial clock amount label n : ℕ) (s c r l : List ℕ) → s ≡ put (replicate 32 0) 0 (le32 serial) → c ≡ put s 4 (le32 clock)
    → r ≡ put c 8 (le32 amount) → l ≡ le16 label
    → set (set (set (set r 12 (get_or l 0 0)) 13 (get_or l 1 0)) 14 n) 15 1
    ≡ le32 serial ++ (le32 clock ++ (le32 amount ++ (le16 label ++ (n ∷ held_state n ∷ replicate 16 0))))
unfolding put le32 le16 held_state
fields_are serial clock amount label n s c r l es ec er el =
    rw (el, er, ec, es)

-- zeros without k of them, and a run written behind w over zeros
zeros_left : (k n : ℕ) → k ≤ n → drop {A = ℕ} k (replicate n 0) ≡ replicate (n - k) 0
zeros_left k n h =
    let all : k + (n - k) ≡ n = omega arith in
    ap (drop k) (sym (replicate-append-replicate k (n - k) 0 ∙ ap (λ (m : ℕ). replicate m 0) all))
    ∙ drop_at (replicate k 0) (replicate (n - k) 0) k (length-replicate k 0)

written : (w vs : List ℕ) (at n : ℕ) → at ≡ length w → length vs ≤ n → put (w ++ replicate n 0) at vs ≡ (w ++ vs) ++ replicate (n - length vs) 0
unfolding put
written w vs at n e h =
    ap (λ (k : ℕ). put (w ++ replicate n 0) k vs) e
    ∙ ap (λ (l : List ℕ). l ++ vs ++ drop (length w + length vs) (w ++ replicate n 0)) (take-append_seam w (replicate n 0))
    ∙ ap (λ (l : List ℕ). (w ++ vs) ++ l) (drop-append-add w (replicate n 0) (length vs) ∙ zeros_left (length vs) n h)

-- the digits, written behind the fields
pub digits_are : (fields a b : List ℕ) (at from : ℕ) → at ≡ length fields → from ≡ length (fields ++ a) → length a + length b ≤ 16
    → put (put (fields ++ replicate 16 0) at a) from b ≡ fields ++ ((a ++ b) ++ replicate (16 - length (a ++ b)) 0)
digits_are fields a b at from ea eb h =
    let left : 16 - length a - length b ≡ 16 - length (a ++ b) = omega (arith, length-append a b) in
    ap (λ (l : List ℕ). put l from b) (written fields a at 16 ea (omega arith))
    ∙ written (fields ++ a) b from (16 - length a) eb (omega arith)
    ∙ ap (λ (k : ℕ). ((fields ++ a) ++ b) ++ replicate k 0) left
    ∙ ap (λ (l : List ℕ). l ++ replicate (16 - length (a ++ b)) 0) (append_assoc fields a b)
    ∙ append_assoc fields (a ++ b) (replicate (16 - length (a ++ b)) 0)

pub record_is : (serial clock amount label : ℕ) (pan r p q : List ℕ) → 13 ≤ length pan
    → r ≡ le32 serial ++ (le32 clock ++ (le32 amount ++ (le16 label ++ (length pan ∷ held_state (length pan) ∷ replicate 16 0))))
    → p ≡ put r 16 (take 6 pan) → q ≡ put p 22 (take (length pan - (length pan - 4)) (drop (length pan - 4) pan))
    → q ≡ record32 serial clock amount label pan
unfolding record32 le32 le16 held_state front_shown back_shown
record_is serial clock amount label pan r p q h is-fields is_front is-back =
    let fields : List ℕ = le32 serial ++ (le32 clock ++ (le32 amount ++ (le16 label ++ (length pan ∷ held_state (length pan) ∷ [])))) in
    let a : List ℕ = take 6 pan in
    let b : List ℕ = drop (length pan - 4) pan in
    let six : length a ≡ 6 = length-take-le 6 pan (omega arith) in
    let four : length b ≡ 4 = length-drop (length pan - 4) pan ∙ omega arith in
    is-back
    ∙ ap (put p 22) (take_all (length pan - (length pan - 4)) b (omega arith))
    ∙ ap (λ (l : List ℕ). put l 22 b) (is_front ∙ ap (λ (l : List ℕ). put l 16 a) is-fields)
    ∙ digits_are fields a b 16 22 refl (sym (length-append fields a ∙ ap (λ (k : ℕ). 16 + k) six)) (omega arith)

-- ---- what a record of a card number has

module _ (pan : List ℕ) (long : pan_length (length pan) ≡ true) where
  back_length : length (back pan) ≡ back_shown (length pan)
  back_length = length-drop (length pan - back_shown (length pan)) pan ∙ omega (arith, shown-fits (length pan) long)

  -- the digits shown are as many as the record keeps
  pub shown_long : length (shown pan) ≡ kept (held_state (length pan))
  shown_long =
      length-append (front pan) (back pan) ∙ omega (arith, front_length pan long, back_length, booked-front (length pan), booked-back (length pan))

  -- each of them is a digit of the PAN
  pub shown_digit : all_digits pan ≡ true → (e : ℕ) → e < length (shown pan) → is_digit (get_or (shown pan) e 0) ≡ true
  shown_digit d e h = go (dec_lt e (length (front pan)))
    where
      f : length (front pan) ≡ front_shown (length pan)
      f = front_length pan long

      go : Dec (e < length (front pan)) → is_digit (get_or (front pan ++ back pan) e 0) ≡ true
      go (yes l) =
          ap is_digit (get_or-append (front pan) (back pan) 0 e l ∙ get_or-take (front_shown (length pan)) pan e 0 (omega (arith, f)))
          ∙ every_at is_digit pan e d (omega (arith, f, shown-fits (length pan) long))
      go (no l) =
          let x : ℕ = e - length (front pan) in
          let q : e ≡ length (front pan) + x = omega arith in
          ap is_digit (ap (λ (y : ℕ). get_or (front pan ++ back pan) y 0) q ∙ get_or-append-add (front pan) (back pan) x 0 ∙ get_or-drop (length pan - back_shown (length pan)) pan x 0)
          ∙ every_at is_digit pan (length pan - back_shown (length pan) + x) d
          (omega (arith, h, back_length, length-append (front pan) (back pan), shown-fits (length pan) long))

module _ (s clock amount label : ℕ) (pan : List ℕ) where
  abbrev pub the : List ℕ
  the = record32 s clock amount label pan

  -- the sixteen bytes before the digits, and those after
  ahead : List ℕ
  ahead = le32 s ++ (le32 clock ++ (le32 amount ++ (le16 label ++ (length pan ∷ held_state (length pan) ∷ []))))

  behind : List ℕ
  behind = shown pan ++ replicate (16 - length (shown pan)) 0

  halves : the ≡ ahead ++ behind
  unfolding record32 le32 le16 ahead behind
  halves = refl

  ahead_long : length ahead ≡ 16
  unfolding le32 le16 ahead
  ahead_long = refl

  drop_ahead : drop 16 the ≡ behind
  drop_ahead = ap (drop 16) halves ∙ drop_at ahead behind 16 ahead_long

  -- byte 16 + e
  late : (e : ℕ) → get_or the (16 + e) 0 ≡ get_or behind e 0
  late e =
      let q : 16 + e ≡ length ahead + e = ap (λ (x : ℕ). x + e) (sym ahead_long) in
      ap (λ (l : List ℕ). get_or l (16 + e) 0) halves ∙ ap (λ (x : ℕ). get_or (ahead ++ behind) x 0) q ∙ get_or-append-add ahead behind e 0

  pub serial_of_lem : s < 4294967296 → serial_at the 0 ≡ s
  unfolding record32
  serial_of_lem h = u32_le32 s _ h

  pub amount_of_lem : amount < 4294967296 → amount_at the 0 ≡ amount
  unfolding record32 le32 u32_at
  amount_of_lem h = u32_le32 amount [] h

  pub length_of : length_at the 0 ≡ length pan
  unfolding record32 le32 le16
  length_of = refl

  pub state_of_lem : state_at the 0 ≡ held_state (length pan)
  unfolding record32 le32 le16
  state_of_lem = refl

  pub record_held : is_held (state_at the 0) ≡ true
  record_held = ap is_held state_of_lem ∙ booked_held (length pan)

  module _ (long : pan_length (length pan) ≡ true) where
    pub record_long : length the ≡ 32
    unfolding behind
    record_long =
        let k = shown_long pan long in
        let m = kept-fits (held_state (length pan)) in
        let z : length {A = ℕ} (replicate (16 - length (shown pan)) 0) ≡ 16 - length (shown pan) = length-replicate (16 - length (shown pan)) 0 in
        ap length halves ∙ length-append ahead behind
        ∙ omega (arith, ahead_long, length-append (shown pan) (replicate {A = ℕ} (16 - length (shown pan)) 0))

    digit_of : all_digits pan ≡ true → (e : ℕ) → e < kept (held_state (length pan)) → is_digit (get_or the (16 + e) 0) ≡ true
    unfolding behind
    digit_of d e h =
        let k = shown_long pan long in
        ap is_digit (late e ∙ get_or-append (shown pan) (replicate (16 - length (shown pan)) 0) 0 e (omega arith)) ∙ shown_digit pan long d e (omega arith)

    zero_of : (e : ℕ) → kept (held_state (length pan)) ≤ e → e < 16 → get_or the (16 + e) 0 ≡ 0
    unfolding behind
    zero_of e l h =
        let k = shown_long pan long in
        let q : e ≡ length (shown pan) + (e - length (shown pan)) = omega arith in
        late e ∙ ap (λ (x : ℕ). get_or (shown pan ++ replicate (16 - length (shown pan)) 0) x 0) q
        ∙ get_or-append-add (shown pan) (replicate (16 - length (shown pan)) 0) (e - length (shown pan)) 0
        ∙ get_or-replicate (16 - length (shown pan)) (e - length (shown pan)) 0 0 (omega arith)

    -- its masked text is the PAN's
    pub masked_record : masked_of the ≡ masked pan
    unfolding masked_of masked behind
    masked_record =
        let n : ℕ = length pan in
        let x = state_of_lem in
        let f : front_kept (state_at the 0) ≡ length (front pan) = ap front_kept x ∙ booked-front n ∙ sym (front_length pan long) in
        let b : back_kept (state_at the 0) ≡ length (back pan) = ap back_kept x ∙ booked-back n ∙ sym (back_length pan long) in
        let digits : drop 16 the ≡ front pan ++ (back pan ++ replicate (16 - length (shown pan)) 0) = drop_ahead ∙ append_assoc (front pan) (back pan) (replicate (16 - length (shown pan)) 0) in
        let first : take (front_kept (state_at the 0)) (drop 16 the) ≡ front pan =
        (λ i. take (f i) (digits i)) ∙ take-append_seam (front pan) (back pan ++ replicate (16 - length (shown pan)) 0) in
        let last : take (back_kept (state_at the 0)) (drop (16 + front_kept (state_at the 0)) the) ≡ back pan =
        ap (take (back_kept (state_at the 0))) (sym (drop-drop (front_kept (state_at the 0)) 16 the) ∙ (λ i. drop (f i) (digits i)) ∙ drop-append_seam (front pan) (back pan ++ replicate (16 - length (shown pan)) 0))
        ∙ ap (λ (k : ℕ). take k (back pan ++ replicate (16 - length (shown pan)) 0)) b ∙ take-append_seam (back pan) (replicate (16 - length (shown pan)) 0) in
        let hidden : length_at the 0 - front_kept (state_at the 0) - back_kept (state_at the 0) ≡ n - front_shown n - back_shown n =
        (λ i. length_of i - (ap front_kept x ∙ booked-front n) i - (ap back_kept x ∙ booked-back n) i) in
        λ i. first i ++ replicate (hidden i) 42 ++ last i

-- ---- records told byte by byte

-- a number of a record is the number of the bytes that stand there
pub u32_in : (k v : List ℕ) (at from o : ℕ) → ((x : ℕ) → x < 4 → get_or k (at + (o + x)) 0 ≡ get_or v (from + (o + x)) 0) → u32_at k (at + o) ≡ u32_at v (from + o)
unfolding u32_at
u32_in k v at from o same =
    let f : (x : ℕ) → x < 4 → get_or k (at + o + x) 0 ≡ get_or v (from + o + x) 0 =
    λ x l. let e : at + o + x ≡ at + (o + x) = omega arith in let g : from + (o + x) ≡ from + o + x = omega arith in
    ap (λ (m : ℕ). get_or k m 0) e ∙ same x l ∙ ap (λ (m : ℕ). get_or v m 0) g in
    let a0 : at + o + 0 ≡ at + o = omega arith in
    let f0 : from + o + 0 ≡ from + o = omega arith in
    let z : get_or k (at + o) 0 ≡ get_or v (from + o) 0 = (λ i. get_or k (sym a0 i) 0) ∙ f 0 (omega arith) ∙ (λ i. get_or v (f0 i) 0) in
    omega (arith, z, f 1 (omega arith), f 2 (omega arith), f 3 (omega arith))

-- a good record is good wherever its bytes stand, its clock apart; its state may change into another that keeps as much
pub good_same : (v k : List ℕ) (from at s : ℕ) → ((i : ℕ) → i < 32 → (i ≡ 15 → ⊥) → within 4 7 i ≡ false → get_or k (at + i) 0 ≡ get_or v (from + i) 0)
    → is_record (state_at k at) ≡ true → kept (state_at k at) ≡ kept (state_at v from)
    → length_fits (state_at k at) (length_at v from) ≡ length_fits (state_at v from) (length_at v from) → Good v from s → Good k at s
good_same v k from at s same st ek el g =
    let a0 : at + 0 ≡ at = omega arith in
    let f0 : from + 0 ≡ from = omega arith in
    let ser : u32_at k (at + 0) ≡ u32_at v (from + 0) = u32_in k v at from 0 (λ x l. same (0 + x) (omega arith) (λ q. omega arith) (under 4 7 (0 + x) (omega arith))) in
    let am : u32_at k (at + 8) ≡ u32_at v (from + 8) = u32_in k v at from 8 (λ x l. same (8 + x) (omega arith) (λ q. omega arith) (over 4 7 (8 + x) (omega arith))) in
    let fits = kept-fits (state_at v from) in
    record {
      serial = (λ i. u32_at k (sym a0 i)) ∙ ser ∙ (λ i. u32_at v (f0 i)) ∙ g.serial;
      amount = omega (arith, am, g.amount);
      state = st;
      len = ap (length_fits (state_at k at)) (same 14 (omega arith) (λ q. omega arith) refl) ∙ el ∙ g.len;
      digits = λ i a b.
          let e : i ≡ at + (i - at) = omega arith in
          ap (λ (m : ℕ). is_digit (get_or k m 0)) e ∙ ap is_digit (same (i - at) (omega arith) (λ q. omega arith) (over 4 7 (i - at) (omega arith))) ∙ g.digits (from + (i - at)) (omega arith) (omega arith);
      zeros = λ i a b.
          let e : i ≡ at + (i - at) = omega arith in
          ap (λ (m : ℕ). get_or k m 0) e ∙ same (i - at) (omega arith) (λ q. omega arith) (over 4 7 (i - at) (omega arith)) ∙ g.zeros (from + (i - at)) (omega arith) (omega arith);
    }

-- the booked record is a good one
pub good_new : (s clock amount label : ℕ) (pan : List ℕ) → pan_length (length pan) ≡ true → all_digits pan ≡ true → s < 4294967296 → 0 < amount → amount < 4294967296
    → Good (record32 s clock amount label pan) 0 s
good_new s clock amount label pan long digits hs ha hb =
    let st = state_of_lem s clock amount label pan in
    let kp : kept (state_at (record32 s clock amount label pan) 0) ≡ kept (held_state (length pan)) = ap kept st in
    record {
      serial = serial_of_lem s clock amount label pan hs;
      amount = omega (arith, amount_of_lem s clock amount label pan hb);
      state = ap (λ (t : Bool). t || is_released (state_at (record32 s clock amount label pan) 0)) (record_held s clock amount label pan);
      len = ap (λ (x : ℕ). length_fits x (length_at (record32 s clock amount label pan) 0)) st ∙ ap (length_fits (held_state (length pan))) (length_of s clock amount label pan) ∙ booked-length (length pan) long;
      digits = λ i a b.
          let e : i ≡ 16 + (i - 16) = omega arith in
          ap (λ (m : ℕ). is_digit (get_or (record32 s clock amount label pan) m 0)) e ∙ digit_of s clock amount label pan long digits (i - 16) (omega arith);
      zeros = λ i a b.
          let e : i ≡ 16 + (i - 16) = omega arith in
          ap (λ (m : ℕ). get_or (record32 s clock amount label pan) m 0) e ∙ zero_of s clock amount label pan long (i - 16) (omega arith) (omega arith);
    }
