-- "No call compares clocks": the held lists of two journals that differ in clocks alone, and what tell and show answer.
use Rattle.std.proofs.Common.{Option}
use Prim.Native.Nat.{ℕ, zero, suc, ◌≤◌, ◌<◌, ◌+◌, ◌-◌, ◌/◌, ◌%◌}
use mathlib.Core.Path.{◌≡◌, refl, sym, ap, ◌∙◌, subst}
use mathlib.Core.Bool.{Bool, true, false, cond, ◌&&◌}
use mathlib.Core.List.{List, ◌∷◌, ◌++◌}
use native.Mathlib.Omega.{arith}
use native.Mathlib.Decide.{dec_le, dec_lt}
use lib.ListN.{length, get_or, drop, get_or-append}
use lib.Seq.{get_or-take, get_or-drop, get_or-append-add}
use Rattle.text.specs.Bytes.{within}
use Rattle.text.specs.Numbers.{le32}
use Rattle.text.proofs.Tests.{under, over, inside}
use Rattle.reasons.specs.Reasons.{gives, demand}
use Rattle.slots.specs.Record.{is_held, record32}
use Rattle.slots.specs.Journal.{slots_of, place, state_of, SameButClocks}
use Rattle.slots.specs.Views.{formed, newest}
use Rattle.slots.proofs.Ranges.{differ}
use Rattle.slots.proofs.Records.{u32_in}
use Rattle.slots.proofs.Clocks.{slot_byte, same_state}
use Rattle.held.specs.Held.{record_at, held_after, held_up_to, held_list, low_of, amount_of, serial_of, sum_of, first_of, SameRecord, SameRecords, none, more}
use Rattle.held.specs.Rules.{tell_rule, held_in, show_rule}

-- ---- a record but for its clock

-- lists that differ in a middle part of one length
middle_apart : (u v w t : List ℕ) (i : ℕ) → length v ≡ length w → (i < length u → ⊥) → length u + length v ≤ i
    → get_or (u ++ (v ++ t)) i 0 ≡ get_or (u ++ (w ++ t)) i 0
middle_apart u v w t i e a h =
    let x : ℕ = i - (length u + length v) in
    let p : i ≡ length u + (length v + x) = omega arith in
    let q : length u + (length w + x) ≡ i = omega arith in
    ap (λ (y : ℕ). get_or (u ++ (v ++ t)) y 0) p ∙ get_or-append-add u (v ++ t) (length v + x) 0 ∙ get_or-append-add v t x 0
    ∙ sym (get_or-append-add w t x 0) ∙ sym (get_or-append-add u (w ++ t) (length w + x) 0) ∙ ap (λ (y : ℕ). get_or (u ++ (w ++ t)) y 0) q

four : (x : ℕ) → length (le32 x) ≡ 4
unfolding le32
four x = refl

pub clock_record : (s c d a l : ℕ) (p : List ℕ) → SameRecord (record32 s c a l p) (record32 s d a l p)
unfolding record32
clock_record s c d a l p i b h = go (dec_lt i 4) (dec_le 8 i)
  where
    go : Dec (i < 4) → Dec (8 ≤ i) → get_or (record32 s c a l p) i 0 ≡ get_or (record32 s d a l p) i 0
    go (yes q) y = get_or-append (le32 s) _ 0 i (omega (arith, four s)) ∙ sym (get_or-append (le32 s) _ 0 i (omega (arith, four s)))
    go (no q) (yes y) = middle_apart (le32 s) (le32 c) (le32 d) _ i (four c ∙ sym (four d)) (λ z. omega (arith, four s)) (omega (arith, four s, four c))
    go (no q) (no y) = absurd (differ (within 4 7 i) h (inside 4 7 i (omega arith) (omega arith)))

-- ---- what the lists of held records come to

pub same_length : (rs qs : List (List ℕ)) → SameRecords rs qs → length rs ≡ length qs
same_length rs qs none = refl
same_length rs qs (more {rs = rs'} {qs = qs'} s w) = ap suc (same_length rs' qs' w)

same_amount : (r q : List ℕ) → SameRecord r q → amount_of r ≡ amount_of q
same_amount r q s = u32_in r q 0 0 8 (λ x l. s (0 + (8 + x)) (omega arith) (over 4 7 (0 + (8 + x)) (omega arith)))

same_serial : (r q : List ℕ) → SameRecord r q → serial_of r ≡ serial_of q
same_serial r q s = u32_in r q 0 0 0 (λ x l. s (0 + (0 + x)) (omega arith) (under 4 7 (0 + (0 + x)) (omega arith)))

pub same_sum : (rs qs : List (List ℕ)) → SameRecords rs qs → sum_of rs ≡ sum_of qs
unfolding sum_of
same_sum rs qs none = refl
same_sum rs qs (more {r = r} {q = q} {rs = rs'} {qs = qs'} s w) = λ i. same_amount r q s i + same_sum rs' qs' w i

pub same_first : (rs qs : List (List ℕ)) → SameRecords rs qs → first_of rs ≡ first_of qs
unfolding first_of
same_first rs qs none = refl
same_first rs qs (more {r = r} {q = q} s w) = same_serial r q s

-- ---- two journals that differ in clocks alone

module _ (j k : List ℕ) (w : SameButClocks j k) where
  pub slots_same : slots_of j ≡ slots_of k
  slots_same = ap (λ (x : ℕ). x / 32) w.size

  -- the records handed out differ in their clocks alone
  pub clock_shown : (n s : ℕ) → SameRecord (record_at j n s) (record_at k n s)
  unfolding record_at
  clock_shown n s i l h =
      get_or-take 32 (drop (place n s) j) i 0 l ∙ get_or-drop (place n s) j i 0 ∙ slot_byte j k w ((s - 1) % n) i l h
      ∙ sym (get_or-take 32 (drop (place n s) k) i 0 l ∙ get_or-drop (place n s) k i 0)

  pub clock_held : (n low m : ℕ) → SameRecords (held_after j n low m) (held_after k n low m)
  unfolding held_after
  clock_held n low zero = none
  clock_held n low (suc m) =
      go (is_held (state_of j n (low + 1))) (is_held (state_of k n (low + 1))) (ap is_held (same_state j k w n (low + 1))) (clock_held n (low + 1) m)
    where
      go : (s t : Bool) → s ≡ t → SameRecords (held_after j n (low + 1) m) (held_after k n (low + 1) m)
          → SameRecords (cond s (record_at j n (low + 1) ∷ held_after j n (low + 1) m) (held_after j n (low + 1) m))
          (cond t (record_at k n (low + 1) ∷ held_after k n (low + 1) m) (held_after k n (low + 1) m))
      go true true e a = more (clock_shown n (low + 1)) a
      go false false e a = a
      go true false e a = absurd (differ true e refl)
      go false true e a = absurd (differ false refl e)

  pub clock_list : (b : ℕ) → SameRecords (held_list j b) (held_list k b)
  clock_list b =
      subst (λ (n : ℕ). SameRecords (held_list j b) (held_after k n (b - n) (b - (b - n)))) slots_same (clock_held (slots_of j) (low_of j b) (b - low_of j b))

  pub clock_up_to : (b s : ℕ) → SameRecords (held_up_to j b s) (held_up_to k b s)
  clock_up_to b s =
      subst (λ (n : ℕ). SameRecords (held_up_to j b s) (held_after k n (b - n) (s - (b - n)))) slots_same (clock_held (slots_of j) (low_of j b) (s - low_of j b))

  -- ---- the rules

  pub clock_tell : (m : Option ℕ) → tell_rule m j ≡ tell_rule m k
  unfolding tell_rule
  clock_tell m =
      let u = clock_list (newest m) in
      λ i. demand (formed m) 16 (gives (record { count = same_length _ _ u i; sum = same_sum _ _ u i; oldest = same_first _ _ u i; newest = newest m }))

  pub clock_show : (m : Option ℕ) (s : ℕ) → show_rule m j s ≡ show_rule m k s
  unfolding show_rule held_in
  clock_show m s =
      λ i. demand (formed m) 16 (demand (within (newest m - slots_same i + 1) (newest m) s && is_held (same_path i)) 20 (gives (place (slots_same i) s)))
    where
      same_path : state_of j (slots_of j) s ≡ state_of k (slots_of k) s
      same_path = same_state j k w (slots_of j) s ∙ ap (λ (n : ℕ). state_of k n s) slots_same
