-- The rules, outcome by outcome.
use Prim.Native.Nat.{ℕ, ◌+◌, ◌≤◌, ◌<◌}
use mathlib.Core.Path.{◌≡◌, sym, ap}
use mathlib.Core.Bool.{true, false}
use mathlib.Core.List.{List}
use native.Mathlib.Numerals.{add-one}
use borrow.Author.Tests.{ltb-true, lt-ltb, le-ltb}
use lib.Dec.{ltb}
use lib.ListN.{length}
use Rattle.reasons.specs.Reasons.{gives, refuses}
use Rattle.reasons.proofs.Laws.{passed}
use Rattle.slots.specs.Record.{is_held, state_at}
use Rattle.slots.specs.Journal.{slots_of, sized}
use Rattle.text.specs.Bytes.{every}
use Rattle.remains.specs.Slot.{is_zero, fields_of, tests_of, passes, told_of, told_at, look_rule}
use Rattle.remains.specs.Count.{counted, count_of, count_rule}
use Rattle.remains.specs.declared.Counts.{Counts}
use Rattle.remains.specs.declared.Slot.{Slot}
use Rattle.remains.specs.declared.Slot.TheVariants.{Free, Held, Released, Damaged}

-- ---- a slot

module _ (n k : ℕ) (r : List ℕ) where
  pub told_free : every is_zero r ≡ true → Free ≡ told_of n k r
  unfolding told_of
  told_free z = simp z

  module _ (some : every is_zero r ≡ false) where
    pub told_damaged : passes (tests_of n k r) ≡ false → Damaged (fields_of r) (tests_of n k r) ≡ told_of n k r
    unfolding told_of
    told_damaged p = simp (some, p)

    pub told_held : passes (tests_of n k r) ≡ true → is_held (state_at r 0) ≡ true → Held (fields_of r) ≡ told_of n k r
    unfolding told_of
    told_held p h = simp (some, p, h)

    pub told_released : passes (tests_of n k r) ≡ true → is_held (state_at r 0) ≡ false → Released (fields_of r) ≡ told_of n k r
    unfolding told_of
    told_released p h = simp (some, p, h)

-- ---- what the slots come to

pub count_none : (slot : ℕ → Slot) (c : Counts) → c.held ≡ 0 → c.sum ≡ 0 → c.released ≡ 0 → c.damaged ≡ 0 → c ≡ count_of slot 0
unfolding count_of
count_none slot c h s r d = λ i. record { held = h i; sum = s i; released = r i; damaged = d i }

pub count_more : (slot : ℕ → Slot) (m : ℕ) (c : Counts) → c ≡ count_of slot m → counted c (slot m) ≡ count_of slot (m + 1)
unfolding count_of
count_more slot m c h = rw add-one (ap (λ (d : Counts). counted d (slot m)) h)

-- ---- the calls

module _ (j : List ℕ) (k : ℕ) where
  pub look_length : sized (length j) ≡ false → refuses 16 ≡ look_rule j k
  unfolding look_rule
  look_length e = simp e

  pub look_past : sized (length j) ≡ true → slots_of j ≤ k → refuses 20 ≡ look_rule j k
  unfolding look_rule
  look_past e h = simp (e, le-ltb k (slots_of j) h)

  pub look_says : sized (length j) ≡ true → k < slots_of j → gives (told_at j k) ≡ look_rule j k
  unfolding look_rule
  look_says e h = simp (e, lt-ltb k (slots_of j) h)

  -- a look that isn't refused is at a slot that is there
  pub look_there : (s : Slot) → gives s ≡ look_rule j k → (sized (length j) ≡ true) × (k < slots_of j)
  unfolding look_rule
  look_there s e =
      let p = passed (sized (length j)) 16 _ s (sym e) in
      let q = passed (ltb k (slots_of j)) 20 _ s p.1 in
      (p.0, ltb-true k (slots_of j) q.0)

pub count_length : (j : List ℕ) → sized (length j) ≡ false → refuses 16 ≡ count_rule j
unfolding count_rule
count_length j e = simp e

pub count_all : (j : List ℕ) → sized (length j) ≡ true → gives (count_of (told_at j) (slots_of j)) ≡ count_rule j
unfolding count_rule
count_all j e = simp e
