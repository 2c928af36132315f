-- What is promised of the slots, over any bytes of a journal's length.
use Prim.Native.Nat.{ℕ, ◌≤◌, ◌<◌, ◌+◌, ◌*◌, ◌/◌}
use mathlib.Core.Path.{◌≡◌, sym, ◌∙◌}
use mathlib.Core.Bool.{true}
use mathlib.Core.List.{List}
use native.Mathlib.Omega.{arith}
use native.Mathlib.Decide.{dec_lt}
use Rattle.std.proofs.Common.{Result}
use lib.Dec.{ltb}
use lib.ListN.{length, get_or}
use Rattle.text.specs.Numbers.{put}
use Rattle.text.proofs.Put.{put_before, put_after, length_put, part_same}
use Rattle.reasons.specs.Reasons.{gives, demand, said}
use Rattle.reasons.specs.declared.Reason.{Reason}
use Rattle.reasons.proofs.Laws.{said_one}
use Rattle.slots.specs.Journal.{slots_of, sized}
use Rattle.slots.proofs.Form.{is_sized}
use Rattle.surveys.specs.Survey.{SlotIs, free, held, released, damaged}
use Rattle.remains.specs.Slot.{told_of, told_at, look_rule, survey_byte}
use Rattle.remains.specs.declared.Slot.{Slot}
use Rattle.remains.specs.declared.Counts.{Counts}
use Rattle.remains.specs.Count.{count_rule}
use Rattle.remains.proofs.Slots.{Stands, stands_free, stands_held, stands_released, stands_damaged, stands}

-- a slot says of itself what the survey says of it: free, held, released, or damaged where it is neither all zero nor a good record that belongs there
pub as_surveyed : (j : List ℕ) (k : ℕ) → sized (length j) ≡ true → k < slots_of j → SlotIs j k (survey_byte (told_at j k))
as_surveyed j k size l = go (told_at j k) (stands j k (let z = is_sized (length j) size in omega arith))
  where
    go : (s : Slot) → Stands j k s → SlotIs j k (survey_byte s)
    go s (stands_free z) = free z
    go s (stands_held b h q) = held b h
    go s (stands_released b h q) = released b h
    go s (stands_damaged z b) = damaged z b

-- what is told of a slot depends on nothing but the journal's length and the slot's own 32 bytes
pub own_bytes : (j i : List ℕ) (k : ℕ) → length i ≡ length j
    → ((x : ℕ) → x < 32 → get_or i (32 * k + x) 0 ≡ get_or j (32 * k + x) 0) → look_rule i k ≡ look_rule j k
unfolding look_rule
own_bytes j i k e same =
    let p = part_same j i (32 * k) 32 e same in
    λ x. demand (sized (e x)) 16 (demand (ltb k (e x / 32)) 20 (gives (told_of (e x / 32) k (p x))))

-- whatever is done to one slot, what is told of every other slot stays as it was
pub others_stay : (j vs : List ℕ) (i k : ℕ) → length vs ≡ 32 → 32 * i + 32 ≤ length j → (i ≡ k → ⊥)
    → look_rule (put j (32 * i) vs) k ≡ look_rule j k
others_stay j vs i k e h ne = own_bytes j (put j (32 * i) vs) k (length_put j vs (32 * i) (omega arith)) (λ x l. go x l (dec_lt k i))
  where
    go : (x : ℕ) → x < 32 → Dec (k < i) → get_or (put j (32 * i) vs) (32 * k + x) 0 ≡ get_or j (32 * k + x) 0
    go x l (yes y) = put_before j vs (32 * i) (omega arith) (32 * k + x) (omega arith)
    go x l (no y) = put_after j vs (32 * i) (omega arith) (32 * k + x) (omega arith)

-- ---- one outcome

-- look and count: any two outcomes that the promise allows are equal
pub one_look : (j : List ℕ) (k : ℕ) (r q : Result Slot Reason) → said r ≡ look_rule j k → said q ≡ look_rule j k → r ≡ q
one_look j k r q a b = said_one r q (a ∙ sym b)

pub one_count : (j : List ℕ) (r q : Result Counts Reason) → said r ≡ count_rule j → said q ≡ count_rule j → r ≡ q
one_count j r q a b = said_one r q (a ∙ sym b)
