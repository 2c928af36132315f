-- Demand 3, proved.
use Prim.Native.Nat.{ℕ, ◌*◌, ◌≤◌}
use mathlib.Core.Path.{◌≡◌}
use mathlib.Core.List.{List, map}
use lib.ListN.{replicate}
use Rattle.slots.specs.Journal.{SameButClocks}
use Rattle.history.specs.History.{Done, Run, Demand3, SameCalls, SameOutcomes}
use Rattle.history.proofs.Demand.{from_zeros}
use Rattle.history.proofs.Twins.{clocks_same, twins}
use Rattle.history.proofs.One.{one_run}

-- "the amounts of all payments answered as booked add up to the amounts still held plus those the host has released; the released ones are
-- those up to the highest serial of any release not refused; no payment is lost or made up"
pub demand_3 : (n : ℕ) → 1 ≤ n → n ≤ 2048 → (ds : List Done) (j : List ℕ) → Run (replicate (32 * n) 0) ds j → Demand3 ds j
demand_3 = from_zeros

-- "change the clock readings at will: every answer and every journal byte stays the same, clock fields apart, in the journal and in each
-- record handed out"; from an all-zero journal, and from any two that differ in clock fields alone
pub clocks_decide_nothing : (n : ℕ) (ds es : List Done) (j k : List ℕ) → Run (replicate (32 * n) 0) ds j → Run (replicate (32 * n) 0) es k
    → SameCalls ds es → SameOutcomes ds es
clocks_decide_nothing n ds es j k = twins (clocks_same (replicate (32 * n) 0))

pub clocks_decide_nothing_from : (i j : List ℕ) → SameButClocks i j → (ds es : List Done) (k l : List ℕ) → Run i ds k → Run j es l
    → SameCalls ds es → SameOutcomes ds es
clocks_decide_nothing_from i j s ds es k l = twins s

-- any two runs of the same calls at the same clock readings are equal: every answer, and the bytes after every call
pub run_one : (j : List ℕ) (ds es : List Done) (k l : List ℕ) → Run j ds k → Run j es l → SameCalls ds es
    → map (λ (d : Done). d.clock) ds ≡ map (λ (d : Done). d.clock) es → (ds ≡ es) × (k ≡ l)
run_one j ds es k l = one_run
