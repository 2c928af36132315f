use Rattle.std.proofs.Common.{◌≡◌, ℕ}
use Rattle.remains.specs.Slot.{told_at}
use Rattle.salvage.specs.Whole.{held_in, lowest}
use Rattle.salvage.proofs.inner.oldest.Given as goal

abbrev pub invariant-loop-k : goal.invariant-loop-k
invariant-loop-k l = l.low ≡ lowest (λ (i : ℕ). held_in (told_at l.slots.bytes.now i)) l.n l.b l.k
