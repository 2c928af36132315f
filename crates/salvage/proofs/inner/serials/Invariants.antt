use Rattle.std.proofs.Common.{◌≡◌, ℕ, ◌<◌, get_or, length}
use Rattle.remains.specs.Slot.{told_at}
use Rattle.salvage.specs.Whole.{serial_in}
use Rattle.salvage.proofs.inner.serials.Given as goal

abbrev pub invariant-loop-k : goal.invariant-loop-k
invariant-loop-k l = record {
  long : length l.all ≡ 2048;
  so_far : (i : ℕ) → i < l.k → get_or l.all i 0 ≡ serial_in (told_at l.slots.bytes.now i);
}
