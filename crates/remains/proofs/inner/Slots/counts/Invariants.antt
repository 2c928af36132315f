use Rattle.std.proofs.Common.{◌≡◌, ◌*◌, ◌≤◌}
use Rattle.remains.specs.Slot.{told_at}
use Rattle.remains.specs.Count.{count_of}
use Rattle.remains.proofs.inner.Slots.counts.Given as goal

abbrev pub invariant-loop-k : goal.invariant-loop-k
invariant-loop-k l = record {
  few : (l.c.held ≤ l.k) × (l.c.released ≤ l.k) × (l.c.damaged ≤ l.k);
  small : l.c.sum ≤ 4294967295 * l.c.held;
  so_far : l.c ≡ count_of (told_at l.self.bytes.now) l.k;
}
