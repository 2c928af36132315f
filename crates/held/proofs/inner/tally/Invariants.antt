use Rattle.std.proofs.Common.{◌≡◌, ◌≤◌, ◌<◌, ◌+◌, ◌-◌, ◌*◌}
use Rattle.slots.specs.Journal.{place}
use Rattle.held.specs.Held.{held_after, Tallies}
use Rattle.held.proofs.inner.tally.Given as goal

abbrev pub invariant-loop-s : goal.invariant-loop-s
invariant-loop-s l = record {
  above : l.low ≤ l._s;
  few : l.t.count + l._s ≤ l.top;
  fits : l.t.sum ≤ 4294967295 * l.t.count;
  inside : l.at + 32 ≤ 32 * l.n;
  here : l.low < l._s → l.at ≡ place l.n l._s;
  passed : Tallies l.t (held_after l.j l.n l._s (l.top - l._s));
}
