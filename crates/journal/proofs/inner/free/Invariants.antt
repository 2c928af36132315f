use Rattle.std.proofs.Common.{◌≡◌, ◌≤◌, ◌<◌, ◌+◌, ◌*◌, ◌-◌}
use Rattle.slots.specs.Journal.{place}
use Rattle.journal.specs.Rules.{freed_after}
use Rattle.journal.proofs.inner.free.Given as goal

abbrev pub invariant-loop-k : goal.invariant-loop-k
invariant-loop-k l = record {
  inside : l.at + 32 ≤ 32 * l.n;
  here : l._k < l.top - l.low → l.at ≡ place l.n (l.low + l._k + 1);
  freed : l.j ≡ freed_after l.initial.j l.n l.low (l.low + l._k - l.low);
}
