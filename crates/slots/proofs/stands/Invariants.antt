use Rattle.std.proofs.Common.{◌≡◌, ◌≤◌, ◌<◌, ◌+◌, ◌*◌}
use Rattle.slots.specs.Journal.{place}
use Rattle.slots.proofs.Passed.{Passed}
use Rattle.slots.proofs.stands.Given as goal

abbrev pub invariant-loop-k : goal.invariant-loop-k
invariant-loop-k l = (l.at + 32 ≤ 32 * l.n) × (l.low < l.k → l.at ≡ place l.n l.k) × Passed l.j l.n l.b l.k l.gone
