use Rattle.std.proofs.Common.{◌≤◌, ◌-◌}
use Rattle.slots.specs.Record.{Zeros}
use Rattle.slots.proofs.zeros.Given as goal

abbrev pub decreases-loop-i : goal.decreases-loop-i
decreases-loop-i l = l.to - l.i

abbrev pub invariant-loop-i : goal.invariant-loop-i
invariant-loop-i l = (l.from ≤ l.i) × (l.i ≤ l.to) × Zeros l.j l.from l.i

abbrev pub invariant-loop-k : goal.invariant-loop-k
invariant-loop-k l = Zeros l.j l.from l.k
