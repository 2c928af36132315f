use Rattle.slots.specs.Record.{Digits}
use Rattle.slots.proofs.digits.Given as goal

abbrev pub invariant-loop-i : goal.invariant-loop-i
invariant-loop-i l = Digits l.j l.from l.i
