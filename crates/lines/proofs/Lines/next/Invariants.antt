use Rattle.lines.specs.Lines.{Within}
use Rattle.lines.proofs.Lines.next.Given as goal

abbrev pub invariant-loop : goal.invariant-loop
invariant-loop l = Within l.room l.line
