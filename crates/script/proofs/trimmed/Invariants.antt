-- `trimmed`: what is left of the line, trimmed, is the line trimmed.
use Rattle.script.specs.Words.{trimmed}
use lib.ListN.{length}
use mathlib.Core.Path.{◌≡◌}
use Rattle.script.proofs.trimmed.Given as goal

abbrev pub decreases-loop-rest : goal.decreases-loop-rest
decreases-loop-rest l = length l.rest

abbrev pub invariant-loop-rest : goal.invariant-loop-rest
invariant-loop-rest l = trimmed l.rest ≡ trimmed l.line
