-- `has_gap`: a word of the line is empty exactly where one of the rest is.
use lib.ListN.{drop}
use mathlib.Core.Path.{◌≡◌}
use Rattle.script.specs.Words.{gap_after, gap}
use Rattle.script.proofs.has_gap.Given as goal

abbrev pub invariant-loop-b : goal.invariant-loop-b
invariant-loop-b l = gap_after l.space (drop l.b-index l.line) ≡ gap l.line
