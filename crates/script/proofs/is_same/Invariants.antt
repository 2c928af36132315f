-- `is_same`: the texts are the same exactly where their rests are.
use lib.ListN.{drop}
use mathlib.Core.Path.{◌≡◌}
use Rattle.script.specs.Words.{same}
use Rattle.script.proofs.is_same.Given as goal

abbrev pub invariant-loop-i : goal.invariant-loop-i
invariant-loop-i l = same (drop l.i l.a) (drop l.i l.b) ≡ same l.a l.b
