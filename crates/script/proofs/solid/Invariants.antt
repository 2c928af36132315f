-- `solid`: what is written so far and the rest make the whole.
use Rattle.script.proofs.Typed.{Grouped}
use lib.ListN.{length}
use mathlib.Core.Path.{◌≡◌}
use Rattle.script.proofs.solid.Given as goal

abbrev pub invariant-loop-b : goal.invariant-loop-b
invariant-loop-b l = (length l.room ≡ length l.initial.room) × Grouped l.s l.initial.room l.room l.n l.b-index
