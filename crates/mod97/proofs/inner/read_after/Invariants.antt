use Prim.Native.Nat.{◌%◌}
use mathlib.Core.Path.{◌≡◌}
use lib.ListN.{drop}
use Rattle.mod97.specs.Text.{number_after}
use Rattle.mod97.proofs.inner.read_after.Given as goal

-- the rest of the text, written after the number so far, leaves what the whole leaves
abbrev pub invariant-loop-b : goal.invariant-loop-b
invariant-loop-b l = number_after l.v (drop l.b-index l.s) % 97 ≡ number_after l.start l.s % 97
