-- `sum`: what is left of the text on the left, and what holds of the rest.
use Prim.Native.Nat.{◌-◌}
use lib.ListN.{length}
use Rattle.luhn.proofs.Summing.{At}
use Rattle.luhn.proofs.sum.Given as goal

abbrev pub invariant-loop-b : goal.invariant-loop-b
invariant-loop-b l = At l.text l.double l.total l.twice (length l.text - length l.yielded)
