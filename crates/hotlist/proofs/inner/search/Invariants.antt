-- `search`: x stands in what is left of the list or nowhere.
use Prim.Native.Nat.{◌-◌}
use Rattle.hotlist.proofs.Halving.{Bracket}
use Rattle.hotlist.proofs.inner.search.Given as goal

abbrev pub decreases-loop-low : goal.decreases-loop-low
decreases-loop-low l = l.high - l.low

abbrev pub invariant-loop-low : goal.invariant-loop-low
invariant-loop-low l = Bracket l.list l.x l.low l.high l.looks
