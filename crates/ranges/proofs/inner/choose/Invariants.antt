-- `choose` keeps the best of the records before its place.
use Rattle.ranges.specs.Ranges.{best_of}
use Rattle.ranges.proofs.Narrowest.{Kept}
use Rattle.ranges.proofs.inner.choose.Given as goal

abbrev pub invariant-loop-k : goal.invariant-loop-k
invariant-loop-k l = Kept l.t l.best l.width (best_of l.t l.p l.n l.k)
