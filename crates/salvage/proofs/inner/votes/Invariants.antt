-- `votes` has counted those of the slots before its place.
use mathlib.Core.Path.{◌≡◌}
use Prim.Native.Nat.{ℕ, ◌≤◌}
use lib.ListN.{length, get_or}
use Rattle.salvage.specs.Whole.{votes}
use Rattle.salvage.proofs.inner.votes.Given as goal

abbrev pub invariant-loop-s : goal.invariant-loop-s
invariant-loop-s l = (l.count ≤ l.s-index) × (l.count ≡ votes (λ (k : ℕ). get_or l.serials k 0) (length l.serials) l.b l.s-index)
