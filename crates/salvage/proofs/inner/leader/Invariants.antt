use Rattle.std.proofs.Common.{◌≡◌, ℕ, length, get_or}
use Rattle.salvage.specs.Whole.{leader}
use Rattle.salvage.proofs.inner.leader.Given as goal

abbrev pub invariant-loop-s : goal.invariant-loop-s
invariant-loop-s l = l.best ≡ leader (λ (k : ℕ). get_or l.serials k 0) (length l.serials) l.s-index
