use Prim.Native.Nat.{ℕ}
use mathlib.Core.Path.{◌≡◌, ◌∙◌, sym, ap}
use native.Mathlib.Omega.{arith}
use lib.ListN.{length, get_or}
use Rattle.salvage.specs.Whole.{votes}
use Rattle.salvage.proofs.Polls.{votes_none, votes_yes, votes_no}
use Rattle.salvage.proofs.inner.votes.Goals as goal
use Rattle.salvage.proofs.inner.votes.Goals.{then-agrees, else-agrees}

pub loop-s-init : goal.loop-s-init
loop-s-init c = (omega arith, votes_none _ _ _)

pub loop-s-preserved : goal.loop-s-preserved
loop-s-preserved c =
    let h = c.loop-s.invariant.1 in
    elim c.if-agrees.branch [
      | then-agrees w ↦ (omega (arith, w.count-is), votes_yes _ _ _ _ _ _ (sym c.agrees.ensures ∙ w.if-agrees.true) h w.count-is)
      | else-agrees w ↦ (omega (arith, w.count-is), votes_no _ _ _ _ _ _ (sym c.agrees.ensures ∙ w.if-agrees.false) h w.count-is)
    ]

pub returns : goal.returns
returns c =
    let a = c.args in
    let e : c.loop-s.s-index ≡ length a.serials.now = omega arith in
    c.loop-s.invariant.1 ∙ ap (votes (λ (k : ℕ). get_or a.serials.now k 0) (length a.serials.now) a.b) e
