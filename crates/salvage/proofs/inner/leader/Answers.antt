use Rattle.std.proofs.Common.{◌∙◌, ap}
use Rattle.salvage.specs.Whole.{preferred}
use Rattle.salvage.proofs.Polls.{leader_none, leader_more}
use Rattle.salvage.proofs.inner.leader.Goals as goal

pub loop-s-init : goal.loop-s-init
loop-s-init c = c.poll_of-best.ensures ∙ leader_none _ _

pub loop-s-preserved : goal.loop-s-preserved
loop-s-preserved c =
    let l = c.loop-s in
    c.preferred-best.ensures ∙ ap (preferred l.best) c.poll_of.ensures ∙ leader_more _ _ l.s-index l.best l.invariant
