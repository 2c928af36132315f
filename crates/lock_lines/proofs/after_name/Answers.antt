-- `after_name`: a byte more is seen, and at the end nothing is left.
use Rattle.std.proofs.Common.{arith, length, ◌-◌, ◌∙◌}
use lib.ListN.{length-drop}
use lib.Seq.{take_all}
use Rattle.lock_lines.proofs.Stats.{last_here, last_other, last_end}
use Rattle.lock_lines.proofs.after_name.Goals as goal
use Rattle.lock_lines.proofs.after_name.Goals.{then-closes, else-closes}

pub loop-i-preserved : goal.loop-i-preserved
loop-i-preserved c =
    let s = c.args.stat.now in
    let l = c.loop-i in
    elim c.if-closes.branch [
      | then-closes w ↦ (omega arith, last_here s l.i l.at c.if-closes.at (omega arith) w.if-closes.true (omega arith) ∙ l.invariant.1)
      | else-closes w ↦ (omega arith, last_other s l.i l.at c.if-closes.at (omega arith) w.if-closes.false (omega arith) ∙ l.invariant.1)
    ]

pub returns : goal.returns
returns c =
    let s = c.args.stat.now in
    let l = c.loop-i in
    take_all (length s - l.at) _ (omega (arith, length-drop l.at s)) ∙ last_end s l.i l.at (omega arith) ∙ l.invariant.1
