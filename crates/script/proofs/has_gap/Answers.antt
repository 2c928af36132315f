use borrow.Author.Tests.{eq-eqb, ne_eqb}
use mathlib.Core.Logic.{inl, inr}
use mathlib.Core.Path.{sym, ◌∙◌}
use native.Mathlib.Omega.{arith}
use Rattle.script.proofs.Words.{gap_found, gap_on, gap_end}
use Rattle.script.proofs.has_gap.Goals as goal
use Rattle.script.proofs.has_gap.Goals.{else-space-via-then-space+else-now, else-space-via-else-space}

pub returns : goal.returns
returns c =
    let l = c.loop-b in
    sym (gap_end c.args.line.now l.b-index l.space (omega arith)) ∙ l.invariant

pub returns-then-now : goal.returns-then-now
returns-then-now c =
    let l = c.loop-b in
    gap_found c.args.line.now l.b-index l.space _ (omega arith) l.invariant c.if-space.true (eq-eqb _ 32 c.if-now.true)

pub loop-b-preserved : goal.loop-b-preserved
loop-b-preserved c =
    let l = c.loop-b in
    let on = gap_on c.args.line.now l.b-index l.space _ (omega arith) l.invariant in
    elim c.else-space.branch [
      | else-space-via-then-space+else-now w ↦ on (inr (ne_eqb _ 32 w.if-now.false))
      | else-space-via-else-space w ↦ on (inl w.if-space.false)
    ]
