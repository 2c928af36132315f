use Prim.Native.Nat.{◌-◌}
use mathlib.Core.Path.{◌∙◌}
use native.Mathlib.Omega.{arith}
use Rattle.script.proofs.Words.{after_one, after_last, after_zero}
use Rattle.script.proofs.start_of.Goals as goal

pub returns-then-line-e : goal.returns-then-line-e
returns-then-line-e c =
    let l = c.loop in
    (c.end_of-e.ensures.1, after_last c.args.line.now l.at (c.args.k - l.counter) _ (omega arith) c.end_of-e.ensures.0 (omega arith) ∙ l.invariant.1)

pub loop-preserved : goal.loop-preserved
loop-preserved c =
    let l = c.loop in
    (omega arith, after_one c.args.line.now l.at c.args.k l.counter _ (omega arith) c.end_of-e.ensures.0 ∙ l.invariant.1)

pub returns : goal.returns
returns c =
    let l = c.loop in
    (l.invariant.0, after_zero c.args.line.now l.at (c.args.k - l.counter) (omega arith) ∙ l.invariant.1)
