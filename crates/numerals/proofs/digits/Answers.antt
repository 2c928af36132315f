use borrow.Author.Tests.{ltb-false}
use mathlib.Core.Path.{sym, ◌∙◌}
use native.Mathlib.Omega.{arith}
use Rattle.numerals.proofs.Pairs.{decimal_step}
use Rattle.numerals.proofs.Rules.{digit_over, digits_read}
use Rattle.numerals.proofs.digits.Goals as goal

pub returns-then-passes_over : goal.returns-then-passes_over
returns-then-passes_over c =
    let l = c.loop-b in
    digit_over c.args.w.now l.v l.b-index c.args.most l.invariant.0 _ (omega arith) c.digit_value-d.ensures.0 (sym c.passes_over.ensures ∙ c.if-passes_over.true)

pub loop-b-preserved : goal.loop-b-preserved
loop-b-preserved c =
    let l = c.loop-b in (
      decimal_step c.args.w.now l.v l.b-index _ _ (omega arith) l.invariant.0 c.digit_value-d.ensures.0,
      ltb-false _ _ (sym c.passes_over.ensures ∙ c.if-passes_over.false),
    )

pub returns : goal.returns
returns c = let l = c.loop-b in digits_read c.args.w.now l.v l.b-index c.args.most l.invariant.0 (omega arith) l.invariant.1
