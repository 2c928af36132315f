use Rattle.std.proofs.Common.{sym, ◌∙◌, arith}
use Rattle.slots.proofs.Ranges.{differ, tells_yes, tells_no, range_none, range_more}
use Rattle.slots.proofs.digits.Goals as goal

pub loop-i-init : goal.loop-i-init
loop-i-init c = range_none _ _

pub returns-then-not-is_digit : goal.returns-then-not-is_digit
returns-then-not-is_digit c =
    let l = c.loop-i in
    tells_no (λ h. differ _ (sym c.is_digit.ensures ∙ c.if-not-is_digit.true) (h l.i (omega arith) (omega arith)))

pub loop-i-preserved : goal.loop-i-preserved
loop-i-preserved c = range_more _ _ _ c.loop-i.invariant (sym c.is_digit.ensures ∙ c.if-not-is_digit.false)

pub returns : goal.returns
returns c = tells_yes (λ i l h. c.loop-i.invariant i l (omega arith))
