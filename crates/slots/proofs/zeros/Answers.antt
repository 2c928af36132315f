use Rattle.std.proofs.Common.{sym, ◌∙◌, arith}
use Rattle.slots.proofs.Ranges.{tells_yes, tells_no, range_none, range_more, zero_word, word_zero, zeros_join}
use Rattle.slots.proofs.zeros.Goals as goal

pub loop-i-init : goal.loop-i-init
loop-i-init c = (omega arith, omega arith, range_none _ _)

pub returns-then-u32_at-ne0 : goal.returns-then-u32_at-ne0
returns-then-u32_at-ne0 c =
    let l = c.loop-i in
    tells_no (λ h. c.if-u32_at-ne0.true (c.u32_at.ensures ∙ word_zero _ _ _ l.i h (omega arith) (omega arith)))

pub loop-i-preserved : goal.loop-i-preserved
loop-i-preserved c =
    let l = c.loop-i in
    (omega arith, omega arith, zeros_join c.args.j.now _ l.i _ l.invariant.2 (zero_word _ l.i (sym c.u32_at.ensures ∙ c.if-u32_at-ne0.false)))

pub loop-k-init : goal.loop-k-init
loop-k-init c = c.loop-i.invariant.2

pub returns-then-j-k-ne0 : goal.returns-then-j-k-ne0
returns-then-j-k-ne0 c = tells_no (λ h. c.if-j-k-ne0.true (h c.loop-k.k (omega arith) (omega arith)))

pub loop-k-preserved : goal.loop-k-preserved
loop-k-preserved c = range_more _ _ _ c.loop-k.invariant c.if-j-k-ne0.false

pub returns : goal.returns
returns c = tells_yes (λ i l h. c.loop-k.invariant i l (omega arith))
