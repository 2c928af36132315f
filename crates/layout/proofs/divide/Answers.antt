use mathlib.Core.Path.{sym, ◌∙◌}
use native.Mathlib.Omega.{arith}
use Rattle.layout.proofs.Steps.{few, many, unmarked, marked}
use Rattle.layout.proofs.divide.Goals as goal

pub returns-then-pan-lt13 : goal.returns-then-pan-lt13
returns-then-pan-lt13 c = few _ _ c.lead_of-pan.ensures.0 (omega arith)

pub returns-then-pan-gt19 : goal.returns-then-pan-gt19
returns-then-pan-gt19 c = many _ _ c.lead_of-pan.ensures.0 (omega arith)

pub returns-then-byte_at-ne61 : goal.returns-then-byte_at-ne61
returns-then-byte_at-ne61 c = unmarked _ _ c.lead_of-pan.ensures.0 (omega arith) (omega arith) (λ e. c.if-byte_at-ne61.true (c.byte_at.ensures ∙ e))

pub returns : goal.returns
returns c = c.with_expiry.ensures ∙ marked _ _ c.lead_of-pan.ensures.0 (omega arith) (omega arith) (sym c.byte_at.ensures ∙ c.if-byte_at-ne61.false)
