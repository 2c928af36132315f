use native.Mathlib.Omega.{arith}
use Rattle.slots.proofs.Ring.{back_wrap, back_step}
use Rattle.slots.proofs.back.Goals as goal

pub returns-then-at-lt32 : goal.returns-then-at-lt32
returns-then-at-lt32 c = (omega arith, λ s l e. back_wrap _ s _ (omega arith) l c.if-at-lt32.true e)

pub returns : goal.returns
returns c = (omega arith, λ s l e. back_step _ s _ (omega arith) l (omega arith) e)
