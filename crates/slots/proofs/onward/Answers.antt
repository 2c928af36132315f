use native.Mathlib.Omega.{arith}
use Rattle.slots.proofs.Ring.{on_wrap, on_step}
use Rattle.slots.proofs.onward.Goals as goal

pub returns-then-n-at : goal.returns-then-n-at
returns-then-n-at c = (omega arith, λ s l e. on_wrap _ s _ (omega arith) l c.if-n-at.true e)

pub returns : goal.returns
returns c = (omega arith, λ s l e. on_step _ s _ (omega arith) l (omega arith) e)
