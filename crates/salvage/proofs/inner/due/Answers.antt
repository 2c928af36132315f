use Prim.Native.Nat.{◌-◌}
use native.Mathlib.Omega.{arith}
use native.Mathlib.Nat.{mod-le}
use Rattle.salvage.proofs.Rule.{due-none, due_some}
use Rattle.salvage.proofs.inner.due.Goals as goal

pub returns-then-top-k : goal.returns-then-top-k
returns-then-top-k c = due-none _ _ _ c.if-top-k.true

pub overflow_sub-result-3 : goal.overflow_sub-result-3
overflow_sub-result-3 c = omega (arith, mod-le (c.args.b - 1 - c.args.k) c.args.n)

pub returns : goal.returns
returns c = due_some _ _ _ (omega arith)
