use native.Mathlib.Omega.{arith}
use Rattle.salvage.proofs.Rule.{preferred_more, preferred_fewer, preferred_higher, preferred_first}
use Rattle.salvage.proofs.inner.preferred.Goals as goal

pub returns-then-a-c : goal.returns-then-a-c
returns-then-a-c c = preferred_more _ _ (omega arith)

pub returns-then-c-a : goal.returns-then-c-a
returns-then-c-a c = preferred_fewer _ _ (omega arith)

pub returns-then-a-c-2 : goal.returns-then-a-c-2
returns-then-a-c-2 c = preferred_higher _ _ (omega arith) (omega arith)

pub returns : goal.returns
returns c = preferred_first _ _ (omega arith) (omega arith)
