use native.Mathlib.Omega.{arith}
use Rattle.salvage.proofs.Rule.{agrees-below, agrees_above}
use Rattle.salvage.proofs.inner.agrees.Goals as goal

pub returns-then-s-floor_of : goal.returns-then-s-floor_of
returns-then-s-floor_of c = agrees-below _ _ _ (omega arith)

pub returns : goal.returns
returns c = agrees_above _ _ _ (omega arith)
