use mathlib.Core.Path.{refl}
use native.Mathlib.Omega.{arith}
use Rattle.slots.specs.Record.{front_kept, back_kept}
use Rattle.slots.proofs.kept.Goals as goal

pub returns : goal.returns
unfolding front_kept back_kept
returns c = (refl, omega arith)
