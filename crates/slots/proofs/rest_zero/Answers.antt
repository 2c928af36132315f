use native.Mathlib.Omega.{arith}
use Rattle.slots.proofs.Ranges.{tells_yes}
use Rattle.slots.proofs.rest_zero.Goals as goal

pub returns-then-n-x : goal.returns-then-n-x
returns-then-n-x c = tells_yes (λ i l h. absurd (omega arith))
