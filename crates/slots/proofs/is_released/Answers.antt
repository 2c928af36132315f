use mathlib.Core.Path.{refl}
use Rattle.slots.specs.Record.{is_released}
use Rattle.slots.proofs.is_released.Goals as goal

pub returns : goal.returns
unfolding is_released
returns c = refl
