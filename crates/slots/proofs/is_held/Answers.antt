use mathlib.Core.Path.{refl}
use Rattle.slots.specs.Record.{is_held}
use Rattle.slots.proofs.is_held.Goals as goal

pub returns : goal.returns
unfolding is_held
returns c = refl
