use mathlib.Core.Path.{◌∙◌}
use Rattle.exchange.proofs.Turned.{into_air, no_air}
use Rattle.exchange.proofs.post.Goals as goal

pub returns-then-place-air : goal.returns-then-place-air
returns-then-place-air c = c.put_at.ensures ∙ into_air _ _ _ c.if-place-air.true

pub returns-else-place-air : goal.returns-else-place-air
returns-else-place-air c = no_air _ _ _ c.if-place-air.false
