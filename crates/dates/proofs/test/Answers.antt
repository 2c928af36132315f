-- `test` refuses what is no real day.
use mathlib.Core.Path.{sym, ◌∙◌}
use Rattle.dates.proofs.Calendar.{real_passes, else_23}
use Rattle.dates.proofs.test.Goals as goal

pub returns-then-is_real : goal.returns-then-is_real
returns-then-is_real c = sym (real_passes _ (sym c.is_real.ensures ∙ c.if-is_real.true))

pub returns : goal.returns
returns c = sym (else_23 _ (sym c.is_real.ensures ∙ c.if-is_real.false))
