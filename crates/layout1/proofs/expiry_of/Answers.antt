use mathlib.Core.Path.{sym, ap, ◌∙◌}
use Rattle.reasons.specs.Reasons.{said}
use Rattle.layout1.proofs.Laws.{expiry_fits}
use Rattle.layout1.proofs.expiry_of.Goals as goal

pub field_of-requires : goal.field_of-requires
field_of-requires c = expiry_fits _ _ (sym c.divide.ensures ∙ ap said c.in-Ok.is)

pub returns-in-Ok : goal.returns-in-Ok
returns-in-Ok c = rw (sym c.divide.ensures ∙ ap said c.in-Ok.is) c.field_of.ensures

pub returns-in-Err : goal.returns-in-Err
returns-in-Err c = rw (sym c.divide.ensures ∙ ap said c.in-Err.is) c.cut.ensures
