use mathlib.Core.Path.{sym, ap, ◌∙◌}
use native.Mathlib.Omega.{arith}
use Rattle.reasons.specs.Reasons.{said}
use Rattle.layout1.proofs.Laws.{pan_fits}
use Rattle.layout1.proofs.pan_of.Goals as goal

pub cut-requires : goal.cut-requires
cut-requires c = omega (arith, pan_fits _ _ (sym c.divide.ensures ∙ ap said c.in-Ok.is))

pub returns-in-Ok : goal.returns-in-Ok
returns-in-Ok c = rw (sym c.divide.ensures ∙ ap said c.in-Ok.is) c.cut.ensures

pub returns-in-Err : goal.returns-in-Err
returns-in-Err c = rw (sym c.divide.ensures ∙ ap said c.in-Err.is) c.cut-in-Err.ensures
