use mathlib.Core.Path.{sym, ap, ◌∙◌}
use Rattle.reasons.specs.Reasons.{number_in, said}
use Rattle.layout1.proofs.divide_number.Goals as goal

pub returns-in-Ok : goal.returns-in-Ok
returns-in-Ok c = sym (ap number_in (sym c.divide.ensures ∙ ap said c.in-Ok.is))

pub returns-in-Err : goal.returns-in-Err
returns-in-Err c = c.number.ensures ∙ sym (ap number_in (sym c.divide.ensures ∙ ap said c.in-Err.is))
