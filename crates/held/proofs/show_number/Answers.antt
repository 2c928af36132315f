use mathlib.Core.Path.{sym, ap, ◌∙◌}
use Rattle.reasons.specs.Reasons.{number_in, said}
use Rattle.slots.proofs.Views.{seen_so}
use Rattle.held.proofs.show_number.Goals as goal

pub returns-in-Ok : goal.returns-in-Ok
returns-in-Ok c = seen_so _ c.find.ensures (λ m e. sym (ap (λ r. number_in (said r)) c.in-Ok.is) ∙ ap number_in e)

pub returns-in-Err : goal.returns-in-Err
returns-in-Err c =
    seen_so _ c.find.ensures
    (λ m e. c.number.ensures ∙ sym (ap (λ r. number_in (said r)) c.in-Err.is) ∙ ap number_in e)
