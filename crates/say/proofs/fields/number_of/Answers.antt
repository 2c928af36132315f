-- `number_of`: what is understood is no more than the field holds.
use Rattle.numerals.proofs.Laws.{number_fits}
use Rattle.say.proofs.fields.number_of.Goals as goal

pub returns-in-Ok : goal.returns-in-Ok
returns-in-Ok c = number_fits _ _ _ _ c.number_in.ensures c.in-Ok.is
