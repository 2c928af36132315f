-- `slots`: what is understood is no more than the field holds.
use Rattle.numerals.proofs.Laws.{number_fits}
use Rattle.options.proofs.slots.Goals as goal

pub invariant_of-result : goal.invariant_of-result
invariant_of-result g c = record { in_range = number_fits _ _ _ _ c.number_in.ensures c.in-Ok.is }
