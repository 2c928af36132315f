-- `bytes_of`: what is understood fits into the room.
use Rattle.std.proofs.Common.{arith}
use Rattle.numerals.proofs.Laws.{bytes_fit}
use Rattle.say.proofs.fields.bytes_of.Goals as goal

pub returns-in-Ok : goal.returns-in-Ok
returns-in-Ok c = let h = bytes_fit _ _ _ _ c.bytes_in.ensures.0 c.in-Ok.is in omega arith
