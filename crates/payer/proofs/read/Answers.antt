-- `read` calls the track's own reading.
use Rattle.payer.proofs.read.Goals as goal

pub returns-in-Two : goal.returns-in-Two
returns-in-Two c = rw c.in-Two.is c.read.ensures

pub returns-in-One : goal.returns-in-One
returns-in-One c = rw c.in-One.is c.read-in-One.ensures
