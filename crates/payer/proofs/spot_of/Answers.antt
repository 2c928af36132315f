-- `spot_of` asks the track's own layout.
use Rattle.std.proofs.Common.{rules}
use Rattle.payer.proofs.spot_of.Goals as goal

pub returns-in_err-d-in-Two : goal.returns-in_err-d-in-Two
returns-in_err-d-in-Two c = rw (c.in-Two.is, ← c.divide.ensures, c.in_err-d-in-Two.was) (search rules)

pub returns-in_ok-d-in-Two : goal.returns-in_ok-d-in-Two
returns-in_ok-d-in-Two c = rw (c.in-Two.is, ← c.divide.ensures, c.in_ok-d-in-Two.was)

pub returns-in_err-d-in-One : goal.returns-in_err-d-in-One
returns-in_err-d-in-One c = rw (c.in-One.is, ← c.divide-in-One.ensures, c.in_err-d-in-One.was) (search rules)

pub returns-in_ok-d-in-One : goal.returns-in_ok-d-in-One
returns-in_ok-d-in-One c = rw (c.in-One.is, ← c.divide-in-One.ensures, c.in_ok-d-in-One.was)
