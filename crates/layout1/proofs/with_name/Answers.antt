use Rattle.std.proofs.Common.{rules}
use Rattle.layout1.specs.Layout1.{fields_rule}
use Rattle.layout1.proofs.with_name.Goals as goal

pub returns-in_err-d : goal.returns-in_err-d
unfolding fields_rule
returns-in_err-d c = rw (← c.with_expiry.ensures, c.in_err-d.was) (search rules)

pub returns : goal.returns
unfolding fields_rule
returns c = rw (← c.with_expiry.ensures, c.in_ok-d.was)
