use Rattle.std.proofs.Common.{rules, arith}
use Rattle.std.proofs.lemmas.Bool.Decides.{nat_tests}
use Rattle.layout.specs.Layout.{is_expiry}
use Rattle.layout.proofs.Steps.{month_part, month_digits}
use Rattle.layout.proofs.inner.is_expiry.Goals as goal

pub returns-then-t-ne4 : goal.returns-then-t-ne4
unfolding is_expiry
returns-then-t-ne4 c = search rules

pub returns-then-not-all_digits : goal.returns-then-not-all_digits
unfolding is_expiry
returns-then-not-all_digits c = search rules

pub decimal-month-requires-clause-s_value : goal.decimal-month-requires-clause-s_value
decimal-month-requires-clause-s_value c = rw (month_part c.args.t.now) (month_digits c.args.t.now (search rules))

pub returns-then-month-ge1 : goal.returns-then-month-ge1
unfolding is_expiry
returns-then-month-ge1 c = let e = rw (month_part c.args.t.now) at c.decimal-month.ensures in rw (← e) (grind (arith, nat_tests))

pub returns-else-month-ge1 : goal.returns-else-month-ge1
unfolding is_expiry
returns-else-month-ge1 c = let e = rw (month_part c.args.t.now) at c.decimal-month.ensures in rw (← e) (grind (arith, nat_tests))
