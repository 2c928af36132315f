-- `last_day` reads year and month, and takes the last day of that month.
use mathlib.Core.Path.{ap, ◌∙◌}
use native.Mathlib.Omega.{arith}
use lib.Seq.{length-take-le}
use Rattle.text.specs.Numbers.{decimal}
use Rattle.dates.proofs.Expiries.{four, year_digits, month_digits, month_part, year_bound, month_within, last_is}
use Rattle.dates.proofs.inner.last_day.Goals as goal

pub decimal-requires-clause-s_len_bound : goal.decimal-requires-clause-s_len_bound
decimal-requires-clause-s_len_bound c = omega (arith, length-take-le 2 c.args.expiry.now (omega (arith, four _ c.requires)))

pub decimal-requires-clause-s_value : goal.decimal-requires-clause-s_value
decimal-requires-clause-s_value c = year_digits _ c.requires

pub overflow_cast-year : goal.overflow_cast-year
overflow_cast-year c = omega (arith, c.decimal.ensures, year_bound _ c.requires)

pub overflow_add-year : goal.overflow_add-year
overflow_add-year c = omega (arith, c.decimal.ensures, year_bound _ c.requires)

pub overflow_cast-month : goal.overflow_cast-month
overflow_cast-month c = omega (arith, month_within _ c.requires, c.decimal-month.ensures ∙ ap decimal (month_part _ c.requires))

pub days_in-requires : goal.days_in-requires
days_in-requires c = (omega arith, omega (arith, c.decimal.ensures, year_bound _ c.requires))

pub returns : goal.returns
returns c = last_is _ c.requires _ _ _ c.decimal.ensures c.decimal-month.ensures c.days_in.ensures

pub slice_bounds-decimal-end : goal.slice_bounds-decimal-end
slice_bounds-decimal-end c = omega (arith, four _ c.requires)

pub slice_bounds-decimal-end-2 : goal.slice_bounds-decimal-end-2
slice_bounds-decimal-end-2 c = omega (arith, four _ c.requires)

pub decimal-month-requires-clause-s_value : goal.decimal-month-requires-clause-s_value
decimal-month-requires-clause-s_value c = rw (month_part _ c.requires) (month_digits _ c.requires)
