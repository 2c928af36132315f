-- `is_real` tests the year, then the day against its month.
use mathlib.Core.Path.{sym}
use native.Mathlib.Omega.{arith}
use Rattle.text.proofs.Tests.{under, over, inside}
use Rattle.dates.proofs.Calendar.{no_year, no_day, to_the_last}
use Rattle.dates.proofs.inner.is_real.Goals as goal

pub returns-then-date-lt2000 : goal.returns-then-date-lt2000
returns-then-date-lt2000 c = let y = c.args.date.year in sym (no_year _ (under 2000 2099 y (omega arith)))

pub returns-then-date-gt2099 : goal.returns-then-date-gt2099
returns-then-date-gt2099 c = let y = c.args.date.year in sym (no_year _ (over 2000 2099 y (omega arith)))

pub returns-then-date-lt1 : goal.returns-then-date-lt1
returns-then-date-lt1 c = sym (no_day _ (omega arith))

pub days_in-requires : goal.days_in-requires
days_in-requires c = (omega arith, omega arith)

pub returns : goal.returns
returns c =
    let a = c.args.date in
    to_the_last a _ (inside 2000 2099 a.year (omega arith) (omega arith)) (omega arith) c.days_in.ensures
