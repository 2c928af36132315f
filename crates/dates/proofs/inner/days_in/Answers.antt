-- `days_in` matches a month to its days.
use mathlib.Core.Path.{sym}
use mathlib.Core.Bool.{true, false}
use native.Mathlib.Omega.{arith}
use borrow.Author.Rules.{rules}
use Rattle.dates.proofs.Calendar.{leap_fourth, leap_else, thirty_one, thirty, second, before_first, seven_eight, no_month}
use Rattle.dates.proofs.inner.days_in.Goals as goal

pub returns-in-4 : goal.returns-in-4
returns-in-4 c = thirty _ _ c.in-4.is

pub returns-then-year-eq0 : goal.returns-then-year-eq0
returns-then-year-eq0 c =
    let a = c.args in
    second _ a.month true (leap_fourth a.year (omega arith) (omega arith) (omega arith)) c.in-2.is

pub returns-else-year-eq0 : goal.returns-else-year-eq0
returns-else-year-eq0 c =
    let a = c.args in
    second _ a.month false (leap_else a.year (omega arith) (omega arith) (λ e. omega arith)) c.in-2.is

pub returns-in-1 : goal.returns-in-1
returns-in-1 c = thirty_one _ _ c.in-1.is

pub returns-in_default : goal.returns-in_default
returns-in_default c = sym (before_first _ _ (omega arith))

pub returns-in_default-2 : goal.returns-in_default-2
returns-in_default-2 c = sym (search (rules, no_month))

pub returns-in-1-2 : goal.returns-in-1-2
returns-in-1-2 c = search (rules, seven_eight)
