-- `days_before`: before each turn the days of the months below m are counted.
use mathlib.Core.Path.{◌≡◌}
use Rattle.dates.specs.Dates.{leap, months_before}
use Rattle.dates.proofs.inner.days_before.Given as goal

abbrev pub invariant-loop-m : goal.invariant-loop-m
invariant-loop-m l = l.days ≡ months_before (leap l.year) l.m
