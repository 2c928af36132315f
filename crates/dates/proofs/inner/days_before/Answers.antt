use native.Mathlib.Omega.{arith}
use Rattle.dates.specs.Dates.{leap}
use Rattle.dates.proofs.Calendar.{month_bound, none_yet, month_turn}
use Rattle.dates.proofs.inner.days_before.Goals as goal

pub loop-m-init : goal.loop-m-init
loop-m-init c = none_yet (leap c.args.year)

pub overflow_add-days : goal.overflow_add-days
overflow_add-days c = omega (arith, month_bound (leap c.args.year) c.loop-m.m (omega arith))

pub loop-m-preserved : goal.loop-m-preserved
loop-m-preserved c =
    let l = c.loop-m in
    month_turn _ l.m l.days _ l.invariant c.days_in-days.ensures
