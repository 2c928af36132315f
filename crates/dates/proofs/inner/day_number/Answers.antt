-- `day_number` adds up the years, the months and the days.
use Prim.Native.Nat.{◌+◌, ◌≤◌}
use native.Mathlib.Omega.{arith}
use Rattle.dates.proofs.Calendar.{real_is, day_count, few_before}
use Rattle.dates.proofs.inner.day_number.Goals as goal
use Rattle.dates.proofs.inner.day_number.Goals.{After-days_before}

few : (c : After-days_before) → c.days_before.result + c.args.date.day ≤ 366
few c = few_before _ (real_is _ c.requires) _ c.days_before.ensures

pub overflow_sub-n : goal.overflow_sub-n
overflow_sub-n c = (real_is _ c.requires).from

pub overflow_mul-result : goal.overflow_mul-result
overflow_mul-result c = omega (arith, real_is _ c.requires)

pub overflow_add-result-2 : goal.overflow_add-result-2
overflow_add-result-2 c = omega (arith, real_is _ c.requires)

pub days_before-requires : goal.days_before-requires
days_before-requires c = let k = real_is _ c.requires in (k.from, k.to, k.january, k.december)

pub overflow_add-result-3 : goal.overflow_add-result-3
overflow_add-result-3 c = omega (arith, real_is _ c.requires, few (goal.at.overflow_add-result-3 c).After-days_before)

pub overflow_sub-result : goal.overflow_sub-result
overflow_sub-result c = (real_is _ c.requires).first

pub overflow_add-result-4 : goal.overflow_add-result-4
overflow_add-result-4 c = omega (arith, real_is _ c.requires, few (goal.at.overflow_add-result-4 c).After-days_before)

pub returns : goal.returns
returns c = day_count _ (real_is _ c.requires) _ c.days_before.ensures
