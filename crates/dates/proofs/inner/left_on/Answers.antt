-- `left_on` counts where there is an expiry.
use Prim.Native.Nat.{◌+◌, ◌≤◌}
use mathlib.Core.Path.{◌≡◌}
use mathlib.Core.Bool.{true}
use native.Mathlib.Omega.{arith}
use native.Mathlib.Nat.{add-sub_cancel_left}
use lib.ListN.{length, take, drop}
use Rattle.std.proofs.Common.{Some}
use Rattle.layout.specs.Layout.{is_expiry}
use Rattle.layout.proofs.Forms.{expiry_is}
use Rattle.layout.proofs.Laws.{field_fits}
use Rattle.dates.proofs.inner.left_on.Goals as goal
use Rattle.dates.proofs.inner.left_on.Goals.{In-Some}

there : (c : In-Some) → is_expiry (take 4 (drop c.in-Some.at c.args.chars.now)) ≡ true
there c = rw c.in-Some.is at c.requires.1

fits : (c : In-Some) → c.in-Some.at + 4 ≤ length c.args.chars.now
fits c = field_fits c.args.chars.now 4 is_expiry expiry_is (Some c.in-Some.at) (there c)

pub overflow_add-end : goal.overflow_add-end
overflow_add-end c = omega (arith, fits (goal.at.overflow_add-end c).In-Some)

pub slice_bounds-days_left-end : goal.slice_bounds-days_left-end
slice_bounds-days_left-end c = fits (goal.at.slice_bounds-days_left-end c).In-Some

pub days_left-requires : goal.days_left-requires
days_left-requires c = (c.requires.0, rw add-sub_cancel_left (there (goal.at.days_left-requires c).In-Some))

pub returns-in-None : goal.returns-in-None
returns-in-None c = rw c.in-None.is

pub returns-in-Some : goal.returns-in-Some
returns-in-Some c = rw c.in-Some.is (rw add-sub_cancel_left at c.days_left.ensures)
