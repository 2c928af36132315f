-- `days_left` compares the numbers of two days.
use mathlib.Core.Path.{◌≡◌, sym, ap, ◌∙◌}
use native.Mathlib.Omega.{arith}
use Rattle.dates.specs.Dates.{real, day_number, last_day}
use Rattle.dates.proofs.Expiries.{last_real, expired, left}
use Rattle.dates.proofs.inner.days_left.Goals as goal
use Rattle.dates.proofs.inner.days_left.Goals.{After-day_number-last}

last : (c : After-day_number-last) → c.day_number-last.result ≡ day_number (last_day c.args.expiry.now)
last c = c.day_number-last.ensures ∙ ap day_number c.last_day.ensures

pub day_number-last-requires : goal.day_number-last-requires
day_number-last-requires c = ap real c.last_day.ensures ∙ last_real _ c.requires.1

pub returns-then-last-today : goal.returns-then-last-today
returns-then-last-today c = sym (expired _ _ _ _ (last (goal.at.returns-then-last-today c).After-day_number-last) c.day_number-today.ensures (omega arith))

pub returns : goal.returns
returns c = sym (left _ _ _ _ (last (goal.at.returns c).After-day_number-last) c.day_number-today.ensures (omega arith))
