use Rattle.std.proofs.Common.{◌≤◌, sym, ◌∙◌, arith}
use Rattle.text.proofs.Tests.{inside_is}
use Rattle.journal.proofs.Rule.{release_none, release_same, release_freed}
use Rattle.journal.proofs.inner.release_at.Goals as goal
use Rattle.journal.proofs.inner.release_at.Goals.{Else-not-is_after}

booked : (c : Else-not-is_after) → (1 ≤ c.args.s) × (c.args.s ≤ c.args.b)
booked c = inside_is 1 _ _ (sym c.is_after.ensures ∙ c.if-not-is_after.false)

pub returns-then-not-is_after : goal.returns-then-not-is_after
returns-then-not-is_after c = release_same _ _ _ _ (release_none _ _ _ (sym c.is_after.ensures ∙ c.if-not-is_after.true))

pub tally-t-requires : goal.tally-t-requires
tally-t-requires c =
    let w = booked (goal.at.tally-t-requires c).Else-not-is_after in
    (omega arith, omega arith, omega arith, omega arith, omega (arith, w.1))

pub returns : goal.returns
returns c =
    let w = booked (goal.at.returns c).Else-not-is_after in
    release_freed _ _ _ _ _ _ _ w.0 w.1 c.floor_of-low.ensures c.higher-top.ensures.2 c.tally-t.ensures c.free.ensures
