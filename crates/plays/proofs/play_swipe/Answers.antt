use Rattle.std.proofs.Common.{◌≡◌, rules}
use Rattle.payer.specs.Payer.{terms_of, given}
use Rattle.plays.specs.Script.{bits_at, stream_at, date_at}
use Rattle.plays.proofs.Records.{same_swipe, swipe_refused_came, swiped_came}
use Rattle.plays.proofs.play_swipe.Goals as goal
use Rattle.plays.proofs.play_swipe.Goals.{After-swipe}

swiped : (c : After-swipe) → given c.args.track (stream_at c.args.r.now 0) c.from-bits.result (terms_of c.args.terms) c.date_of-date.result
    ≡ given c.args.track (stream_at c.args.r.now 0) (bits_at c.args.r.now 0) (terms_of c.args.terms) (date_at c.args.r.now 0)
swiped c =
    let bits : c.from-bits.result ≡ bits_at c.args.r.now 0 = search rules in
    λ i. given c.args.track (stream_at c.args.r.now 0) (bits i) (terms_of c.args.terms) (c.date_of-date.ensures i)

pub returns-in-Ok : goal.returns-in-Ok
returns-in-Ok c =
    same_swipe _ _ _ _ _ (swiped (goal.at.returns-in-Ok c).After-swipe) c.u32_at-amount.ensures c.u32_at-clock.ensures
    (swiped_came _ _ _ (search rules) _ _ _ _ _ _ c.in-Ok.ensures c.one_booked.ensures)

pub returns-in-Err : goal.returns-in-Err
returns-in-Err c =
    same_swipe _ _ _ _ _ (swiped (goal.at.returns-in-Err c).After-swipe) c.u32_at-amount.ensures c.u32_at-clock.ensures
    (swipe_refused_came _ _ _ (search rules) _ _ _ _ _ _ c.in-Err.ensures c.one_refused.ensures)
