use Rattle.std.proofs.Common.{◌≡◌, min, get_or, rules}
use Rattle.plays.proofs.Records.{same_book, pan_is, book_refused_came, booked_came}
use Rattle.plays.proofs.play_book.Goals as goal
use Rattle.plays.proofs.play_book.Goals.{After-book}

count : (c : After-book) → c.min-n.result ≡ min (get_or c.args.r.now 1 0) 108
count c = search rules

pub returns-in-Ok : goal.returns-in-Ok
returns-in-Ok c =
    λ t.
    same_book t _ _ _ (pan_is c.args.r.now _ (count (goal.at.returns-in-Ok c).After-book)) c.u16_at-label.ensures c.u32_at-amount.ensures c.u32_at-clock.ensures
    (booked_came _ _ _ _ (search rules) t _ _ _ _ c.in-Ok.ensures c.one_booked.ensures)

pub returns-in-Err : goal.returns-in-Err
returns-in-Err c =
    λ t.
    same_book t _ _ _ (pan_is c.args.r.now _ (count (goal.at.returns-in-Err c).After-book)) c.u16_at-label.ensures c.u32_at-amount.ensures c.u32_at-clock.ensures
    (book_refused_came _ _ _ _ (search rules) t _ _ _ _ c.in-Err.ensures c.one_refused.ensures)
