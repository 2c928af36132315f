use Rattle.std.proofs.Common.{refl, rules, arith}
use Rattle.layout.specs.declared.Track.TheVariants.{Two, One}
use Rattle.history.specs.History.{aside}
use Rattle.plays.proofs.Records.{as_call, is_book, is_release, is_swipe, is_none, nothing_came}
use Rattle.plays.proofs.play.Goals as goal

pub returns-in-1 : goal.returns-in-1
returns-in-1 c = as_call _ _ _ _ _ _ (is_book c.args.r.now _ _ 0 (search rules)) (c.play_book.ensures _)

pub returns-in-2 : goal.returns-in-2
returns-in-2 c = as_call _ _ _ _ _ _ (is_release c.args.r.now _ _ 0 (search rules)) (c.play_release.ensures _)

pub returns-in-3 : goal.returns-in-3
returns-in-3 c = as_call _ _ _ _ _ _ (is_swipe c.args.r.now _ _ 0 Two (search rules)) c.play_swipe.ensures

pub returns-in-4 : goal.returns-in-4
returns-in-4 c = as_call _ _ _ _ _ _ (is_swipe c.args.r.now _ _ 0 One (search rules)) c.play_swipe-in-4.ensures

pub returns-in_default : goal.returns-in_default
returns-in_default c =
    as_call _ _ _ _ _ _ (is_none c.args.r.now _ _ 0 (search rules) (search rules) (search rules) (search rules))
    (nothing_came aside _ tt _ _ _ _ _ refl (omega arith) refl refl c.one_skipped.ensures)
