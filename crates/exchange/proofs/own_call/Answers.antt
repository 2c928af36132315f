use Rattle.std.proofs.Common.{refl, rules, arith}
use Rattle.history.specs.History.{aside}
use Rattle.plays.proofs.Records.{as_call, nothing_came}
use Rattle.exchange.proofs.Turned.{passed_over, made_as_asked}
use Rattle.exchange.proofs.own_call.Goals as goal

pub returns-then-r-eq-RELEASE : goal.returns-then-r-eq-RELEASE
returns-then-r-eq-RELEASE c =
    as_call _ _ _ _ _ _ (passed_over c.args.r.now _ _ 0 (search rules))
    (nothing_came aside _ tt _ _ _ _ _ refl (omega arith) refl refl c.one_skipped.ensures)

pub returns : goal.returns
returns c = as_call _ _ _ _ _ _ (made_as_asked c.args.r.now _ _ 0 (search rules)) c.play.ensures
