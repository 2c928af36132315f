use Rattle.std.proofs.Common.{◌/◌, length}
use Rattle.payer.specs.Payer.{terms_of}
use Rattle.exchange.specs.Inner.{state}
use Rattle.exchange.proofs.Going.{Going}
use Rattle.exchange.proofs.run.Given as goal

abbrev pub invariant-loop-r : goal.invariant-loop-r
invariant-loop-r l =
    Going l.script (terms_of l.terms) (state l.initial.scratch l.initial.journal l.initial.air l.initial.host)
    (state l.scratch l.journal l.air l.host) (length l.script / 128) l.r-index l.totals
