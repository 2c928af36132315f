use Rattle.std.proofs.Common.{◌/◌, length}
use Rattle.payer.specs.Payer.{terms_of}
use Rattle.replay.proofs.Scripts.{Going}
use Rattle.replay.proofs.replay.Given as goal

abbrev pub invariant-loop-r : goal.invariant-loop-r
invariant-loop-r l =
    Going l.script (terms_of l.terms) l.initial.scratch l.initial.journal (length l.script / 128) l.r-index l.scratch l.journal l.totals
