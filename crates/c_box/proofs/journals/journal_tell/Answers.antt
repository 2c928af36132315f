use Rattle.std.proofs.Common.{sym, ap}
use Rattle.reasons.specs.Reasons.{said}
use Rattle.hands.proofs.Handed.{gave, kept}
use Rattle.c_box.proofs.journals.journal_tell.Goals as goal

pub returns-in-Ok : goal.returns-in-Ok
returns-in-Ok c = record { answer = c.tell.result; allowed = c.tell.ensures; handed = gave _ _ _ _ (sym (ap said c.in-Ok.is)) }

pub returns-in-Err : goal.returns-in-Err
returns-in-Err c = record { answer = c.tell.result; allowed = c.tell.ensures; handed = kept _ _ _ _ _ c.number.ensures (sym (ap said c.in-Err.is)) }
