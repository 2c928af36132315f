use Rattle.std.proofs.Common.{sym, ap, ◌∙◌, arith}
use Rattle.reasons.specs.Reasons.{said}
use Rattle.held.proofs.Rule.{found_in}
use Rattle.hands.proofs.Handed.{gave, kept}
use Rattle.c_box.proofs.Walked.{short}
use Rattle.c_box.proofs.journals.journal_show.Goals as goal

pub overflow_cast-at : goal.overflow_cast-at
overflow_cast-at c =
    let a = c.args in
    let f = c.find.ensures in
    let i = found_in a.journal.now a.serial _ _ f c.in-Ok.is in
    let l = short a.journal.now a.serial _ f.view f.is (sym (ap said c.in-Ok.is) ∙ f.so) in
    omega arith

pub returns-in-Ok : goal.returns-in-Ok
returns-in-Ok c = record { answer = c.find.result; allowed = c.find.ensures; handed = gave _ _ _ _ (sym (ap said c.in-Ok.is)) }

pub returns-in-Err : goal.returns-in-Err
returns-in-Err c = record { answer = c.find.result; allowed = c.find.ensures; handed = kept _ _ _ _ _ c.number.ensures (sym (ap said c.in-Err.is)) }
