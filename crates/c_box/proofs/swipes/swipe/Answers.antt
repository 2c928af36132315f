-- `swipe` hands over the serial, and what the card has left by its own case.
use Rattle.std.proofs.Common.{sym, ap}
use Rattle.reasons.specs.Reasons.{said}
use Rattle.hands.proofs.Handed.{gave, kept, behind_is}
use Rattle.c_box.specs.Calls.{swipe_numbers}
use Rattle.c_box.proofs.swipes.swipe.Goals as goal

pub returns-in-Some : goal.returns-in-Some
returns-in-Some c = record {
  answer = c.swipe.result;
  allowed = c.swipe.ensures;
  handed = behind_is _ _ _ _ _ _ (ap (swipe_numbers (let a = c.args in (a.serial.now, a.expires.now, a.days.now)) _) (sym c.in-Some.is)) (gave _ _ _ _ (sym (ap said c.in-Ok.is)));
}

pub returns-in-None : goal.returns-in-None
returns-in-None c = record {
  answer = c.swipe.result;
  allowed = c.swipe.ensures;
  handed = behind_is _ _ _ _ _ _ (ap (swipe_numbers (let a = c.args in (a.serial.now, a.expires.now, a.days.now)) _) (sym c.in-None.is)) (gave _ _ _ _ (sym (ap said c.in-Ok.is)));
}

pub returns-in-Err : goal.returns-in-Err
returns-in-Err c = record { answer = c.swipe.result; allowed = c.swipe.ensures; handed = kept _ _ _ _ _ c.number.ensures (sym (ap said c.in-Err.is)) }
