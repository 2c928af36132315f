use Rattle.std.proofs.Common.{arith}
use Rattle.walker.proofs.Steps.{step_found, step_given, step_low}
use Rattle.hands.proofs.Handed.{gave, kept}
use Rattle.c_box.proofs.walks.walk_step.Goals as goal

pub overflow_cast-at : goal.overflow_cast-at
overflow_cast-at c = omega (arith, step_low _ _ _ c.in-Ok.ensures)

pub returns-in-Ok : goal.returns-in-Ok
returns-in-Ok c = gave _ _ _ _ (step_given _ _ _ _ c.in-Ok.ensures c.next_of.ensures)

pub returns-in-Err : goal.returns-in-Err
returns-in-Err c = kept _ _ _ _ _ c.number.ensures (step_found _ _ _ c.in-Err.ensures)
