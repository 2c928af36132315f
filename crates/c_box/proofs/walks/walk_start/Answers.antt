use Rattle.slots.proofs.Views.{seen_so}
use Rattle.walker.proofs.Steps.{start_told}
use Rattle.hands.proofs.Handed.{gave, kept}
use Rattle.c_box.proofs.walks.walk_start.Goals as goal

pub returns-in-Ok : goal.returns-in-Ok
returns-in-Ok c = seen_so _ c.in-Ok.ensures (λ m e. gave _ _ _ _ (start_told m _ _ e))

pub returns-in-Err : goal.returns-in-Err
returns-in-Err c = seen_so _ c.in-Err.ensures (λ m e. kept _ _ _ _ _ c.number.ensures (start_told m _ _ e))
