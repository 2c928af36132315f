use Rattle.std.proofs.Common.{refl, ap, ◌∙◌, arith}
use Rattle.slots.specs.Writes.{wrote, turn_byte}
use Rattle.slots.proofs.Writes.{write_turn, write_done}
use Rattle.slots.proofs.write_record.Goals as goal

pub loop-k-init : goal.loop-k-init
unfolding wrote
loop-k-init c = refl

pub loop-k-preserved : goal.loop-k-preserved
unfolding turn_byte
loop-k-preserved c = write_turn _ _ _ _ c.loop-k.k _ refl (omega arith) c.loop-k.invariant

pub returns : goal.returns
returns c = c.loop-k.invariant ∙ ap (wrote _) (write_done _ _ c.loop-k.k (omega arith))
