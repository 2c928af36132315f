use Rattle.std.proofs.Common.{arith}
use Rattle.held.proofs.Rule.{found_in}
use Rattle.exchange.proofs.send.Goals as goal

pub overflow_add-at : goal.overflow_add-at
overflow_add-at c = let h = found_in _ _ _ _ c.find.ensures c.in-Ok.is in omega arith

pub slice_bounds-post-end : goal.slice_bounds-post-end
slice_bounds-post-end c = found_in _ _ _ _ c.find.ensures c.in-Ok.is
