use Rattle.held.proofs.Rule.{tell_done}
use Rattle.held.proofs.inner.tell_at.Goals as goal

pub returns : goal.returns
returns c = tell_done _ _ _ _ c.floor_of-low.ensures c.tally-t.ensures
