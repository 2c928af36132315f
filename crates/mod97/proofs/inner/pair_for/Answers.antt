use Rattle.mod97.proofs.OnePair.{made_read}
use Rattle.mod97.proofs.inner.pair_for.Goals as goal

pub returns : goal.returns
returns c = made_read _ _ _ _ _ c.requires c.read_after-v.ensures c.read_after-w.ensures c.read_after.ensures
