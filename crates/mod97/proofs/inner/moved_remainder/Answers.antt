use mathlib.Core.Path.{◌∙◌}
use Rattle.mod97.proofs.Laws.{moved_read}
use Rattle.mod97.proofs.inner.moved_remainder.Goals as goal

pub returns : goal.returns
returns c = c.read_after.ensures ∙ moved_read c.args.s.now _ c.read_after-v.ensures
