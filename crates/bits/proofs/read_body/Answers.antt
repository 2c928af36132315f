use mathlib.Core.Path.{sym, ◌∙◌}
use Rattle.bits.proofs.read_body.Goals as goal

-- the rest from where the looks stop gives the whole
pub returns : goal.returns
returns c = (c.read_rest.ensures.0 ∙ sym c.by_pairs-b.ensures.0, c.read_rest.ensures.1)
