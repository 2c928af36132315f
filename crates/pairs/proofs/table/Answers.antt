use mathlib.Core.Path.{refl}
use lib.Count
use Rattle.pairs.specs.Pairs.{pair_of, pair_table}
use Rattle.pairs.proofs.table.Goals as goal

-- "The table's rule is to be proved once over all entries": antt computes them
pub returns : goal.returns
unfolding pair_table pair_of Count.ones Count.ones_in
returns c = refl
