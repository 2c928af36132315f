use mathlib.Core.Path.{ap, ◌∙◌}
use mathlib.Core.List.{List}
use Prim.Native.Nat.{ℕ}
use lib.ListN.{get_or}
use Rattle.pairs.specs.Pairs.{pair_of}
use Rattle.pairs.proofs.Tables.{pair_at}
use Rattle.pairs.proofs.pair_at.Goals as goal

pub returns : goal.returns
returns c =
    ap (λ (l : List ℕ). get_or l c.ten_at.result 0) c.requires.0
    ∙ pair_at c.ten_at.result c.ten_at.ensures.1 ∙ ap pair_of c.ten_at.ensures.0
