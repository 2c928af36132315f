-- The table's rule, carried to each look_up.
use mathlib.Core.Path.{◌≡◌}
use Prim.Native.Nat.{ℕ, ◌<◌}
use lib.ListN.{get_or}
use Rattle.text.proofs.Table.{look_up}
use Rattle.pairs.specs.Pairs.{pair_of, pair_table}

pub pair_at : (w : ℕ) → w < 1024 → get_or pair_table w 0 ≡ pair_of w
unfolding pair_table
pair_at w h = look_up pair_of 1024 w h
