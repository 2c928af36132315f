-- `rises`: what was seen of the list and what is left rises exactly where the whole does.
use Prim.Native.Nat.{◌-◌}
use mathlib.Core.Path.{◌≡◌}
use mathlib.Core.Bool.{◌&&◌}
use lib.ListN.{drop}
use Rattle.hotlist.specs.Hotlist.{rises}
use Rattle.hotlist.proofs.inner.rises.Given as goal

abbrev pub invariant-loop-i : goal.invariant-loop-i
invariant-loop-i l = (l.rising && rises (drop (l.i - 1) l.list)) ≡ rises l.list
