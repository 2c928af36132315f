use Prim.Native.Nat.{◌-◌, ◌≤◌}
use mathlib.Core.Path.{◌≡◌}
use lib.ListN.{drop}
use Rattle.stream.specs.Bits.{all_bits}
use Rattle.chars.specs.Reading.{skip}
use Rattle.chars.proofs.first_one.Given as goal

abbrev pub decreases-loop-at : goal.decreases-loop-at
decreases-loop-at l = l.s.count - l.at

abbrev pub invariant-loop-at : goal.invariant-loop-at
invariant-loop-at l = (skip (drop l.from (all_bits l.s)) ≡ skip (drop l.at (all_bits l.s))) × (l.at ≤ l.s.count)
