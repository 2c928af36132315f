-- `digits`: what is left, after what was read, writes the whole number, which no digit makes smaller.
use Prim.Native.Nat.{◌≤◌}
use lib.ListN.{drop}
use mathlib.Core.Path.{◌≡◌}
use Rattle.text.specs.Numbers.{decimal_after, decimal}
use Rattle.numerals.proofs.digits.Given as goal

abbrev pub invariant-loop-b : goal.invariant-loop-b
invariant-loop-b l = (decimal_after l.v (drop l.b-index l.w) ≡ decimal l.w) × (l.v ≤ l.most)
