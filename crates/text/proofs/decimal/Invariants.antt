-- `decimal`: what is left of the digits, after what was read, writes the whole number; so many digits write less than ten to their number.
use Prim.Native.Nat.{◌<◌, ◌^◌}
use mathlib.Core.Path.{◌≡◌}
use lib.ListN.{drop}
use Rattle.text.specs.Numbers.{decimal_after, decimal}
use Rattle.text.proofs.decimal.Given as goal

abbrev pub invariant-loop-b : goal.invariant-loop-b
invariant-loop-b l = (decimal_after l.v (drop l.b-index l.s) ≡ decimal l.s) × (l.v < 10 ^ l.b-index)
