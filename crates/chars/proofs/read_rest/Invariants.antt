use Prim.Native.Nat.{◌≤◌}
use mathlib.Core.Path.{◌≡◌}
use lib.ListN.{length, take, drop}
use Rattle.stream.specs.Bits.{all_bits}
use Rattle.chars.specs.Shape.{rest_of}
use Rattle.chars.proofs.read_rest.Given as goal

abbrev pub invariant-loop-len : goal.invariant-loop-len
invariant-loop-len l =
    (rest_of l.h l.fn.b.len l.fn.b.lrc (take l.fn.b.len l.initial.out) (drop l.fn.b.at (all_bits l.s))
    ≡ rest_of l.h l.len l.lrc (take l.len l.out) (drop l.at (all_bits l.s)))
    × (l.at ≤ l.s.count) × (length l.out ≡ length l.initial.out)
