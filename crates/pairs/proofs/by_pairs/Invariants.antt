use Prim.Native.Nat.{◌+◌, ◌*◌}
use mathlib.Core.Path.{◌≡◌}
use lib.ListN.{length, take, drop}
use Rattle.stream.specs.Bits.{all_bits}
use Rattle.chars.specs.Shape.{body_of, rest_of}
use Rattle.pairs.proofs.by_pairs.Given as goal

-- the rest from here gives the whole
abbrev pub invariant-loop-look : goal.invariant-loop-look
invariant-loop-look l =
    (body_of l.h (drop l.from (all_bits l.s)) ≡ rest_of l.h l.b.len l.b.lrc (take l.b.len l.out) (drop l.b.at (all_bits l.s)))
    × (l.b.at ≡ l.from + 10 * l._look) × (l.b.len ≡ 2 * l._look) × (length l.out ≡ length l.initial.out)
