use Prim.Native.Nat.{◌-◌}
use native.Mathlib.Omega.{arith}
use Rattle.std.proofs.lemmas.Bool.{not-false}
use mathlib.Core.Path.{ap, ◌∙◌}
use lib.ListN.{length}
use Rattle.stream.specs.Bits.{all_bits}
use Rattle.stream.proofs.Streams.{stream-fits}
use Rattle.chars.specs.Shape.{letters_of}
use Rattle.pairs.proofs.Turns.{two_taken, length_two}
use Rattle.pairs.proofs.by_pairs.Goals as goal

pub loop-look-preserved : goal.loop-look-preserved
loop-look-preserved c =
    let l = c.loop-look in
    let h = c.args.h in
    let s = c.args.s.now in (
      l.invariant.0
          ∙ two_taken (letters_of h.size h.last h.base) (all_bits s) l.b.at (h.limit - 1) l.b.len l.b.lrc _ l.out
          (h.four (not-false h.pairs c.if-not-h.false)) (stream-fits s.reversed s.bytes.now s.count l.b.at 10 (omega arith)) (omega arith) (omega arith)
          c.pair_at-pair.ensures (c.stops.ensures c.if-stops.false) _ _ c.take_two.ensures.0 c.take_two.ensures.1,
      omega arith,
      omega arith,
      ap length c.take_two.ensures.1 ∙ length_two l.out l.b.len h.base c.pair_at-pair.result ∙ l.invariant.3,
    )
