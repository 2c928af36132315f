-- `write_bytes`: after k turns the first k bytes stand in front.
use lib.ListN.{length}
use lib.Seq.{paste}
use mathlib.Core.Path.{◌≡◌}
use Rattle.numerals.specs.Numbers.{bytes_in}
use Rattle.numerals.proofs.write_bytes.Given as goal

abbrev pub invariant-loop-k : goal.invariant-loop-k
invariant-loop-k l = (l.out ≡ paste l.initial.out 0 (bytes_in l.w) l.k) × (length l.out ≡ length l.initial.out)
