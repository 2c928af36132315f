use Prim.Native.Nat.{◌+◌, ◌≤◌}
use mathlib.Core.Path.{◌≡◌, ◌∙◌}
use native.Mathlib.Omega.{arith}
use lib.Count.{count_trailing_zeros}
use lib.ListN.{drop}
use Rattle.stream.specs.Bits.{all_bits}
use Rattle.chars.specs.Reading.{skip}
use Rattle.chars.proofs.Walks.{skip_past, skip_to, skip_end}
use Rattle.chars.proofs.first_one.Goals as goal
use Rattle.chars.proofs.first_one.Goals.{Then-w-ne0}

-- the first one bit of the window
found : (c : Then-w-ne0) → let at = c.loop-at.at + count_trailing_zeros 8 c.number_at-w.result in
    (skip (drop c.loop-at.at (all_bits c.args.s.now)) ≡ drop at (all_bits c.args.s.now)) × (at ≤ c.args.s.now.count)
found c = skip_to c.args.s.now c.loop-at.at _ _ (omega arith) c.number_at-w.ensures.0 (omega arith) c.if-w-ne0.true

pub overflow_add-result : goal.overflow_add-result
overflow_add-result c = omega (arith, (found c).1)

pub returns-then-w-ne0 : goal.returns-then-w-ne0
returns-then-w-ne0 c = (c.loop-at.invariant.0 ∙ (found c).0, (found c).1)

pub loop-at-preserved : goal.loop-at-preserved
loop-at-preserved c = (
  c.loop-at.invariant.0 ∙ skip_past c.args.s.now c.loop-at.at _ _ (omega arith) c.number_at-w.ensures.0 c.if-w-ne0.false,
  omega arith,
)

pub returns : goal.returns
returns c = (c.loop-at.invariant.0 ∙ skip_end c.args.s.now c.loop-at.at (omega arith), omega arith)
