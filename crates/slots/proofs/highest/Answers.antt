use Rattle.std.proofs.Common.{arith}
use borrow.Author.Count.{below_more}
use Rattle.slots.proofs.highest.Goals as goal

pub loop-k-preserved : goal.loop-k-preserved
loop-k-preserved c =
    let h = c.higher-top.ensures in (
      below_more _ _ (λ i l. let a = c.loop-k.invariant.0 i l in omega arith) (omega arith),
      λ m f. let a = c.loop-k.invariant.1 m (λ i l. f i (omega arith)) in let b = f c.loop-k.k (omega arith) in omega arith,
    )
