use Prim.Native.Nat.{◌<◌}
use mathlib.Core.Path.{sym}
use native.Mathlib.Omega.{arith}
use Rattle.hotlist.proofs.Rising.{stands_at}
use Rattle.hotlist.proofs.Halving.{start, nowhere, look_left, upper, lower}
use Rattle.hotlist.proofs.inner.search.Goals as goal

pub loop-low-init : goal.loop-low-init
loop-low-init c = start _ _ c.requires.0

pub overflow_add-looks : goal.overflow_add-looks
overflow_add-looks c =
    let more : c.loop-low.looks < 14 = look_left _ _ _ _ _ c.loop-low.invariant c.loop-low-test.true in
    omega (arith, more)

pub returns-then-y-x : goal.returns-then-y-x
returns-then-y-x c =
    let more : c.loop-low.looks < 14 = look_left _ _ _ _ _ c.loop-low.invariant c.loop-low-test.true in
    (sym (stands_at _ _ _ (omega arith) c.if-y-x.true), omega (arith, more))

pub loop-low-preserved-then-y-x-2 : goal.loop-low-preserved-then-y-x-2
loop-low-preserved-then-y-x-2 c = upper _ _ _ _ _ c.loop-low.invariant c.loop-low-test.true c.requires.1 _ (omega arith) (omega arith) (omega arith) c.if-y-x-2.true

pub loop-low-preserved : goal.loop-low-preserved
loop-low-preserved c =
    lower _ _ _ _ _ c.loop-low.invariant c.loop-low-test.true c.requires.1 _ (omega arith) (omega arith) (omega arith)
    (omega (arith, c.if-y-x.false))

pub returns : goal.returns
returns c = let l = c.loop-low in (sym (nowhere _ _ _ _ _ l.invariant c.loop-low-test.false), l.invariant.looked)
