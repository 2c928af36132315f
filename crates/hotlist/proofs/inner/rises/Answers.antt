use native.Mathlib.Omega.{arith}
use mathlib.Core.Path.{refl}
use Rattle.hotlist.proofs.Rising.{rises_turn, rises_done}
use Rattle.hotlist.proofs.inner.rises.Goals as goal

pub loop-i-init : goal.loop-i-init
loop-i-init c = refl

pub loop-i-preserved : goal.loop-i-preserved
loop-i-preserved c = let l = c.loop-i in rises_turn _ l.i l.rising _ l.auto.i (omega arith) l.invariant

pub returns : goal.returns
returns c = let l = c.loop-i in rises_done _ l.i l.rising _ l.auto.i (omega arith) l.invariant
