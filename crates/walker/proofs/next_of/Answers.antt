use native.Mathlib.Omega.{arith}
use Rattle.walker.proofs.Held.{next-none, next_last, next_held, next-not, given_here, refused_here}
use Rattle.walker.proofs.next_of.Goals as goal

pub returns-then-s-eq0 : goal.returns-then-s-eq0
returns-then-s-eq0 c = next-none _ _ c.if-s-eq0.true

pub returns-then-s-eq4294967295 : goal.returns-then-s-eq4294967295
returns-then-s-eq4294967295 c = next_last _ _ c.if-s-eq4294967295.true

pub returns-in-Ok : goal.returns-in-Ok
returns-in-Ok c = next_held c.args.j.now c.args.s (omega arith) (omega (arith, c.if-s-eq4294967295.false)) (given_here _ _ _ c.in-Ok.ensures)

pub returns-in-Err : goal.returns-in-Err
returns-in-Err c = next-not c.args.j.now c.args.s (omega arith) (omega (arith, c.if-s-eq4294967295.false)) (refused_here _ _ _ c.in-Err.ensures)
