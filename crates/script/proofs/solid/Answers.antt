use Rattle.script.proofs.Typed.{grouped_turn, grouped_done}
use borrow.Author.Rules.{rules}
use mathlib.Core.Logic.{inl, inr}
use native.Mathlib.Omega.{arith}
use Rattle.script.proofs.solid.Goals as goal

pub loop-b-preserved : goal.loop-b-preserved
loop-b-preserved c =
    let p = c.put_solid-n in
    let l = c.loop-b in
    let g = grouped_turn c.args.s.now c.args.room.now l.room l.n l.b-index l.invariant.1 (omega arith) (omega arith) in
    (search rules, rw (p.ensures.0, p.ensures.1) g)

pub returns-then-room-n-clause-room_after : goal.returns-then-room-n-clause-room_after
returns-then-room-n-clause-room_after c = (grouped_done _ _ _ _ _ c.loop-b.invariant.1 (inl (omega arith))).1

pub returns-clause-value : goal.returns-clause-value
returns-clause-value c = (grouped_done _ _ _ _ _ c.loop-b.invariant.1 (inr (omega arith))).0

pub returns-clause-room_after : goal.returns-clause-room_after
returns-clause-room_after c = (grouped_done _ _ _ _ _ c.loop-b.invariant.1 (inr (omega arith))).1
