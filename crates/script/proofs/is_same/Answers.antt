use Prim.Native.Nat.{ℕ}
use lib.ListN.{drop}
use mathlib.Core.Path.{refl, sym, ap, ◌∙◌}
use native.Mathlib.Numerals.{add-one}
use native.Mathlib.Omega.{arith}
use Rattle.script.proofs.Words.{same_apart, same_turn, same_stop, same_end}
use Rattle.script.specs.Words.{same}
use Rattle.script.proofs.is_same.Goals as goal

pub returns-then-a-b : goal.returns-then-a-b
returns-then-a-b c = let g = c.args in sym (same_apart g.a.now g.b.now c.if-a-b.true)

pub loop-i-init : goal.loop-i-init
loop-i-init c = refl

pub returns-then-a-i : goal.returns-then-a-i
returns-then-a-i c =
    let g = c.args in
    sym (same_stop g.a.now g.b.now c.loop-i.i (omega arith) (omega arith) c.if-a-i.true) ∙ c.loop-i.invariant

pub loop-i-preserved : goal.loop-i-preserved
loop-i-preserved c =
    let g = c.args in
    let i = c.loop-i.i in
    ap (λ (n : ℕ). same (drop n g.a.now) (drop n g.b.now)) (add-one i)
    ∙ sym (same_turn g.a.now g.b.now i (omega arith) (omega arith) c.if-a-i.false) ∙ c.loop-i.invariant

pub returns : goal.returns
returns c =
    let g = c.args in
    sym (same_end g.a.now g.b.now c.loop-i.i (omega arith) (omega arith)) ∙ c.loop-i.invariant
