use Prim.Native.Nat.{ℕ}
use lib.ListN.{length, drop}
use mathlib.Core.Path.{ap}
use native.Mathlib.Numerals.{add-one}
use native.Mathlib.Omega.{arith}
use Rattle.script.proofs.Words.{first_space, first_end, first_turn}
use Rattle.script.specs.Words.{first_word}
use Rattle.script.proofs.end_of.Goals as goal

pub returns-then-line-i-eq32 : goal.returns-then-line-i-eq32
returns-then-line-i-eq32 c =
    let e = first_space c.args.line.now c.loop-i.i (omega arith) c.if-line-i-eq32.true in
    (omega arith, omega arith)

pub loop-i-preserved : goal.loop-i-preserved
loop-i-preserved c =
    let s = c.args.line.now in
    let e = first_turn s c.loop-i.i (omega arith) c.if-line-i-eq32.false in
    let f = ap (λ (n : ℕ). length (first_word (drop n s))) (add-one c.loop-i.i) in
    omega arith

pub returns : goal.returns
returns c =
    let e = first_end c.args.line.now c.loop-i.i (omega arith) in
    (omega (arith, c.loop-i.auto.i-end c.requires), omega arith)
