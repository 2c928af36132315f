-- `word_at`: nothing past the line's end, else the part from the byte to the word's end.
use Prim.Native.Nat.{ℕ, ◌-◌}
use lib.ListN.{length, take, drop}
use mathlib.Core.Path.{◌≡◌, sym, ap, ◌∙◌}
use native.Mathlib.Omega.{arith}
use Rattle.script.proofs.Words.{first_front, first_none}
use Rattle.script.specs.Words.{first_word}
use Rattle.script.proofs.word_at.Goals as goal

pub returns-then-line-from : goal.returns-then-line-from
returns-then-line-from c =
    let a = c.args in
    (sym (first_none a.line.now a.from (omega arith)), omega arith)

pub returns : goal.returns
returns c =
    let a = c.args.from in
    let s = c.args.line.now in
    let n : c.end_of-e.result - a ≡ length (first_word (drop a s)) = omega (arith, c.end_of-e.ensures.0) in
    let w : take (c.end_of-e.result - a) (drop a s) ≡ first_word (drop a s) = ap (λ (k : ℕ). take k (drop a s)) n ∙ first_front (drop a s) in
    (w, omega (arith, ap length w, c.end_of-e.ensures))
