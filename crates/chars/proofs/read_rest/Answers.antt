use Prim.Native.Nat.{◌+◌, ◌-◌, ◌≤◌}
use native.Mathlib.Omega.{arith}
use mathlib.Core.Path.{◌≡◌, sym, ◌∙◌}
use lib.ListN.{take, drop, length-set}
use Rattle.std.proofs.lemmas.Result.{err_from_is_err_and}
use Rattle.reasons.specs.Reasons.{and_then, gives, said}
use Rattle.stream.specs.Bits.{all_bits}
use Rattle.chars.specs.Shape.{letters_of, rest_of}
use Rattle.chars.proofs.Chars.{char_fits, char_lt}
use Rattle.chars.proofs.Bodies.{body_none, body_refused, ends, turn, byte_fits}
use Rattle.chars.proofs.read_rest.Goals as goal
use Rattle.chars.proofs.read_rest.Goals.{In_ok-n, After-close}

fits : (c : In_ok-n) → c.loop-len.at + c.args.h.size + 1 ≤ c.args.s.now.count
fits c = char_fits c.args.s.now c.loop-len.at c.args.h.size _ c.loop-len.invariant.1 (sym c.in_ok-n.ensures)

-- what the close says is what the whole rest does
closed : (c : After-close)
    → and_then (said c.close.result) (λ _. gives (take c.loop-len.len c.loop-len.out))
    ≡ rest_of c.args.h c.args.b.len c.args.b.lrc (take c.args.b.len c.args.out.now) (drop c.args.b.at (all_bits c.args.s.now))
closed c =
    let l = c.loop-len in
    let h = c.args.h in
    c.close.ensures (take l.len l.out)
    ∙ ends (letters_of h.size h.last h.base) (all_bits c.args.s.now) l.at (h.limit - 1) l.len l.lrc _ l.out (omega arith) c.in_ok-n.ensures c.if-n-h.true
    ∙ sym l.invariant.0

pub returns-in_err-n : goal.returns-in_err-n
returns-in_err-n c =
    let p = err_from_is_err_and c.from_residual.result c.from_residual.ensures.1 in
    rw (p.1, p.2) (body_refused _ _ _ _ _ (omega arith) _ c.in_err-n.ensures ∙ sym c.loop-len.invariant.0, omega arith)

pub overflow_add-at : goal.overflow_add-at
overflow_add-at c = omega (arith, fits c)

pub overflow_add-at-in-loop-len : goal.overflow_add-at-in-loop-len
overflow_add-at-in-loop-len c = omega (arith, fits c)

pub close-requires : goal.close-requires
close-requires c = (fits (goal.at.close-requires c).In_ok-n, omega arith)

pub returns-in_err-close : goal.returns-in_err-close
returns-in_err-close c =
    let p = err_from_is_err_and c.from_residual-in_err-close.result c.from_residual-in_err-close.ensures.1 in
    rw (p.1, p.2) (rw c.in_err-close.was at (closed (goal.at.returns-in_err-close c).After-close), omega arith)

pub returns-then-n-h : goal.returns-then-n-h
returns-then-n-h c = (rw c.in_ok-close.was at (closed (goal.at.returns-then-n-h c).After-close), omega arith)

pub overflow_add-out : goal.overflow_add-out
overflow_add-out c =
    let h = c.args.h in
    record { fits = byte_fits h.size _ h.base h.few h.low (char_lt h.size _ _ (sym c.in_ok-n.ensures)) }

pub loop-len-preserved : goal.loop-len-preserved
loop-len-preserved c =
    let l = c.loop-len in
    let h = c.args.h in (
      l.invariant.0
          ∙ turn (letters_of h.size h.last h.base) (all_bits c.args.s.now) l.at (h.limit - 1) l.len l.lrc _ l.out (omega arith) c.in_ok-n.ensures
          (omega arith) c.if-n-h.false,
      fits (goal.at.loop-len-preserved c).In_ok-n,
      simp length-set l.invariant.2,
    )

pub returns : goal.returns
returns c = (body_none _ _ _ _ _ (omega arith) ∙ sym c.loop-len.invariant.0, omega arith)
