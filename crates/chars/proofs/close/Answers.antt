use Prim.Native.Nat.{suc, ◌+◌, ◌≤◌}
use mathlib.Core.Path.{◌≡◌, sym, ◌∙◌}
use mathlib.Core.Bool.{true, false}
use native.Mathlib.Omega.{arith}
use lib.Seq.{drop-drop}
use Rattle.std.proofs.lemmas.Result.{err_from_is_err_and}
use Rattle.chars.proofs.Chars.{char_fits, close_refused, close_wrong, close_right}
use Rattle.chars.proofs.close.Goals as goal
use Rattle.chars.proofs.close.Goals.{Else-n-x}

pub returns-in_err-n : goal.returns-in_err-n
returns-in_err-n c =
    let p = err_from_is_err_and c.from_residual.result c.from_residual.ensures.1 in
    λ out. rw (p.1, p.2) (close_refused _ _ out _ _ c.in_err-n.ensures)

pub returns-then-n-x : goal.returns-then-n-x
returns-then-n-x c = λ out. close_wrong _ _ out _ _ c.in_ok-n.ensures c.if-n-x.true

fits : (c : Else-n-x) → c.args.at + c.args.size + 1 ≤ c.args.s.now.count
fits c = char_fits c.args.s.now c.args.at c.args.size _ (omega arith) (sym c.in_ok-n.ensures)

pub overflow_add-at : goal.overflow_add-at
overflow_add-at c = omega (arith, fits c)

pub overflow_add-at-2 : goal.overflow_add-at-2
overflow_add-at-2 c = omega (arith, fits c)

pub all_zero-requires : goal.all_zero-requires
all_zero-requires c = fits c

pub returns-then-all_zero : goal.returns-then-all_zero
returns-then-all_zero c =
    let a = c.args in
    let q : a.at + suc a.size ≡ a.at + a.size + 1 = omega arith in
    λ out. close_right _ _ out _ _ c.in_ok-n.ensures true c.if-n-x.false (rw (drop-drop, q) (sym c.all_zero.ensures ∙ c.if-all_zero.true))

pub returns : goal.returns
returns c =
    let a = c.args in
    let q : a.at + suc a.size ≡ a.at + a.size + 1 = omega arith in
    λ out. close_right _ _ out _ _ c.in_ok-n.ensures false c.if-n-x.false (rw (drop-drop, q) (sym c.all_zero.ensures ∙ c.if-all_zero.false))
