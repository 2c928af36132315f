use Prim.Native.Nat.{ℕ, ◌%◌}
use mathlib.Core.Path.{sym, ap, ◌∙◌}
use native.Mathlib.Omega.{arith}
use Rattle.reasons.specs.Reasons.{gives}
use Rattle.stream.proofs.Numbers.{power}
use Rattle.chars.proofs.Chars.{next_cut, next_is}
use Rattle.chars.proofs.next_char.Goals as goal

pub returns-then-s-at : goal.returns-then-s-at
returns-then-s-at c = next_cut c.args.s.now c.args.at c.args.size (omega arith) c.if-s-at.true

pub returns-then-is_odd : goal.returns-then-is_odd
returns-then-is_odd c =
    let a = c.args in
    ap (λ (m : ℕ). gives (c.number_at-w.result % m)) (power a.size 8 (omega arith))
    ∙ next_is a.s.now a.at a.size (omega arith) c.if-s-at.false _ _ c.number_at-w.ensures.0 (sym c.is_odd.ensures ∙ c.if-is_odd.true)

pub returns : goal.returns
returns c =
    let a = c.args in
    next_is a.s.now a.at a.size (omega arith) c.if-s-at.false _ _ c.number_at-w.ensures.0 (sym c.is_odd.ensures ∙ c.if-is_odd.false)
