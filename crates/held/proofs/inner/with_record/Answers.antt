use Prim.Native.Nat.{ℕ, ◌+◌}
use native.Mathlib.Omega.{arith}
use mathlib.Core.Path.{refl, sym, ap, ◌∙◌}
use Rattle.held.proofs.Walks.{more_held, not_held}
use Rattle.held.proofs.inner.with_record.Goals as goal

pub returns-then-is_held : goal.returns-then-is_held
returns-then-is_held c =
    let a = c.args in
    let held = sym c.is_held.ensures ∙ c.if-is_held.true in
    let sum = ap (λ (x : ℕ). a.t.sum + x) c.u32_at-amount.ensures in
    (omega arith, omega arith, λ rs t. more_held a.j.now a.at a.t _ rs held refl sum c.u32_at-serial.ensures t)

pub returns : goal.returns
returns c =
    let a = c.args in
    (omega arith, omega arith, λ rs t. not_held a.j.now a.at _ rs (sym c.is_held.ensures ∙ c.if-is_held.false) t)
