use Prim.Native.Nat.{ℕ, ◌+◌, ◌-◌, ◌*◌, ◌/◌, ◌%◌}
use mathlib.Core.Path.{◌≡◌, ap, ◌∙◌}
use native.Mathlib.Omega.{arith}
use Rattle.stream.specs.Stream.{number, bits_from}
use Rattle.stream.proofs.Windows.{forward_is, reversed_is}
use Rattle.stream.proofs.Stream.ten_at.Goals as goal

pub returns-then-self : goal.returns-then-self
returns-then-self c =
    let a = c.args in
    let last = a.self.now.count - a.at - 1 in
    let p : 8 * (last / 8 - 3) + (last % 8 + 15) ≡ a.self.now.count - a.at - 10 = omega arith in (
      reversed_is a.self.now a.at 10 c.turned.result (omega arith) c.if-self.true
          c.ten.result (c.ten.ensures.0 ∙ ap (λ (b : ℕ). number (bits_from a.self.now.bytes.now b 10)) p) c.turned.ensures.0,
      c.turned.ensures.1,
    )

pub returns : goal.returns
returns c =
    let a = c.args in
    let p : 8 * (a.at / 8) + a.at % 8 ≡ a.at = omega arith in (
      forward_is a.self.now a.at 10 c.ten-2.result (omega arith) c.if-self.false
          (c.ten-2.ensures.0 ∙ ap (λ (b : ℕ). number (bits_from a.self.now.bytes.now b 10)) p),
      c.ten-2.ensures.1,
    )
