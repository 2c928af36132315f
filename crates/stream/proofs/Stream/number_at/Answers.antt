use native.Mathlib.Omega.{arith}
use Rattle.stream.proofs.Windows.{forward_is, reversed_is}
use Rattle.stream.proofs.Stream.number_at.Goals as goal

pub returns-then-self : goal.returns-then-self
returns-then-self c =
    let a = c.args in (
      reversed_is a.self.now a.at a.width c.turned.result (omega arith) c.if-self.true
          c.window.result c.window.ensures.0 c.turned.ensures.0,
      c.turned.ensures.1,
    )

pub returns : goal.returns
returns c =
    let a = c.args in (
      forward_is a.self.now a.at a.width c.window-2.result (omega arith) c.if-self.false c.window-2.ensures.0,
      c.window-2.ensures.1,
    )
