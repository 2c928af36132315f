use Prim.Native.Nat.{ℕ, ◌/◌, ◌%◌, ◌^◌, ◌<◌}
use mathlib.Core.Path.{sym, ◌∙◌, subst}
use mathlib.Core.List.{reverse}
use native.Mathlib.Omega.{arith}
use Rattle.text.proofs.Table.{look_up}
use Rattle.stream.specs.Stream.{number, bits_of}
use Rattle.stream.proofs.Numbers.{turned_is, turned_lt}
use Rattle.stream.proofs.turned.Goals as goal

-- antt computes the rule's 32 values and holds the table against them
pub returns : goal.returns
unfolding number
returns c =
    let a = c.args in
    let five = look_up (λ (w : ℕ). number (reverse (bits_of 5 w))) 32 in
    let low = c.wide.ensures.0 ∙ five (a.w % 32) (omega arith) in
    let high = c.wide-2.ensures.0 ∙ five (a.w / 32) (omega arith) in
    let e = turned_is a.w a.width _ _ (omega arith) low high in
    (e, subst (λ (n : ℕ). n < 2 ^ a.width) (sym e) (turned_lt a.width a.w))
