use Prim.Native.Nat.{ℕ, ◌+◌, ◌-◌, ◌*◌, ◌/◌, ◌%◌, ◌^◌}
use mathlib.Core.Path.{◌≡◌, ap, ap₂, ◌∙◌}
use native.Mathlib.Omega.{arith}
use native.Mathlib.Nat.{mod-lt}
use lib.Pow.{pow_pos}
use Rattle.stream.specs.Stream.{number, bits_from}
use Rattle.stream.proofs.Numbers.{power}
use Rattle.stream.proofs.Windows.{in_two}
use Rattle.stream.proofs.window.Goals as goal

pub returns : goal.returns
returns c =
    let a = c.args in
    let b = a.place / 8 in
    let o = a.place % 8 in
    let e = b + (o + a.width - 1) / 8 in
    let word = ap₂ (λ (x y : ℕ). x + 256 * y) c.wide.ensures.0 c.wide-2.ensures.0 in
    let at : 8 * b + o ≡ a.place = omega arith in (
      ap₂ (λ (x m : ℕ). x / 2 ^ o % m) word (power a.width 64 (omega arith))
          ∙ in_two a.s.now (λ i. omega (arith, c.type_inv.s i)) b e o a.width (omega arith) (λ h. omega arith)
          ∙ ap (λ (p : ℕ). number (bits_from a.s.now p a.width)) at,
      rw (power a.width 64 (omega arith)) (mod-lt _ (pow_pos a.width)),
    )
