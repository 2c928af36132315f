use Prim.Native.Nat.{ℕ, ◌/◌, ◌%◌, ◌^◌}
use mathlib.Core.Path.{ap, ◌∙◌}
use native.Mathlib.Omega.{arith}
use Rattle.stream.proofs.Windows.{four_bytes, window_is}
use Rattle.stream.proofs.ten.Goals as goal

pub returns : goal.returns
returns c =
    let a = c.args in (
      ap (λ (x : ℕ). x / 2 ^ a.shift % 1024) (c.u32_at.ensures ∙ four_bytes a.s.now a.first)
          ∙ window_is a.s.now (λ i. omega (arith, c.type_inv.s i)) 4 a.first a.shift 10 (omega arith),
      omega arith,
    )
