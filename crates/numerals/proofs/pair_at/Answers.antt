-- `pair_at`: both digits are below 16.
use Prim.Native.Nat.{◌+◌, ◌*◌}
use mathlib.Core.Path.{◌∙◌}
use native.Mathlib.Omega.{arith}
use Rattle.text.proofs.Every.{every_at}
use Rattle.numerals.specs.Numbers.{is_hex}
use Rattle.numerals.proofs.Pairs.{some_hex, digit_at, bytes_at}
use Rattle.numerals.proofs.pair_at.Goals as goal

pub unwrap-requires : goal.unwrap-requires
unwrap-requires c = some_hex _ _ c.hex_value.ensures ∙ every_at is_hex c.args.w.now (2 * c.args.k) c.requires.1 (omega arith)

pub overflow_mul-result : goal.overflow_mul-result
overflow_mul-result c =
    omega (arith, digit_at c.args.w.now (2 * c.args.k) _ _ c.requires.1 (omega arith) c.hex_value.ensures c.unwrap.ensures)

pub unwrap-requires-2 : goal.unwrap-requires-2
unwrap-requires-2 c = some_hex _ _ c.hex_value-2.ensures ∙ every_at is_hex c.args.w.now (2 * c.args.k + 1) c.requires.1 (omega arith)

pub overflow_add-result : goal.overflow_add-result
overflow_add-result c =
    let high = digit_at c.args.w.now (2 * c.args.k) _ _ c.requires.1 (omega arith) c.hex_value.ensures c.unwrap.ensures in
    let low = digit_at c.args.w.now (2 * c.args.k + 1) _ _ c.requires.1 (omega arith) c.hex_value-2.ensures c.unwrap-2.ensures in
    omega (arith, high, low)

pub returns : goal.returns
returns c =
    let high = digit_at c.args.w.now (2 * c.args.k) _ _ c.requires.1 (omega arith) c.hex_value.ensures c.unwrap.ensures in
    let low = digit_at c.args.w.now (2 * c.args.k + 1) _ _ c.requires.1 (omega arith) c.hex_value-2.ensures c.unwrap-2.ensures in
    omega (arith, high, low, bytes_at c.args.w.now c.args.k c.requires.0)
