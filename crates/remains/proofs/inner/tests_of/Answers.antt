use Prim.Native.Nat.{ℕ, ◌*◌, ◌+◌, ◌-◌}
use mathlib.Core.List.{List}
use mathlib.Core.Path.{◌≡◌, ap, ◌∙◌}
use native.Mathlib.Omega.{arith}
use lib.Dec.{ltb, eqb}
use lib.ListN.{take, drop, get_or}
use Rattle.text.specs.Bytes.{every, all_digits}
use Rattle.slots.specs.Journal.{place}
use Rattle.slots.specs.Record.{kept}
use Rattle.remains.specs.Slot.{tests_of, is_zero}
use Rattle.remains.proofs.Bytes.{tests_same, tells_zeros}
use Rattle.remains.proofs.inner.tests_of.Goals as goal

pub returns : goal.returns
unfolding tests_of
returns c =
    let a = c.args in
    let r : List ℕ = a.r.now in
    let part : 16 + c.kept-end.result - 16 ≡ kept (get_or r 15 0) = omega arith in
    let all-zero = tells_zeros r _ 32 _ c.requires.0 c.zeros.ensures in
    tests_same _ _
    (ap (ltb 0) c.u32_at-serial.ensures)
    (ap (λ (x : ℕ). eqb x (32 * a.k)) (c.place_of.ensures.0 ∙ ap (place a.n) c.u32_at-serial.ensures))
    c.is_record.ensures
    (ap (ltb 0) c.u32_at.ensures)
    c.length_fits.ensures
    (c.all_digits.ensures ∙ ap (λ (m : ℕ). all_digits (take m (drop 16 r))) part)
    (all-zero ∙ ap (λ (m : ℕ). every is_zero (drop (16 + m) r)) c.kept-end.ensures.0)
