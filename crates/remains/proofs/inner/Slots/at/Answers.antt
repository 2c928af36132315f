use Rattle.std.proofs.Common.{ℕ, List, ◌≡◌, ◌≤◌, ◌+◌, ◌-◌, ◌*◌, length, drop, take, ap, ◌∙◌, arith}
use lib.ListN.{length-drop}
use lib.Seq.{length-take-le}
use Rattle.slots.proofs.Form.{is_sized}
use Rattle.remains.specs.Slot.{told_of}
use Rattle.remains.proofs.inner.Slots.at.Goals as goal

pub slice_bounds-told_of-end : goal.slice_bounds-told_of-end
slice_bounds-told_of-end c = omega arith

pub told_of-requires : goal.told_of-requires
told_of-requires c =
    let j : List ℕ = c.args.self.bytes.now in
    let at : ℕ = 32 * c.args.k in
    let z = is_sized _ c.args.self.sized in
    let e : at + 32 - at ≡ 32 = omega arith in
    let h : 32 ≤ length (drop at j) = omega (arith, length-drop at j) in
    let long = ap (λ (m : ℕ). length (take m (drop at j))) e ∙ length-take-le 32 (drop at j) h in
    (long, omega arith, omega arith, omega arith)

pub returns : goal.returns
returns c =
    let j : List ℕ = c.args.self.bytes.now in
    let k : ℕ = c.args.k in
    let e : 32 * k + 32 - 32 * k ≡ 32 = omega arith in
    c.told_of.ensures ∙ (λ i. told_of (c.count.ensures i) k (take (e i) (drop (32 * k) j)))
