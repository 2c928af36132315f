use Rattle.std.proofs.Common.{ℕ, List, ◌≡◌, length, take, get_or, arith, ◌∙◌, ap, sym}
use lib.Seq.{length-take-le, get_or-take}
use Rattle.slots.proofs.Form.{is_sized}
use Rattle.remains.specs.Slot.{told_at}
use Rattle.salvage.specs.Whole.{serial_in, leader}
use Rattle.salvage.specs.declared.inner.Poll.{Poll}
use Rattle.salvage.proofs.Polls.{leader-same}
use Rattle.salvage.proofs.inner.newest.Goals as goal

pub slice_bounds-all-end : goal.slice_bounds-all-end
slice_bounds-all-end c = let z = is_sized _ c.args.slots.sized in omega (arith, c.serials-all.ensures.long)

pub slice_bounds-leader-end : goal.slice_bounds-leader-end
slice_bounds-leader-end c =
    let z = is_sized _ c.args.slots.sized in
    sym (length-take-le _ c.serials-all.result (omega (arith, c.serials-all.ensures.long)))

pub returns : goal.returns
returns c =
    let all : List ℕ = c.serials-all.result in
    let serial : ℕ → ℕ = λ k. serial_in (told_at c.args.slots.bytes.now k) in
    let n : ℕ = c.count.result in
    let z = is_sized _ c.args.slots.sized in
    let long : length (take n all) ≡ n = length-take-le n all (omega (arith, c.serials-all.ensures.long)) in
    c.leader.ensures
    ∙ ap (λ (m : ℕ). (leader (λ (k : ℕ). get_or (take n all) k 0) m m).serial) long
    ∙ ap (λ (p : Poll). p.serial)
    (leader-same _ serial n n (omega arith) (λ k h. get_or-take n all k 0 h ∙ c.serials-all.ensures.each k (omega arith)))
    ∙ ap (λ (m : ℕ). (leader serial m m).serial) c.count.ensures
