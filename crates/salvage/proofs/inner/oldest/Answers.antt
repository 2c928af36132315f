use Rattle.std.proofs.Common.{ℕ, cond, ◌∙◌, ap}
use Rattle.salvage.specs.Whole.{agrees, held_in}
use Rattle.remains.specs.declared.Slot.{Slot}
use Rattle.remains.specs.Slot.{told_at}
use Rattle.salvage.proofs.Polls.{lowest_none, lowest_more}
use Rattle.salvage.proofs.inner.oldest.Goals as goal

pub loop-k-init : goal.loop-k-init
loop-k-init c = lowest_none _ _ _

pub loop-k-preserved : goal.loop-k-preserved
loop-k-preserved c =
    let l = c.loop-k in
    let a = c.args in
    let v = c.held_in-held.ensures ∙ ap (λ (s : Slot). held_in s) c.at.ensures in
    let kept = c.kept_serial.ensures ∙ ap (λ (s : ℕ). cond (agrees c.count-n.result a.b s) s 0) v in
    c.lower-low.ensures ∙ lowest_more (λ (i : ℕ). held_in (told_at a.slots.bytes.now i)) _ _ l.k _ l.low kept l.invariant
