use Prim.Native.Nat.{ℕ}
use Rattle.std.proofs.Common.{ap, ◌∙◌}
use Rattle.std.proofs.lemmas.Result.{err_from_is_err_and}
use Rattle.reasons.specs.Reasons.{Outcome, gives, and_then}
use Rattle.slots.proofs.Form.{is_sized}
use Rattle.slots.specs.Journal.{slots_of}
use Rattle.salvage.specs.Whole.{due, verdict_of}
use Rattle.remains.specs.declared.Slot.{Slot}
use Rattle.remains.proofs.Rule.{look_there}
use Rattle.salvage.proofs.judge.Goals as goal

pub due-d-requires : goal.due-d-requires
due-d-requires c =
    let w = look_there _ _ _ c.in_ok-slot.ensures in
    let z = is_sized _ w.0 in
    (z.1, z.2, w.1)

pub returns-in_err-slot : goal.returns-in_err-slot
returns-in_err-slot c =
    let a = c.args in
    let p = err_from_is_err_and c.from_residual.result c.from_residual.ensures.1 in
    rw (p.1, p.2)
    (ap (λ (o : Outcome Slot). and_then o (λ s. gives (verdict_of s (due (slots_of a.j.now) a.newest a.k) a.oldest))) c.in_err-slot.ensures)

pub returns : goal.returns
returns c =
    let a = c.args in
    let v = c.verdict_of.ensures ∙ ap (λ (d : ℕ). verdict_of c.in_ok-slot.slot d a.oldest) c.due-d.ensures in
    ap gives v ∙ ap (λ (o : Outcome Slot). and_then o (λ s. gives (verdict_of s (due (slots_of a.j.now) a.newest a.k) a.oldest))) c.in_ok-slot.ensures
