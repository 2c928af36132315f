use Rattle.std.proofs.Common.{ap, ◌∙◌, arith}
use Rattle.std.proofs.lemmas.Result.{err_from_is_err_and}
use Rattle.reasons.specs.Reasons.{gives}
use Rattle.remains.proofs.Rule.{look_length, look_past, look_says}
use Rattle.remains.proofs.look.Goals as goal

pub returns-in_err-slots : goal.returns-in_err-slots
returns-in_err-slots c =
    let p = err_from_is_err_and c.from_residual.result c.from_residual.ensures.1 in
    let e = c.in_err-slots.ensures in
    rw (p.1, p.2, e.1) (look_length _ _ e.0)

pub returns-then-count-k : goal.returns-then-count-k
returns-then-count-k c =
    let e = c.in_ok-slots.ensures in
    let n = rw e.1 at c.count.ensures in
    look_past _ _ e.0 (omega arith)

pub at-requires : goal.at-requires
at-requires c = omega arith

pub returns : goal.returns
returns c =
    let e = c.in_ok-slots.ensures in
    let n = rw e.1 at c.count.ensures in
    ap gives (rw e.1 at c.at.ensures) ∙ look_says _ _ e.0 (omega arith)
