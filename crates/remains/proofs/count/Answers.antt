use Rattle.std.proofs.Common.{ap, ◌∙◌}
use Rattle.std.proofs.lemmas.Result.{err_from_is_err_and}
use Rattle.reasons.specs.Reasons.{gives}
use Rattle.remains.proofs.Rule.{count_length, count_all}
use Rattle.remains.proofs.count.Goals as goal

pub returns-in_err-slots : goal.returns-in_err-slots
returns-in_err-slots c =
    let p = err_from_is_err_and c.from_residual.result c.from_residual.ensures.1 in
    let e = c.in_err-slots.ensures in
    rw (p.1, p.2, e.1) (count_length _ e.0)

pub returns : goal.returns
returns c = let e = c.in_ok-slots.ensures in ap gives (rw e.1 at c.counts.ensures) ∙ count_all _ e.0
