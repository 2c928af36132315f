use Rattle.std.proofs.Common.{ap, ◌∙◌}
use Rattle.std.proofs.lemmas.Result.{err_from_is_err_and}
use Rattle.reasons.specs.Reasons.{gives}
use Rattle.salvage.specs.Whole.{oldest_of}
use Rattle.salvage.proofs.Rule.{agree_length, agree_on}
use Rattle.salvage.proofs.agree.Goals as goal

pub returns-in_err-slots : goal.returns-in_err-slots
returns-in_err-slots c =
    let p = err_from_is_err_and c.from_residual.result c.from_residual.ensures.1 in
    let e = c.in_err-slots.ensures in
    rw (p.1, p.2, e.1) (agree_length _ e.0)

pub returns : goal.returns
returns c =
    let e = c.in_ok-slots.ensures in
    let b = rw e.1 at c.newest-newest.ensures in
    let h = rw e.1 at c.oldest-oldest.ensures ∙ ap (oldest_of c.args.j.now) b in
    (λ i. gives (record { newest = b i; oldest = h i })) ∙ agree_on _ e.0
