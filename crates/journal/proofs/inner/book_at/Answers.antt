use Rattle.std.proofs.Common.{Some, sym, ◌∙◌, arith}
use Rattle.std.proofs.lemmas.Result.{err_from_is_err_and}
use Rattle.text.proofs.Tests.{inside_is}
use Rattle.journal.proofs.Rule.{Fine, fine, book_pan, book_zero, book_last, book_full, book_done, book_same, book_wrote}
use Rattle.journal.proofs.inner.book_at.Goals as goal
use Rattle.journal.proofs.inner.book_at.Goals.{In_ok-pan_tested}

passes : (c : In_ok-pan_tested) → Fine c.args.pan.now
passes c = fine _ c.in_ok-pan_tested.ensures

pub returns-in_err-pan_tested : goal.returns-in_err-pan_tested
returns-in_err-pan_tested c =
    let p = err_from_is_err_and c.from_residual.result c.from_residual.ensures.1 in
    rw (p.1, p.2) (book_same _ _ _ _ _ _ _ (book_pan _ _ _ _ _ _ c.in_err-pan_tested.ensures))

pub returns-then-amount-eq0 : goal.returns-then-amount-eq0
returns-then-amount-eq0 c =
    book_same _ _ _ _ _ _ _ (book_zero _ _ _ _ _ (passes (goal.at.returns-then-amount-eq0 c).In_ok-pan_tested) c.if-amount-eq0.true)

pub returns-then-b-eq4294967295 : goal.returns-then-b-eq4294967295
returns-then-b-eq4294967295 c =
    book_same _ _ _ _ _ _ _ (book_last _ _ _ _ _ (passes (goal.at.returns-then-b-eq4294967295 c).In_ok-pan_tested) c.if-amount-eq0.false c.if-b-eq4294967295.true)

pub returns-then-is_full : goal.returns-then-is_full
returns-then-is_full c =
    book_same _ _ _ _ _ _ _
    (book_full _ _ _ _ _ (passes (goal.at.returns-then-is_full c).In_ok-pan_tested) c.if-amount-eq0.false c.if-b-eq4294967295.false (sym c.is_full.ensures ∙ c.if-is_full.true))

pub write_at-requires-clause-b_bound : goal.write_at-requires-clause-b_bound
write_at-requires-clause-b_bound c =
    let n = inside_is 13 19 _ (passes (goal.at.write_at-requires-clause-b_bound c).In_ok-pan_tested).count in
    (omega (arith, c.if-b-eq4294967295.false), n.0, n.1)

pub returns : goal.returns
returns c =
    let a = c.args in
    book_wrote (Some a.b) a.j.now a.pan.now a.label a.amount a.clock _ _ _ c.write_at.ensures.0
    (book_done _ _ _ _ _ (passes (goal.at.returns c).In_ok-pan_tested) c.if-amount-eq0.false c.if-b-eq4294967295.false (sym c.is_full.ensures ∙ c.if-is_full.false))
    c.write_at.ensures.1
