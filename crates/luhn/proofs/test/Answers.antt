use borrow.Author.Tests.{eq-eqb, ne_eqb}
use Rattle.std.proofs.lemmas.Result.{err_from_is_err_and}
use Rattle.luhn.proofs.Rule.{test_of}
use Rattle.luhn.proofs.test.Goals as goal

pub returns-in_err-s : goal.returns-in_err-s
returns-in_err-s c = let p = err_from_is_err_and c.from_residual.result c.from_residual.ensures.1 in rw (p.1, p.2) (test_of _ _ c.in_err-s.ensures)

pub returns-then-s-eq0 : goal.returns-then-s-eq0
returns-then-s-eq0 c = rw (← test_of _ _ c.in_ok-s.ensures, eq-eqb _ 0 c.if-s-eq0.true)

pub returns-else-s-eq0 : goal.returns-else-s-eq0
returns-else-s-eq0 c = rw (← test_of _ _ c.in_ok-s.ensures, ne_eqb _ 0 c.if-s-eq0.false)
