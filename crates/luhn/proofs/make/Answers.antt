use Rattle.std.proofs.lemmas.Result.{err_from_is_err_and}
use Rattle.luhn.proofs.Rule.{make_of}
use Rattle.luhn.proofs.make.Goals as goal

pub returns-in_err-s : goal.returns-in_err-s
returns-in_err-s c = let p = err_from_is_err_and c.from_residual.result c.from_residual.ensures.1 in rw (p.1, p.2) (make_of _ _ c.in_err-s.ensures)

pub returns : goal.returns
returns c = make_of _ _ c.in_ok-s.ensures
