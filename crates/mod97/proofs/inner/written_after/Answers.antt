use native.Mathlib.Omega.{arith}
use Rattle.mod97.proofs.Laws.{written_one, written_two}
use Rattle.mod97.proofs.Numbers.{number_one, number_two}
use Rattle.mod97.proofs.inner.written_after.Goals as goal

pub returns-then-b-lt58 : goal.returns-then-b-lt58
returns-then-b-lt58 c =
    let g = c.args in
    omega (arith, written_one g.v g.b (number_one g.b (omega arith)))

pub returns : goal.returns
returns c =
    let g = c.args in
    omega (arith, written_two g.v g.b (number_two g.b (omega arith)))
