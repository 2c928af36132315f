use mathlib.Core.Path.{refl}
use native.Mathlib.Omega.{arith}
use Rattle.held.proofs.Rule.{shows, shows_none}
use Rattle.walker.proofs.Held.{given_in}
use borrow.Author.Rules.{rules}
use Rattle.walker.proofs.held_at.Goals as goal

pub overflow_add-result : goal.overflow_add-result
overflow_add-result c =
    omega (arith, given_in _ _ _ c.in-Ok.ensures)

pub returns-in-Ok : goal.returns-in-Ok
returns-in-Ok c = shows c.args.j _ _ _ _ c.find_held.ensures c.in-Ok.is (record { block = refl; place = search rules; bytes = refl })

pub returns-in-Err : goal.returns-in-Err
returns-in-Err c = shows_none _ _ _ _ _ c.find_held.ensures c.in-Err.is (record { block = refl; place = omega arith; bytes = refl })

pub slice_bounds-result-end : goal.slice_bounds-result-end
slice_bounds-result-end c = given_in _ _ _ c.in-Ok.ensures
