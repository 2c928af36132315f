use Prim.Native.Nat.{◌+◌, ◌≤◌}
use mathlib.Core.Path.{sym, ap, ◌∙◌}
use native.Mathlib.Omega.{arith}
use lib.ListN.{length}
use Rattle.reasons.specs.Reasons.{said}
use Rattle.layout1.proofs.Laws.{name_fits}
use Rattle.layout1.proofs.name_of.Goals as goal
use Rattle.layout1.proofs.name_of.Goals.{In-Ok}

fits : (c : In-Ok) → c.in-Ok.d.pan + 2 + c.in-Ok.d.name ≤ length c.args.chars.now
fits c = name_fits _ _ (sym c.divide.ensures ∙ ap said c.in-Ok.is)

pub overflow_add-d : goal.overflow_add-d
overflow_add-d c = omega (arith, fits (goal.at.overflow_add-d c).In-Ok)

pub cut-requires : goal.cut-requires
cut-requires c = omega (arith, fits (goal.at.cut-requires c).In-Ok)

pub returns-in-Ok : goal.returns-in-Ok
returns-in-Ok c = rw (sym c.divide.ensures ∙ ap said c.in-Ok.is) c.cut.ensures

pub returns-in-Err : goal.returns-in-Err
returns-in-Err c = rw (sym c.divide.ensures ∙ ap said c.in-Err.is) c.cut-in-Err.ensures
