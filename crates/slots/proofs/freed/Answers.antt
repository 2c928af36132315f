use mathlib.Core.Path.{refl}
use borrow.Author.Rules.{rules}
use borrow.Author.Tests.{eqb-true}
use Rattle.slots.specs.Record.{is_held, freed_state}
use Rattle.slots.proofs.freed.Goals as goal

pub overflow_add-result : goal.overflow_add-result
unfolding is_held
overflow_add-result c = let e = eqb-true c.args.x 1 c.requires in search rules

pub returns : goal.returns
unfolding freed_state
returns c = refl
