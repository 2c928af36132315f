use mathlib.Core.Path.{refl, sym, ◌∙◌}
use lib.ListN.{length-set}
use Rattle.journal.proofs.Walks.{freed_held, freed_not}
use Rattle.journal.proofs.inner.free_one.Goals as goal

pub freed-requires : goal.freed-requires
freed-requires c = sym c.is_held.ensures ∙ c.if-is_held.true

pub returns-then-is_held : goal.returns-then-is_held
returns-then-is_held c = (freed_held _ _ _ (sym c.is_held.ensures ∙ c.if-is_held.true) c.freed.ensures, simp length-set)

pub returns-else-is_held : goal.returns-else-is_held
returns-else-is_held c = (freed_not _ _ (sym c.is_held.ensures ∙ c.if-is_held.false), refl)
