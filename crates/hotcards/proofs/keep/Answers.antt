-- `keep`: a list that is right fits its buffer.
use mathlib.Core.Path.{sym, ◌∙◌}
use native.Mathlib.Omega.{arith}
use Rattle.hotlist.proofs.Laws.{list_exactly}
use Rattle.hotcards.proofs.keep.Goals as goal

pub slice_bounds-copy_from_slice-end : goal.slice_bounds-copy_from_slice-end
slice_bounds-copy_from_slice-end c = omega (arith, ((list_exactly _ _).0 (sym c.list_ok.ensures ∙ c.if-not-list_ok.false)).0)
