use Rattle.std.proofs.Common.{None}
use Rattle.journal.proofs.Rule.{book_same, book_bad}
use Rattle.journal.proofs.book.Goals as goal

pub returns-in-None : goal.returns-in-None
returns-in-None c = record { view = None; is = c.in-None.ensures; so = book_same _ _ _ _ _ _ _ (book_bad _ _ _ _) }
