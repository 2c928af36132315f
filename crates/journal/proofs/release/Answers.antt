use Rattle.std.proofs.Common.{None}
use Rattle.journal.proofs.Rule.{release_same, release_bad}
use Rattle.journal.proofs.release.Goals as goal

pub returns-in-None : goal.returns-in-None
returns-in-None c = record { view = None; is = c.in-None.ensures; so = release_same _ _ _ _ (release_bad _ _) }
