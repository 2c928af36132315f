-- `find_tested` asks the site's table, then the acquirer's.
use native.Mathlib.Omega.{arith}
use lib.ListN.{length}
use Rattle.text.proofs.Tests.{inside_is}
use Rattle.ranges.proofs.inner.find_tested.Goals as goal

pub prefix_of-p-requires : goal.prefix_of-p-requires
prefix_of-p-requires c = (omega (arith, inside_is 13 19 (length c.args.pan.now) c.requires.2), c.requires.3)

pub overflow_cast-n : goal.overflow_cast-n
overflow_cast-n c = omega (arith, inside_is 13 19 (length c.args.pan.now) c.requires.2)
