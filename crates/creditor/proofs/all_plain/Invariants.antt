-- `all_plain`: what was seen of the text is plain, and so is what is left, exactly where the whole is.
use mathlib.Core.Path.{◌≡◌}
use mathlib.Core.Bool.{◌&&◌}
use lib.ListN.{drop}
use Rattle.creditor.specs.Creditor.{all_plain}
use Rattle.creditor.proofs.all_plain.Given as goal

abbrev pub invariant-loop-b : goal.invariant-loop-b
invariant-loop-b l = (l.plain && all_plain (drop l.b-index l.s)) ≡ all_plain l.s
