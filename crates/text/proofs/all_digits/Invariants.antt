-- `all_digits`: what was seen of the text and what is left has digits alone exactly where the whole has.
use mathlib.Core.Path.{◌≡◌}
use mathlib.Core.Bool.{◌&&◌}
use lib.ListN.{drop}
use Rattle.text.specs.Bytes.{all_digits}
use Rattle.text.proofs.all_digits.Given as goal

abbrev pub invariant-loop-b : goal.invariant-loop-b
invariant-loop-b l = (l.digits && all_digits (drop l.b-index l.s)) ≡ all_digits l.s
