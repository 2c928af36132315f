-- `all_hex`: the rest has hexadecimal digits alone exactly where the whole has.
use lib.ListN.{drop}
use mathlib.Core.Path.{◌≡◌}
use Rattle.numerals.specs.Numbers.{is_hex}
use Rattle.text.specs.Bytes.{every}
use Rattle.numerals.proofs.all_hex.Given as goal

abbrev pub invariant-loop-b : goal.invariant-loop-b
invariant-loop-b l = every is_hex (drop l.b-index l.w) ≡ every is_hex l.w
