-- `find`: the search in what is left of the table finds what the search in the whole finds.
use mathlib.Core.Path.{◌≡◌}
use lib.ListN.{drop}
use Rattle.countries.specs.Countries.{table, row_of}
use Rattle.countries.proofs.find.Given as goal

abbrev pub invariant-loop-row : goal.invariant-loop-row
invariant-loop-row l = row_of (drop l.row-index table) l.a l.b ≡ row_of table l.a l.b
