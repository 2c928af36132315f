-- The place of a range, and yes or no, as C has them.
use Rattle.std.specs.Prelude.{ℕ, Bool, cond}
use Rattle.ranges.specs.declared.Place.{Place}
use Rattle.ranges.specs.declared.Place.TheVariants.{Site, Acquirer}

-- a range's place: table 0 the site's, 1 the acquirer's, and the byte offset in that table
abbrev pub table_of : Place → ℕ
table_of (Site at) = 0
table_of (Acquirer at) = 1

abbrev pub offset_of : Place → ℕ
offset_of (Site at) = at
offset_of (Acquirer at) = at

-- 1 for yes, 0 for no
abbrev pub yes_or_no : Bool → ℕ
yes_or_no b = cond b 1 0
