-- What holds of a line and the buffer that it was taken into.
use Rattle.std.specs.Prelude.{ℕ, ◌≤◌, List, length}
use Rattle.lines.specs.declared.Line.{Line}
use Rattle.lines.specs.declared.Line.TheVariants.{Taken, TooLong}

abbrev pub Within : List ℕ → Line → Type 0
Within line (Taken n) = n ≤ length line
Within line TooLong = Unit {0}
