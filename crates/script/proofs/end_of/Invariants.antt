-- `end_of`: what is left of the word from i on ends where the word ends.
use Prim.Native.Nat.{◌+◌}
use lib.ListN.{length, drop}
use mathlib.Core.Path.{◌≡◌}
use Rattle.script.specs.Words.{first_word}
use Rattle.script.proofs.end_of.Given as goal

abbrev pub invariant-loop-i : goal.invariant-loop-i
invariant-loop-i l = l.i + length (first_word (drop l.i l.line)) ≡ l.from + length (first_word (drop l.from l.line))
