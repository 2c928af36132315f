-- `start_of`: after the words passed, the words left lead to word k.
use Prim.Native.Nat.{◌-◌, ◌≤◌}
use lib.ListN.{length, drop}
use mathlib.Core.Path.{◌≡◌}
use Rattle.script.specs.Words.{after_words}
use Rattle.script.proofs.start_of.Given as goal

abbrev pub invariant-loop : goal.invariant-loop
invariant-loop l = (l.at ≤ length l.line) × (after_words (l.k - l.counter) (drop l.at l.line) ≡ after_words l.k l.line)
