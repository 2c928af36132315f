use Prim.Native.Nat.{ℕ, ◌≤◌, ◌<◌}
use mathlib.Core.Path.{◌≡◌}
use lib.ListN.{length, get_or}
use Rattle.surveys.specs.Survey.{SlotIs}
use Rattle.surveys.proofs.fill.Given as goal

abbrev pub invariant-loop-k : goal.invariant-loop-k
invariant-loop-k l = (length l.out ≡ length l.initial.out) × ((i : ℕ) → i < l.k → SlotIs l.j i (get_or l.out i 0)) × ((i : ℕ) → l.k ≤ i → get_or l.out i 0 ≡ get_or l.initial.out i 0)
