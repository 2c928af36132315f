use Rattle.std.proofs.Common.{ℕ, ◌≤◌, ◌<◌, ◌*◌}
use Rattle.text.specs.Numbers.{u32_at}
use Rattle.slots.proofs.highest.Given as goal

abbrev pub invariant-loop-k : goal.invariant-loop-k
invariant-loop-k l = ((i : ℕ) → i < l.k → u32_at l.j (32 * i) ≤ l.top) × ((m : ℕ) → ((i : ℕ) → i < l.k → u32_at l.j (32 * i) ≤ m) → l.top ≤ m)
