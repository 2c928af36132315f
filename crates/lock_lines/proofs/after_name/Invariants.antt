-- `after_name`: what follows the last `)` of the bytes seen, and of the rest, is what follows the last of all.
use Rattle.std.proofs.Common.{length, drop, ◌≡◌, ◌≤◌}
use Rattle.lock_lines.specs.Stat.{after_last, after_name}
use Rattle.lock_lines.proofs.after_name.Given as goal

abbrev pub invariant-loop-i : goal.invariant-loop-i
invariant-loop-i l = (l.at ≤ length l.stat) × (after_last (drop l.i l.stat) (drop l.at l.stat) ≡ after_name l.stat)
