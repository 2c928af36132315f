use Rattle.std.proofs.Common.{◌≡◌, take}
use Rattle.slots.specs.Writes.{wrote, record_writes}
use Rattle.slots.proofs.write_record.Given as goal

abbrev pub invariant-loop-k : goal.invariant-loop-k
invariant-loop-k l = l.j ≡ wrote l.initial.j (take l.k (record_writes l.r l.at))
