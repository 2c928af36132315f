use mathlib.Core.Path.{refl}
use native.Mathlib.Omega.{arith}
use Prim.Native.Nat.{◌<◌, ◌%◌}
use Rattle.slots.specs.Journal.{slots_of}
use Rattle.text.proofs.Tests.{inside}
use Rattle.journal.proofs.Full.{next_in}
use Rattle.journal.proofs.Rule.{written}
use Rattle.journal.proofs.inner.write_at.Goals as goal

pub overflow_mul-b : goal.overflow_mul-b
overflow_mul-b c =
    let slot_in : c.args.b % slots_of c.args.j.now < slots_of c.args.j.now = next_in _ _ _ c.requires.formed in
    omega (arith, slot_in)

pub write_record-requires : goal.write_record-requires
write_record-requires c =
    let slot_in : c.args.b % slots_of c.args.j.now < slots_of c.args.j.now = next_in _ _ _ c.requires.formed in
    let z = c.requires.formed in omega (arith, slot_in)

pub returns : goal.returns
returns c = (refl, written c.args.j.now _ _ _ c.args.b _ _ _ c.requires.formed (inside 13 19 _ c.requires.b_bound.1 c.requires.b_bound.2) c.record_of-r.ensures c.write_record.ensures)
