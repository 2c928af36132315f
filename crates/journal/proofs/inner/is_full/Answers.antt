use mathlib.Core.Path.{◌∙◌}
use native.Mathlib.Omega.{arith}
use Prim.Native.Nat.{◌<◌, ◌%◌}
use Rattle.slots.specs.Journal.{slots_of}
use Rattle.journal.proofs.Full.{next_in, next_full}
use Rattle.journal.proofs.inner.is_full.Goals as goal

pub overflow_mul-at : goal.overflow_mul-at
overflow_mul-at c =
    let slot_in : c.args.b % slots_of c.args.j.now < slots_of c.args.j.now = next_in _ _ _ c.requires in
    omega (arith, slot_in)

pub overflow_add-at : goal.overflow_add-at
overflow_add-at c =
    let slot_in : c.args.b % slots_of c.args.j.now < slots_of c.args.j.now = next_in _ _ _ c.requires in
    omega (arith, slot_in)

pub bounds-j-at : goal.bounds-j-at
bounds-j-at c =
    let slot_in : c.args.b % slots_of c.args.j.now < slots_of c.args.j.now = next_in _ _ _ c.requires in
    omega (arith, slot_in)

pub returns : goal.returns
returns c = c.is_held.ensures ∙ next_full _ _ _ c.requires
