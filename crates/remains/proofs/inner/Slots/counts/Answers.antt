use Rattle.std.proofs.Common.{ap, ◌∙◌, arith}
use Rattle.slots.proofs.Form.{is_sized}
use Rattle.remains.specs.Slot.{told_at}
use Rattle.remains.specs.Count.{counted}
use Rattle.remains.proofs.Rule.{count_none, count_more}
use Rattle.remains.proofs.inner.Slots.counts.Goals as goal

pub loop-k-init : goal.loop-k-init
loop-k-init c =
    let e = c.default-c.ensures in
    record {
      few = (omega arith, omega arith, omega arith);
      small = omega arith;
      so_far = count_none _ c.default-c.result e.0 e.1.0 e.1.1.0 e.1.1.1;
    }

pub with_slot-c-requires : goal.with_slot-c-requires
with_slot-c-requires c =
    let z = is_sized _ c.args.self.sized in
    record { few = (omega arith, omega arith, omega arith); small = c.loop-k.invariant.small }

pub loop-k-preserved : goal.loop-k-preserved
loop-k-preserved c =
    let l = c.loop-k in
    let e = c.with_slot-c.ensures in
    record {
      few = (omega arith, omega arith, omega arith);
      small = e.small;
      so_far = e.says ∙ ap (counted l.c) c.at.ensures ∙ count_more (told_at c.args.self.bytes.now) l.k l.c l.invariant.so_far;
    }
