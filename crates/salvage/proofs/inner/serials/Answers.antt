use Rattle.std.proofs.Common.{arith, ap, ◌∙◌, below_more}
use lib.ListN.{length-set}
use lib.Seq.{get_or-set_same, get_or-set_other}
use Rattle.remains.specs.declared.Slot.{Slot}
use Rattle.slots.proofs.Form.{is_sized}
use Rattle.salvage.specs.Whole.{serial_in}
use Rattle.salvage.proofs.inner.serials.Goals as goal

pub bounds-all-k : goal.bounds-all-k
bounds-all-k c = let z = is_sized _ c.args.slots.sized in omega arith

pub loop-k-preserved : goal.loop-k-preserved
loop-k-preserved c =
    let l = c.loop-k in
    let z = is_sized _ c.args.slots.sized in
    let v = c.serial_in.ensures ∙ ap (λ (s : Slot). serial_in s) c.at.ensures in
    record {
      long = simp length-set l.invariant.long;
      so_far = below_more _ _
          (λ i h. get_or-set_other l.all l.k i _ 0 (λ e. omega arith) ∙ l.invariant.so_far i h)
          (get_or-set_same l.all l.k _ 0 (omega arith) ∙ v);
    }
