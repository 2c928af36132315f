use mathlib.Core.Path.{sym}
use native.Mathlib.Omega.{arith}
use lib.Seq.{length-take-le}
use Rattle.slots.proofs.Records.{record_is}
use Rattle.slots.proofs.record_of.Goals as goal

pub slice_bounds-put_at-end-2 : goal.slice_bounds-put_at-end-2
slice_bounds-put_at-end-2 c = sym (length-take-le 6 c.args.pan.now (omega arith))

pub returns : goal.returns
returns c =
    record_is _ _ _ _ c.args.pan.now c.fields_of-r.result c.put_at.new.s _ (omega arith) c.fields_of-r.ensures
    c.put_at.ensures c.put_at-2.ensures
