-- `write_masked`: stars, and the digits shown over them.
use Prim.Native.Nat.{◌+◌, ◌≤◌}
use mathlib.Core.Path.{sym}
use native.Mathlib.Omega.{arith}
use lib.ListN.{length}
use lib.Seq.{length-take-le}
use Rattle.pan.specs.Pan.{front_shown, back_shown}
use Rattle.pan.proofs.Masked.{shown-fits, masked_written}
use Rattle.pan.proofs.write_masked.Goals as goal

pub overflow_sub-back : goal.overflow_sub-back
overflow_sub-back c =
    let shown_within : let n = length c.args.pan.now in front_shown n + back_shown n ≤ n = shown-fits (length c.args.pan.now) c.requires.0 in
    omega (arith, shown_within)

pub slice_bounds-put_at-end : goal.slice_bounds-put_at-end
slice_bounds-put_at-end c =
    let shown_within : let n = length c.args.pan.now in front_shown n + back_shown n ≤ n = shown-fits (length c.args.pan.now) c.requires.0 in
    sym (length-take-le _ c.args.pan.now (omega (arith, shown_within)))

pub returns : goal.returns
returns c =
    masked_written c.args.pan.now c.requires.0 c.args.out.now _ _ _ _ _
    c.front_shown-front.ensures c.back_shown.ensures c.write_stars.ensures
    c.put_at.ensures c.put_at-2.ensures
