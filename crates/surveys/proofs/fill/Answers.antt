use mathlib.Core.Path.{refl}
use native.Mathlib.Omega.{arith}
use borrow.Author.Count.{below_none}
use lib.ListN.{length-set}
use Rattle.surveys.proofs.Surveys.{each_more, later_same}
use Rattle.surveys.proofs.fill.Goals as goal

pub loop-k-init : goal.loop-k-init
loop-k-init c = (refl, below_none _, λ i h. refl)

pub slot_state-requires : goal.slot_state-requires
slot_state-requires c = let p = c.requires in (p.0, omega arith, omega arith, p.3)

pub loop-k-preserved : goal.loop-k-preserved
loop-k-preserved c =
    let l = c.loop-k in
    let v = c.slot_state.ensures in (
      simp length-set l.invariant.0,
      each_more _ l.out l.k _ (omega arith) l.invariant.1 v,
      later_same c.args.out.now l.out l.k _ l.invariant.2,
    )

pub returns : goal.returns
returns c =
    let l = c.loop-k in
    let p = c.requires in
    record { size = l.invariant.0; each = λ i h. l.invariant.1 i (omega arith); later = λ i h. l.invariant.2 i (omega arith) }
