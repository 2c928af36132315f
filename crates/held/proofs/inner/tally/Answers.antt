use Rattle.std.proofs.Common.{◌≡◌, ℕ, ◌-◌, refl, subst, arith}
use Rattle.slots.specs.Journal.{place}
use Rattle.held.specs.Held.{held_after, Tallies}
use Rattle.held.proofs.Walks.{held_none, held_more}
use Rattle.held.proofs.inner.tally.Goals as goal

pub loop-s-init : goal.loop-s-init
loop-s-init c = record {
  above = omega arith;
  few = omega arith;
  fits = omega arith;
  inside = omega arith;
  here = λ l. c.place_of-at.ensures.0;
  passed = held_none _ _ _ _ refl refl refl;
}

pub loop-s-preserved : goal.loop-s-preserved
loop-s-preserved c =
    let l = c.loop-s in
    let e : l.at ≡ place _ l._s = l.invariant.here (omega arith) in
    record {
      above = omega arith;
      few = omega arith;
      fits = omega arith;
      inside = c.back-at.ensures.0;
      here = λ k. c.back-at.ensures.1 l._s (omega arith) e;
      passed = subst (Tallies _) (held_more _ _ l._s _ _ (omega arith) (omega arith) e) (c.with_record-t.ensures.2 _ l.invariant.passed);
    }

pub returns : goal.returns
returns c =
    let l = c.loop-s in
    let a = c.args in
    let e : l._s ≡ a.low = omega arith in
    subst (λ (x : ℕ). Tallies l.t (held_after a.j.now a.n x (a.top - x))) e l.invariant.passed
