use Rattle.std.proofs.Common.{◌≡◌, ℕ, ◌+◌, ◌-◌, ap, ◌∙◌, arith}
use Rattle.slots.specs.Journal.{place}
use Rattle.journal.specs.Rules.{freed_after}
use Rattle.journal.proofs.Walks.{free_none, free_more}
use Rattle.journal.proofs.inner.free.Goals as goal

pub loop-k-init : goal.loop-k-init
loop-k-init c =
    let a = c.args in
    let z : a.low ≡ a.low + 0 = omega arith in
    record {
      inside = omega arith;
      here = λ l. c.place_of-at.ensures.0 ∙ ap (λ (x : ℕ). place a.n (x + 1)) z;
      freed = free_none _ _ _ ∙ ap (λ (x : ℕ). freed_after a.j.now a.n a.low (x - a.low)) z;
    }

pub loop-k-preserved : goal.loop-k-preserved
loop-k-preserved c =
    let a = c.args in
    let l = c.loop-k in
    let s = a.low + l._k in
    let e : l.at ≡ place _ (s + 1) = l.invariant.here (omega arith) in
    let q : s + 1 ≡ a.low + (l._k + 1) = omega arith in
    record {
      inside = c.onward-at.ensures.0;
      here = λ k. c.onward-at.ensures.1 (s + 1) (omega arith) e ∙ ap (λ (x : ℕ). place a.n (x + 1)) q;
      freed = free_more _ _ _ _ _ s _ (omega arith) e l.invariant.freed c.free_one.ensures.0 ∙ ap (λ (x : ℕ). freed_after a.j.now a.n a.low (x - a.low)) q;
    }

pub returns : goal.returns
returns c =
    let l = c.loop-k in
    let a = c.args in
    let e : a.low + l._k - a.low ≡ a.top - a.low = omega arith in
    l.invariant.freed ∙ ap (freed_after a.j.now a.n a.low) e
