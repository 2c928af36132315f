use Rattle.std.proofs.Common.{◌≡◌, ◌+◌, ◌-◌, sym, ◌∙◌, subst, arith}
use Rattle.slots.specs.Record.{Good}
use Rattle.slots.specs.Journal.{place}
use Rattle.slots.proofs.Ranges.{tells_no, differ}
use Rattle.slots.proofs.Passed.{start, turn, late, good_at, held_at}
use Rattle.slots.proofs.stands.Goals as goal
use Rattle.slots.proofs.stands.Goals.{else-held-via-then-held+else-gone, else-held-via-else-held}

pub loop-k-init : goal.loop-k-init
loop-k-init c = (omega arith, (λ l. c.place_of-at.ensures.0), start _ _ _)

pub returns-then-gone : goal.returns-then-gone
returns-then-gone c =
    let l = c.loop-k in
    let e : l.at ≡ place _ l.k = l.invariant.1 (omega arith) in
    tells_no (λ h. late _ _ _ l.k _ l.invariant.2 c.if-gone.true (omega arith) (sym (held_at c.args.j.now _ _ _ _ e c.is_held-held.ensures) ∙ c.if-held.true) h.1)

pub loop-k-preserved : goal.loop-k-preserved
loop-k-preserved c =
    let j = c.args.j.now in
    let l = c.loop-k in
    let e : l.at ≡ place _ l.k = l.invariant.1 (omega arith) in
    let s : l.k - 1 + 1 ≡ l.k = omega arith in (
      c.back-at.ensures.0,
      (λ k. c.back-at.ensures.1 l.k (omega arith) e),
      turn _ _ _ l.k _ _ (omega arith) l.invariant.2 ((good_at _ _ _ _ e).0 (subst (Good j l.at) s (c.good.ensures.0 c.if-not-good.false)))
          (held_at j _ _ _ _ e c.is_held-held.ensures)
          (λ h. elim c.else-held.branch [ else-held-via-then-held+else-gone w ↦ w.if-gone.false | else-held-via-else-held w ↦ absurd (differ _ w.if-held.false h) ]),
    )
