-- `swipe` tests the scratch, lets it be used, and clears it.
use Prim.Native.Nat.{ℕ, ◌<◌}
use mathlib.Core.Path.{subst, ap, ◌∙◌}
use native.Mathlib.Omega.{arith}
use lib.ListN.{length, replicate}
use lib.Seq.{length-take-le}
use Rattle.std.proofs.Common.{None, Err, refl}
use Rattle.reasons.specs.declared.Reason.TheVariants.{ShortOutput}
use Rattle.swipe.proofs.Steps.{refused, short_scratch, kept_short, cleared}
use Rattle.swipe.proofs.swipe.Goals as goal

pub returns-then-scratch-n : goal.returns-then-scratch-n
returns-then-scratch-n c =
    let a = c.args in
    let h = subst (λ (m : ℕ). length a.scratch.now < m) c.room_of-n.ensures c.if-scratch-n.true in
    let so = refused _ _ _ _ _ _ (Err ShortOutput) _ refl (short_scratch _ _ _ _ _ h) in
    record { view = None; is = λ l. absurd (omega (arith, h, l)); so = so; scratch = kept_short _ _ h }

pub returns : goal.returns
returns c =
    let w = c.book_card-r.ensures.0 in
    let zeros = c.fill.ensures.after (λ y h. h) ∙ ap (λ (x : ℕ). replicate x 0) (length-take-le c.room_of-n.result c.book_card-r.new.scratch (omega arith)) in
    record { view = w.view; is = λ _. w.is; so = w.so; scratch = cleared _ _ _ _ _ c.room_of-n.ensures c.if-scratch-n.false c.book_card-r.ensures.1 zeros }
