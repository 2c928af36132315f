use Prim.Native.Nat.{◌*◌, ◌/◌}
use mathlib.Core.Path.{◌≡◌, refl, sym, ap, ◌∙◌}
use native.Mathlib.Omega.{arith}
use native.Mathlib.Numerals.{add-one}
use lib.ListN.{length}
use Rattle.ranges.specs.Ranges.{best_of, choice}
use Rattle.ranges.proofs.Steps.{ends_in_order}
use Rattle.ranges.proofs.Narrowest.{nothing_yet, kept_on, kept_new, kept_old, kept_as, kept_is, kept-none}
use Rattle.ranges.proofs.inner.choose.Goals as goal
use Rattle.ranges.proofs.inner.choose.Goals.{then-fits+then-w-width, then-fits+else-w-width, else-fits}

pub loop-k-init : goal.loop-k-init
unfolding best_of
loop-k-init c = nothing_yet (omega arith)

pub width_at-w-requires : goal.width_at-w-requires
width_at-w-requires c = let a = c.args in (omega arith, ends_in_order a.t.now _ a.p a.n (sym c.fits.ensures ∙ c.if-fits.true))

pub loop-k-preserved : goal.loop-k-preserved
unfolding best_of
loop-k-preserved c =
    let a = c.args in
    let t = a.t.now in
    let k = c.loop-k.k in
    let h = c.loop-k.invariant in
    let f = sym c.fits.ensures in
    rw (add-one k)
    (elim c.if-fits.branch [
      | then-fits+then-w-width w ↦ kept_as (kept_new t a.p a.n (16 * k) h (f ∙ w.if-fits.true) (omega arith) (omega arith)) refl w.best-is (w.width-is ∙ w.width_at-w.ensures)
      | then-fits+else-w-width w ↦ kept_as (kept_old t a.p a.n (16 * k) h (f ∙ w.if-fits.true) (omega arith) (omega arith)) refl w.best-is w.width-is
      | else-fits w ↦ kept_as (kept_on t a.p a.n (16 * k) h (f ∙ w.if-fits.false)) refl w.best-is w.width-is
    ])

pub returns-then-width-lt4294967296 : goal.returns-then-width-lt4294967296
unfolding choice
returns-then-width-lt4294967296 c =
    let a = c.args in
    let n : c.loop-k.k ≡ length a.t.now / 16 = omega arith in
    kept_is c.loop-k.invariant (omega arith) ∙ ap (best_of a.t.now a.p a.n) n

pub returns-else-width-lt4294967296 : goal.returns-else-width-lt4294967296
unfolding choice
returns-else-width-lt4294967296 c =
    let a = c.args in
    let n : c.loop-k.k ≡ length a.t.now / 16 = omega arith in
    kept-none c.loop-k.invariant (omega arith) ∙ ap (best_of a.t.now a.p a.n) n
