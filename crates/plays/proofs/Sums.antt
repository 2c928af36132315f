-- The totals of calls: they are one, those of calls after others are the sum of both, and how large they get.
use Prim.Native.Nat.{ℕ, ◌<◌, ◌+◌}
use mathlib.Core.Path.{◌≡◌, sym, ap, ◌∙◌}
use mathlib.Core.List.{List, [], ◌∷◌, ◌++◌}
use native.Mathlib.Omega.{arith}
use lib.ListN.{length, length-append}
use Rattle.history.specs.History.{Done, takings, booked}
use Rattle.history.proofs.Runs.{booked-append, freed_count_append, freed_sum-append, takings-append}
use Rattle.plays.specs.declared.Totals.{Totals}
use Rattle.plays.specs.Script.{refused_count, skipped_count, TotalsOf, Nothing, Bounded, Fits, Adds}

-- the totals of calls are one
pub totals_one : (ds : List Done) (r q : Totals) → TotalsOf ds r → TotalsOf ds q → r ≡ q
totals_one ds r q a b = λ i. record {
  booked = (a.booked_is ∙ sym b.booked_is) i;
  takings = (a.takings_is ∙ sym b.takings_is) i;
  released = (a.released_is ∙ sym b.released_is) i;
  remitted = (a.remitted_is ∙ sym b.remitted_is) i;
  refused = (a.refused_is ∙ sym b.refused_is) i;
  skipped = (a.skipped_is ∙ sym b.skipped_is) i;
}

-- ---- what calls one after another come to

abbrev pub sum : Totals → Totals → Totals
sum t u = record {
  booked = t.booked + u.booked;
  takings = t.takings + u.takings;
  released = t.released + u.released;
  remitted = t.remitted + u.remitted;
  refused = t.refused + u.refused;
  skipped = t.skipped + u.skipped;
}

refused_append : (ds es : List Done) → refused_count (ds ++ es) ≡ refused_count ds + refused_count es
unfolding refused_count
refused_append [] es = omega arith
refused_append (d ∷ ds) es = let ih = refused_append ds es in omega arith

skipped_append : (ds es : List Done) → skipped_count (ds ++ es) ≡ skipped_count ds + skipped_count es
unfolding skipped_count
skipped_append [] es = omega arith
skipped_append (d ∷ ds) es = let ih = skipped_append ds es in omega arith

-- calls after others come to the sum of both
pub totals_append : (ds es : List Done) (t u y : Totals) → TotalsOf ds t → TotalsOf es u → Adds t u y → TotalsOf (ds ++ es) y
totals_append ds es t u y v w a =
    let e : booked ds ++ booked es ≡ booked (ds ++ es) = sym (booked-append ds es) in
    record {
      booked_is = a.booked ∙ (λ i. v.booked_is i + w.booked_is i) ∙ sym (length-append (booked ds) (booked es)) ∙ ap length e;
      takings_is = a.takings ∙ (λ i. v.takings_is i + w.takings_is i) ∙ sym (takings-append (booked ds) (booked es)) ∙ ap takings e;
      released_is = omega (arith, a.released, v.released_is, w.released_is, freed_count_append ds es);
      remitted_is = omega (arith, a.remitted, v.remitted_is, w.remitted_is, freed_sum-append ds es);
      refused_is = omega (arith, a.refused, v.refused_is, w.refused_is, refused_append ds es);
      skipped_is = omega (arith, a.skipped, v.skipped_is, w.skipped_is, skipped_append ds es);
    }

-- ---- how large they get

pub bounded_none : (r : Totals) → Nothing 0 0 r → Bounded 0 r
bounded_none r z = (omega (arith, z.0), omega (arith, z.1), omega (arith, z.2), omega (arith, z.3), omega (arith, z.4), omega (arith, z.5))

pub bounded_more : (i : ℕ) (t u r : Totals) → Bounded i t → Bounded 1 u → Adds t u r → Bounded (i + 1) r
bounded_more i t u r m o a = (
  omega (arith, m.0, o.0, a.booked),
  omega (arith, m.1, o.1, a.takings),
  omega (arith, m.2, o.2, a.released),
  omega (arith, m.3, o.3, a.remitted),
  omega (arith, m.4, o.4, a.refused),
  omega (arith, m.5, o.5, a.skipped),
)

pub bounded_fits : (i : ℕ) (t u : Totals) → i < 1048576 → Bounded i t → Bounded 1 u → Fits t u
bounded_fits i t u h m o = (
  omega (arith, m.0, o.0),
  omega (arith, m.1, o.1),
  omega (arith, m.2, o.2),
  omega (arith, m.3, o.3),
  omega (arith, m.4, o.4),
  omega (arith, m.5, o.5),
)
