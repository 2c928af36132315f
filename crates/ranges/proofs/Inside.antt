-- The record that a look-up answers is the narrowest of its table, and lies in it.
use Prim.Native.Nat.{ℕ, ◌+◌, ◌≤◌}
use mathlib.Core.Path.{◌≡◌, refl, sym, ◌∙◌, subst}
use mathlib.Core.Bool.{true}
use mathlib.Core.List.{List}
use Rattle.std.specs.Prelude.{Option, Some, None}
use native.Mathlib.Omega.{arith}
use lib.ListN.{length}
use denote.Ref.{Bor}
use Rattle.text.specs.Bytes.{all_digits}
use Rattle.text.specs.Parts.{PartOf}
use Rattle.reasons.specs.Reasons.{Outcome, gives, refuses}
use Rattle.reasons.proofs.Laws.{passed, gives_refuses}
use Rattle.pan.specs.Pan.{pan_length}
use Rattle.ranges.specs.Ranges.{table_ok, prefix_of, choice, place_rule, range_rule}
use Rattle.ranges.specs.declared.Place.{Place}
use Rattle.ranges.specs.declared.Place.TheVariants.{Site, Acquirer}
use Rattle.ranges.specs.Ranges.{LooksUp, of_site, of_acquirer, nothing}
use Rattle.ranges.proofs.Steps.{at_site, at_acquirer, no_range}
use Rattle.ranges.proofs.Narrowest.{IsNarrowest, NoneFits, chosen_narrowest, chosen_none}

-- a place lies inside the tables: m bytes of the site's, n of the acquirer's
pub data Inside (m n : ℕ) : Place → Type 0 where
  site_in : {at : ℕ} → at + 16 ≤ m → Inside m n (Site at)
  acquirer_in : {at : ℕ} → at + 16 ≤ n → Inside m n (Acquirer at)

pub site_end : {m n at : ℕ} → Inside m n (Site at) → at + 16 ≤ m
site_end (site_in h) = h

pub acquirer_end : {m n at : ℕ} → Inside m n (Acquirer at) → at + 16 ≤ n
acquirer_end (acquirer_in h) = h

-- what is given is one
pub given : {A : Type 0} (v w : A) → ◌≡◌ {A = Outcome A} (gives v) (gives w) → v ≡ w
given v w e = cc

-- where an answer stands: the narrowest of the site's table, else of the acquirer's
pub data Answer (site acquirer : List ℕ) (p n : ℕ) : Place → Type 0 where
  the_site's : {at : ℕ} → IsNarrowest site p n at → Answer site acquirer p n (Site at)
  the_acquirer's : {at : ℕ} → NoneFits site p n → IsNarrowest acquirer p n at → Answer site acquirer p n (Acquirer at)

module _ (site acquirer pan : List ℕ) where
  by_choices : (a b : Option ℕ) → choice site (prefix_of pan) (length pan) ≡ a → choice acquirer (prefix_of pan) (length pan) ≡ b
      → (w : Place) → place_rule site acquirer pan ≡ gives w → Answer site acquirer (prefix_of pan) (length pan) w
  by_choices (Some at) b e f w g =
      let q = given (Site at) w (sym (at_site site acquirer pan at e) ∙ g) in
      subst (Answer site acquirer _ _) q (the_site's (chosen_narrowest site _ _ at e))
  by_choices None (Some at) e f w g =
      let q = given (Acquirer at) w (sym (at_acquirer site acquirer pan e at f) ∙ g) in
      subst (Answer site acquirer _ _) q (the_acquirer's (chosen_none site _ _ e) (chosen_narrowest acquirer _ _ at f))
  by_choices None None e f w g = gives_refuses w 15 (sym g ∙ no_range site acquirer pan e f)

  -- "Look-up must answer the fitting record with the smallest high less low"
  pub place_narrowest : (w : Place) → place_rule site acquirer pan ≡ gives w → Answer site acquirer (prefix_of pan) (length pan) w
  place_narrowest w e = by_choices (choice site _ _) (choice acquirer _ _) refl refl w e

  in_its_table : {p n : ℕ} {w : Place} → Answer site acquirer p n w → Inside (length site) (length acquirer) w
  in_its_table (the_site's {at = at} r) = site_in {at = at} (omega (arith, r.inside))
  in_its_table (the_acquirer's {at = at} g r) = acquirer_in {at = at} (omega (arith, r.inside))

  -- the place that is given, where nothing is to be tested any more, and where everything is
  pub place_inside : (w : Place) → place_rule site acquirer pan ≡ gives w → Inside (length site) (length acquirer) w
  place_inside w e = in_its_table (place_narrowest w e)

  pub range_place : (w : Place) → range_rule site acquirer pan ≡ gives w → place_rule site acquirer pan ≡ gives w
  unfolding range_rule
  range_place w e =
      let a = (passed (table_ok site) 14 _ w e).1 in
      let b = (passed (table_ok acquirer) 14 _ w a).1 in
      let c = (passed (pan_length (length pan)) 2 _ w b).1 in
      (passed (all_digits pan) 3 _ w c).1

  -- its tables passed, so that the offset is small
  pub range_tables : (w : Place) → range_rule site acquirer pan ≡ gives w → (table_ok site ≡ true) × (table_ok acquirer ≡ true)
  unfolding range_rule
  range_tables w e =
      let a = passed (table_ok site) 14 _ w e in
      (a.0, (passed (table_ok acquirer) 14 _ w a.1).0)

  pub range_inside : (w : Place) → range_rule site acquirer pan ≡ gives w → Inside (length site) (length acquirer) w
  range_inside w e = place_inside w (range_place w e)

-- the part that a given place names
module _ (site acquirer r : Bor (List ℕ)) (o : Outcome Place) where
  pub site_part : (at : ℕ) → o ≡ gives (Site at) → PartOf site at 16 r → LooksUp site acquirer o r
  site_part at e h = rw e (of_site h)

  pub acquirer_part : (at : ℕ) → o ≡ gives (Acquirer at) → PartOf acquirer at 16 r → LooksUp site acquirer o r
  acquirer_part at e h = rw e (of_acquirer h)

  pub no_part : (n : ℕ) → o ≡ refuses n → PartOf site 0 0 r → LooksUp site acquirer o r
  no_part n e h = rw e (nothing h)
