-- The steps of a look-up: tables and records that passed their tests, and the outcomes of a place and its label.
use Prim.Native.Nat.{ℕ, zero, suc, ◌%◌, ◌<◌, ◌≤◌}
use mathlib.Core.Path.{◌≡◌, refl}
use mathlib.Core.Bool.{Bool, true, false, ◌&&◌}
use mathlib.Core.List.{List, [], ◌∷◌}
use Rattle.std.specs.Prelude.{Some, None}
use native.Mathlib.Omega.{arith}
use borrow.Author.Tests.{leb-true, eqb-true}
use lib.Dec.{leb, eqb}
use lib.ListN.{length, take}
use lib.Seq.{length-take-le}
use Rattle.text.specs.Bytes.{is_digit, every, all_digits}
use Rattle.text.proofs.Tests.{under, over, inside_is, both_true}
use Rattle.text.proofs.Numbers.{decimal_bound}
use Rattle.reasons.specs.Reasons.{Outcome, gives, refuses, demand}
use Rattle.ranges.specs.Ranges.{table_ok, low, high, prefix_of, fits, choice}
use Rattle.ranges.specs.Ranges.{place_rule, label_at, label_rule}
use Rattle.ranges.specs.declared.Place.{Place}
use Rattle.ranges.specs.declared.Place.TheVariants.{Site, Acquirer}

-- a table that passed is a whole number of records, and not long
pub whole : (t : List ℕ) → table_ok t ≡ true → (length t % 16 ≡ 0) × (length t ≤ 65536)
unfolding table_ok
whole t h = let p = both_true (eqb (length t % 16) 0) (leb (length t) 65536) h in (eqb-true _ _ p.0, leb-true _ _ p.1)

-- a record that begins above the first digits, and one that ends below them
module _ (t : List ℕ) (at p n : ℕ) where
  pub below : p < low t at → fits t at p n ≡ false
  unfolding fits
  below h = simp (under (low t at) (high t at) p h)

  pub above : high t at < p → fits t at p n ≡ false
  unfolding fits
  above h = simp (over (low t at) (high t at) p h)

-- a record that fits has its ends in order
pub ends_in_order : (t : List ℕ) (at p n : ℕ) → fits t at p n ≡ true → low t at ≤ high t at
unfolding fits
ends_in_order t at p n h = let w = inside_is (low t at) (high t at) p (both_true _ _ h).0 in omega (arith, w.0, w.1)

-- the first digits of a run of digits are digits
pub front_digits : (n : ℕ) (s : List ℕ) → all_digits s ≡ true → all_digits (take n s) ≡ true
unfolding every
front_digits zero s h = refl
front_digits (suc n) [] h = refl
front_digits (suc n) (b ∷ s) h =
    let p = both_true (is_digit b) (all_digits s) h in
    rw p.0 (front_digits n s p.1)

-- and eight of them write a number below 10 ^ 8
pub prefix_bound : (pan : List ℕ) → 8 ≤ length pan → all_digits pan ≡ true → prefix_of pan < 100000000
prefix_bound pan h d =
    rw (length-take-le 8 pan h) at (decimal_bound (take 8 pan) 0 (front_digits 8 pan d))

-- two tests with one number: where not both pass, that number
pub both_demanded : {A : Type 0} (a b : Bool) (n : ℕ) (o : Outcome A) → (a && b) ≡ false → demand a n (demand b n o) ≡ refuses n
both_demanded true true n o e = cc
both_demanded true false n o e = refl
both_demanded false b n o e = refl

-- the place, choice by choice
module _ (site acquirer pan : List ℕ) where
  pub at_site : (at : ℕ) → choice site (prefix_of pan) (length pan) ≡ Some at → place_rule site acquirer pan ≡ gives (Site at)
  unfolding place_rule
  at_site at e = rw e

  module _ (e : choice site (prefix_of pan) (length pan) ≡ None) where
    pub at_acquirer : (at : ℕ) → choice acquirer (prefix_of pan) (length pan) ≡ Some at → place_rule site acquirer pan ≡ gives (Acquirer at)
    unfolding place_rule
    at_acquirer at f = rw (e, f)

    pub no_range : choice acquirer (prefix_of pan) (length pan) ≡ None → place_rule site acquirer pan ≡ refuses 15
    unfolding place_rule
    no_range f = rw (e, f)

-- the label of the record at the place
module _ (site acquirer pan : List ℕ) where
  pub label_given : (w : Place) → place_rule site acquirer pan ≡ gives w → label_rule site acquirer pan ≡ gives (label_at site acquirer w)
  unfolding label_rule
  label_given w e = rw e

  pub label_refused : (n : ℕ) → place_rule site acquirer pan ≡ refuses n → label_rule site acquirer pan ≡ refuses n
  unfolding label_rule
  label_refused n e = rw e
