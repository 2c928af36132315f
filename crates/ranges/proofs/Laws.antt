-- The laws of the look-up.
use Prim.Native.Nat.{ℕ, ◌*◌, ◌/◌, ◌<◌, ◌≤◌}
use mathlib.Core.Path.{◌≡◌, refl, sym, ap, ◌∙◌, subst}
use mathlib.Core.Bool.{true, false}
use mathlib.Core.Logic.{◌↔◌}
use mathlib.Core.List.{List, []}
use Rattle.std.specs.Prelude.{Option, Some, None, Result, Ok, Err}
use native.Mathlib.Omega.{arith}
use native.Mathlib.Decide.{dec_lt}
use lib.ListN.{length, take}
use denote.Ref.{Bor}
use Rattle.text.specs.Bytes.{all_digits}
use Rattle.text.specs.Parts.{PartOf}
use Rattle.text.proofs.Parts.{Same, part_one}
use Rattle.reasons.specs.Reasons.{Outcome, gives, refuses, number_in, said}
use Rattle.reasons.proofs.Laws.{First, refuses_exactly, gives_refuses, refused_number, said_one}
use Rattle.reasons.specs.declared.Reason.{Reason}
use Rattle.pan.specs.Pan.{pan_length}
use Rattle.ranges.specs.Ranges.{table_ok, low, high, prefix_of, fits, width, best_of, choice}
use Rattle.ranges.specs.Ranges.{place_rule, range_rule, label_at, label_rule}
use Rattle.ranges.specs.declared.Place.{Place}
use Rattle.ranges.specs.declared.Place.TheVariants.{Site, Acquirer}
use Rattle.ranges.specs.Ranges.{LooksUp, of_site, of_acquirer, nothing}
use Rattle.ranges.proofs.Steps.{below, above, at_site, at_acquirer, no_range, label_given, label_refused}
use Rattle.ranges.proofs.Narrowest.{IsNarrowest, NoneFits, both_ways, chosen_narrowest, chosen_none}
use Rattle.ranges.proofs.Inside.{given, Answer, the_site's, the_acquirer's, place_narrowest, range_place}

-- any two answers that a look-up allows are equal: place, part and number
pub found_one : (r q : Result Place Reason) → said r ≡ said q → r ≡ q
found_one r q e = said_one r q e

pub look_up_one : {s a : Bor (List ℕ)} {o : Outcome Place} {r q : Bor (List ℕ)} → LooksUp s a o r → LooksUp s a o q → Same r q
look_up_one (of_site f) (of_site g) = part_one _ _ _ _ _ f g
look_up_one (of_acquirer f) (of_acquirer g) = part_one _ _ _ _ _ f g
look_up_one (nothing f) (nothing g) = part_one _ _ _ _ _ f g

pub look_up_number_one : (s a pan : List ℕ) (n m : ℕ) → n ≡ number_in (range_rule s a pan) → m ≡ number_in (range_rule s a pan) → n ≡ m
look_up_number_one s a pan n m f g = f ∙ sym g

-- "the answer also says which table it was": the part that `look_up` gives lies in the table that `find` names, at the offset that `find` names
pub data WhichTable (site acquirer : Bor (List ℕ)) : Result Place Reason → Bor (List ℕ) → Type 0 where
  in_site's : {at : ℕ} {r : Bor (List ℕ)} → PartOf site at 16 r → WhichTable site acquirer (Ok (Site at)) r
  in_acquirer's : {at : ℕ} {r : Bor (List ℕ)} → PartOf acquirer at 16 r → WhichTable site acquirer (Ok (Acquirer at)) r
  in_neither : {why : Reason} {r : Bor (List ℕ)} → PartOf site 0 0 r → WhichTable site acquirer (Err why) r

pub which_table : {s a : Bor (List ℕ)} {o : Outcome Place} {r : Bor (List ℕ)} (f : Result Place Reason) → said f ≡ o → LooksUp s a o r → WhichTable s a f r
which_table {s} {a} {o} {r} f e h = by f (subst (λ (x : Outcome Place). LooksUp s a x r) (sym e) h)
  where
    by : (f : Result Place Reason) → LooksUp s a (said f) r → WhichTable s a f r
    by (Ok (Site at)) (of_site g) = in_site's g
    by (Ok (Acquirer at)) (of_acquirer g) = in_acquirer's g
    by (Err why) (nothing g) = in_neither g

module _ (t : List ℕ) (p n : ℕ) where
  -- of equally narrow records the one that is chosen stands first,
  pub equals_later : (a k : ℕ) → choice t p n ≡ Some a → fits t (16 * k) p n ≡ true → width t (16 * k) ≡ width t a → a ≤ 16 * k
  equals_later a k e f w = by (dec_lt (16 * k) a)
    where
      by : Dec (16 * k < a) → a ≤ 16 * k
      by (yes l) = absurd (omega (arith, (chosen_narrowest t p n a e).earlier k l f))
      by (no l) = omega arith

  -- a narrowest one stands behind no other,
  no_later : (a b : ℕ) → IsNarrowest t p n a → IsNarrowest t p n b → Dec (b < a) → a ≤ b
  no_later a b f g (yes l) =
      let q : 16 * (a / 16) ≡ a = omega (arith, f.whole) in
      let r : 16 * (b / 16) ≡ b = omega (arith, g.whole) in
      let h = rw r at (f.earlier (b / 16) (omega arith) (rw r g.fit)) in
      let i = rw q at (g.narrowest (a / 16) (omega (arith, f.inside)) (rw q f.fit)) in
      absurd (omega arith)
  no_later a b f g (no l) = omega arith

  -- and where there is one, some record fits
  not_none : {A : Type 0} (a : ℕ) → IsNarrowest t p n a → NoneFits t p n → A
  not_none a f g =
      let q : 16 * (a / 16) ≡ a = omega (arith, f.whole) in
      both_ways t p n a f.fit (rw q at (g (a / 16) (omega (arith, f.inside))))

  by_choice : (a : ℕ) (o : Option ℕ) → choice t p n ≡ o → IsNarrowest t p n a → o ≡ Some a
  by_choice a None e f = not_none a f (chosen_none t p n e)
  by_choice a (Some b) e f =
      let g = chosen_narrowest t p n b e in
      ap Some (omega (arith, no_later a b f g (dec_lt b a), no_later b a g f (dec_lt a b)))

  -- what is the narrowest is chosen,
  pub narrowest_chosen : (a : ℕ) → IsNarrowest t p n a → choice t p n ≡ Some a
  narrowest_chosen a f = by_choice a (choice t p n) refl f

  by_none : (o : Option ℕ) → choice t p n ≡ o → NoneFits t p n → o ≡ None
  by_none None e f = refl
  by_none (Some a) e f = not_none a (chosen_narrowest t p n a e) f

  -- where nothing fits, nothing is chosen,
  pub none_chosen : NoneFits t p n → choice t p n ≡ None
  none_chosen f = by_none (choice t p n) refl f

  -- and where a record fits, one is
  pub some_chosen : (k : ℕ) → k < length t / 16 → fits t (16 * k) p n ≡ true → (a : ℕ) × (choice t p n ≡ Some a)
  some_chosen k l f = by (choice t p n) refl
    where
      by : (o : Option ℕ) → choice t p n ≡ o → (a : ℕ) × (choice t p n ≡ Some a)
      by None e = both_ways t p n (16 * k) f (chosen_none t p n e k l)
      by (Some a) e = (a, e)

module _ (site acquirer pan : List ℕ) where
  -- "Look-up must answer the fitting record with the smallest high less low": what it answers is that one, and that one is what it answers
  pub answer_narrowest : (w : Place) → range_rule site acquirer pan ≡ gives w → Answer site acquirer (prefix_of pan) (length pan) w
  answer_narrowest w e = place_narrowest site acquirer pan w (range_place site acquirer pan w e)

  pub narrowest_placed : {w : Place} → Answer site acquirer (prefix_of pan) (length pan) w → place_rule site acquirer pan ≡ gives w
  narrowest_placed (the_site's {at = at} f) = at_site site acquirer pan at (narrowest_chosen site _ _ at f)
  narrowest_placed (the_acquirer's {at = at} g f) =
      at_acquirer site acquirer pan (none_chosen site _ _ g) at (narrowest_chosen acquirer _ _ at f)

  -- "The swipe's label follows the new rule": it is the label of that record
  pub label_follows : (l : ℕ) → label_rule site acquirer pan ≡ gives l
      → (w : Place) × Answer site acquirer (prefix_of pan) (length pan) w × (l ≡ label_at site acquirer w)
  label_follows l e = by (place_rule site acquirer pan) refl
    where
      by : (o : Outcome Place) → place_rule site acquirer pan ≡ o
          → (w : Place) × Answer site acquirer (prefix_of pan) (length pan) w × (l ≡ label_at site acquirer w)
      by (gives w) f = (w, place_narrowest site acquirer pan w f, given l _ (sym e ∙ label_given site acquirer pan w f))
      by (refuses r) f = gives_refuses l r (sym e ∙ label_refused site acquirer pan r f)

  -- ---- the refusals

  -- no record of either table fits
  abbrev pub NoRange : Type 0
  NoRange = NoneFits site (prefix_of pan) (length pan) × NoneFits acquirer (prefix_of pan) (length pan)

  neither : (a b : Option ℕ) → choice site (prefix_of pan) (length pan) ≡ a → choice acquirer (prefix_of pan) (length pan) ≡ b → (n : ℕ)
      → place_rule site acquirer pan ≡ refuses n → (n ≡ 15) × NoRange
  neither (Some at) b e f n g = gives_refuses (Site at) n (sym (at_site site acquirer pan at e) ∙ g)
  neither None (Some at) e f n g = gives_refuses (Acquirer at) n (sym (at_acquirer site acquirer pan e at f) ∙ g)
  neither None None e f n g =
      (sym (refused_number 15 n (sym (no_range site acquirer pan e f) ∙ g)), (chosen_none site _ _ e, chosen_none acquirer _ _ f))

  pub place_refuses : (n : ℕ) → (place_rule site acquirer pan ≡ refuses n) ↔ ((n ≡ 15) × NoRange)
  place_refuses n = (
    neither (choice site _ _) (choice acquirer _ _) refl refl n,
    λ h. rw h.0 (no_range site acquirer pan (none_chosen site _ _ h.1.0) (none_chosen acquirer _ _ h.1.1)),
  )

  -- "Order: 14 (site, then acquirer), 2, 3, 15"
  pub range_refuses : (n : ℕ) → (range_rule site acquirer pan ≡ refuses n)
      ↔ First (table_ok site) 14 n (First (table_ok acquirer) 14 n (First (pan_length (length pan)) 2 n (First (all_digits pan) 3 n ((n ≡ 15) × NoRange))))
  unfolding range_rule
  range_refuses n = refuses_exactly _ 14 _ n (refuses_exactly _ 14 _ n (refuses_exactly _ 2 _ n (refuses_exactly _ 3 _ n (place_refuses n))))

  -- with good tables and a good PAN the look-up refuses 15 exactly where no record of either table fits
  pub no_range_exactly : table_ok site ≡ true → table_ok acquirer ≡ true → pan_length (length pan) ≡ true → all_digits pan ≡ true
      → (range_rule site acquirer pan ≡ refuses 15) ↔ NoRange
  unfolding range_rule
  no_range_exactly s a l d =
      let p = place_refuses 15 in
      (λ e. (p.0 (simp (s, a, l, d) at e)).1, λ h. simp (s, a, l, d) (p.1 (refl, h)))

-- "A fitting record in the site's table still wins over all of the acquirer's", whatever records those are
pub site_wins : (site pan : List ℕ) (k : ℕ) → k < length site / 16 → fits site (16 * k) (prefix_of pan) (length pan) ≡ true
    → (a : ℕ) × IsNarrowest site (prefix_of pan) (length pan) a × ((acquirer : List ℕ) → place_rule site acquirer pan ≡ gives (Site a))
site_wins site pan k l f =
    let c = some_chosen site _ _ k l f in
    (c.0, chosen_narrowest site _ _ c.0 c.1, λ acquirer. at_site site acquirer pan c.0 c.1)

-- "a record with low above high fits nothing"
pub low_above_high : (t : List ℕ) (at p n : ℕ) → high t at < low t at → fits t at p n ≡ false
low_above_high t at p n h = by (dec_lt p (low t at))
  where
    by : Dec (p < low t at) → fits t at p n ≡ false
    by (yes l) = below t at p n l
    by (no l) = above t at p n (omega arith)

-- "Empty tables are allowed"
pub empty_allowed : (p n : ℕ) → (table_ok [] ≡ true) × (choice [] p n ≡ None)
unfolding table_ok choice best_of
empty_allowed p n = (refl, refl)

-- 65,536 bytes are taken, and one record more is refused
pub longest-table : (t : List ℕ) → length t ≡ 65536 → table_ok t ≡ true
unfolding table_ok
longest-table t h = simp h

pub one_record_more : (t : List ℕ) → length t ≡ 65552 → table_ok t ≡ false
unfolding table_ok
one_record_more t h = simp h

-- of a PAN the look-up takes its first eight digits and its length
pub eight_and_length : (site acquirer a b : List ℕ) → take 8 a ≡ take 8 b → length a ≡ length b → place_rule site acquirer a ≡ place_rule site acquirer b
unfolding place_rule
eight_and_length site acquirer a b e l = rw (e, l)
