-- The laws of the count of days and of an expiry.
use Prim.Native.Nat.{ℕ, zero, suc, ◌+◌, ◌-◌, ◌%◌, ◌≤◌, ◌<◌}
use mathlib.Core.Path.{◌≡◌, refl, sym, ap, ◌∙◌}
use mathlib.Core.Bool.{Bool, true, false, ◌&&◌, cond}
use mathlib.Core.Logic.{◌↔◌, ◌⊎◌, inl, inr}
use mathlib.Core.List.{List}
use native.Mathlib.Omega.{arith}
use native.Mathlib.Decide.{ℕ_discrete, dec_lt}
use lib.Dec.{ltb, leb}
use borrow.Author.Tests.{ltb-true, ltb-false, le-leb, lt-leb, leb-true, leb-false}
use Rattle.std.proofs.Common.{Option, None, Some, Result}
use Rattle.text.specs.Bytes.{within}
use Rattle.reasons.specs.Reasons.{Outcome, gives, refuses, said}
use Rattle.reasons.specs.declared.Reason.{Reason}
use Rattle.reasons.proofs.Laws.{First, gives_refuses, said_one, passed, stopped, stops}
use Rattle.layout.specs.Layout.{is_expiry}
use Rattle.dates.specs.Dates.{date, leap, days_in, month_days, real, date_rule, days_rule, left_rule}
use Rattle.dates.specs.Dates.{sum_below, months_before, year_length, years_from2000, day_number, expiry_year, expiry_month, last_day}
use Rattle.dates.specs.Days.{next_by, next, days_on, Earlier, by_year, by_month, by_day, Expired}
use Rattle.dates.specs.declared.Date.{Date}
use Rattle.dates.proofs.Calendar.{leap_fourth, leap_else, RealDay, real_is, is_real, sum_grows, month_there, none_yet}
use Rattle.dates.proofs.Expiries.{last_real}

-- any two outcomes that the test of a date allows are equal
pub test_one : (a : Date) (r q : Result (Unit {0}) Reason) → said r ≡ date_rule a → said q ≡ date_rule a → r ≡ q
test_one a r q f g = said_one r q (f ∙ sym g)

-- "with February in leap years": 29 February is a real day exactly in these
leap_only : (b : Bool) → (leb 1 29 && leb 29 (cond b 29 28)) ≡ b
leap_only true = refl
leap_only false = refl

pub leap_day : (y : ℕ) → real (date y 2 29) ≡ (within 2000 2099 y && leap y)
unfolding real days_in
leap_day y = ap (λ (b : Bool). within 2000 2099 y && b) (leap_only (leap y))

-- in these years every fourth
pub leap_years : (y : ℕ) → 2000 ≤ y → y ≤ 2099 → (leap y ≡ true) ↔ (y % 4 ≡ 0)
leap_years y from to = (λ e. there e (ℕ_discrete (y % 4) 0), leap_fourth y from to)
  where
    there : leap y ≡ true → Dec (y % 4 ≡ 0) → y % 4 ≡ 0
    there e (yes f) = f
    there e (no f) = let z : true ≡ false = sym e ∙ leap_else y from to f in cc

-- ---- "counted exactly"

-- 1 January 2000 is day 0, and the last of the century day 36,524
pub first_number : day_number (date 2000 1 1) ≡ 0
unfolding day_number sum_below days_in
first_number = refl

pub last_number : day_number (date 2099 12 31) ≡ 36524
unfolding day_number sum_below days_in leap
last_number = refl

first_there : real (date 2000 1 1) ≡ true
unfolding real days_in
first_there = refl

last_there : real (date 2099 12 31) ≡ true
unfolding real days_in
last_there = refl

-- a month more, and a year more
month_more : (b : Bool) (m : ℕ) → months_before b (suc m) ≡ months_before b m + days_in b m
unfolding sum_below
month_more b m = refl

count_more : (n : ℕ) → years_from2000 (suc n) ≡ years_from2000 n + year_length (2000 + n)
unfolding sum_below
count_more n = refl

year_more : (y : ℕ) → 2000 ≤ y → years_from2000 (suc y - 2000) ≡ years_from2000 (y - 2000) + year_length y
year_more y h =
    let e : suc y - 2000 ≡ suc (y - 2000) = omega arith in
    let f : 2000 + (y - 2000) ≡ y = omega arith in
    ap years_from2000 e ∙ count_more (y - 2000) ∙ ap (λ (x : ℕ). years_from2000 (y - 2000) + year_length x) f

december : (b : Bool) → days_in b 12 ≡ 31
unfolding days_in
december b = refl

-- the first day of a month is there
opens : (y m : ℕ) → 2000 ≤ y → y ≤ 2099 → 1 ≤ m → m ≤ 12 → RealDay (date y m 1)
opens y m f t j d = record { from = f; to = t; january = j; december = d; first = omega arith; last = month_there (leap y) m j d }

module _ (a : Date) (r : RealDay a) where
  one_more : (b c : Bool) → ltb a.day (month_days a) ≡ b → ltb a.month 12 ≡ c → day_number (next_by b c a) ≡ suc (day_number a)
  unfolding day_number
  one_more true c e f = omega arith
  one_more false true e f = omega (arith, ltb-false a.day (month_days a) e, month_more (leap a.year) a.month)
  one_more false false e f =
      let m : a.month ≡ 12 = omega (arith, ltb-false a.month 12 f) in
      let n : months_before (leap a.year) (suc a.month) ≡ year_length a.year = ap (λ (k : ℕ). months_before (leap a.year) (suc k)) m in
      let d : month_days a ≤ a.day = ltb-false a.day (month_days a) e in
      omega (arith, month_more (leap a.year) a.month, year_more a.year r.from, none_yet (leap (suc a.year)))

  -- no later than 2099
  not_last : ltb a.day (month_days a) ≡ false → ltb a.month 12 ≡ false → (a ≡ date 2099 12 31 → ⊥) → Dec (a.year ≡ 2099) → suc a.year ≤ 2099
  not_last e f l (no n) = omega arith
  not_last e f l (yes y) =
      let m : a.month ≡ 12 = omega (arith, ltb-false a.month 12 f) in
      let d : a.day ≡ 31 = omega (arith, ltb-false a.day (month_days a) e, ap (days_in (leap a.year)) m ∙ december (leap a.year)) in
      absurd (l (λ j. date (y j) (m j) (d j)))

  still_real : (b c : Bool) → ltb a.day (month_days a) ≡ b → ltb a.month 12 ≡ c → (a ≡ date 2099 12 31 → ⊥) → RealDay (next_by b c a)
  still_real true c e f l =
      let d : suc a.day ≤ month_days a = ltb-true a.day (month_days a) e in
      record { from = r.from; to = r.to; january = r.january; december = r.december; first = omega arith; last = d }
  still_real false true e f l = opens a.year (suc a.month) r.from r.to (omega arith) (ltb-true a.month 12 f)
  still_real false false e f l = opens (suc a.year) 1 (omega arith) (not_last e f l (ℕ_discrete a.year 2099)) (omega arith) (omega arith)

-- the next day has the next number, and is real but for the last of the century
pub next-number : (a : Date) → real a ≡ true → day_number (next a) ≡ suc (day_number a)
next-number a h = one_more a (real_is a h) _ _ refl refl

pub next-real : (a : Date) → real a ≡ true → (a ≡ date 2099 12 31 → ⊥) → real (next a) ≡ true
next-real a h l = is_real (next a) (still_real a (real_is a h) _ _ refl refl l)

-- a real day's number lies within its year and its month
in_month : (a : Date) → RealDay a → day_number a < years_from2000 (a.year - 2000) + months_before (leap a.year) (suc a.month)
unfolding day_number
in_month a r = omega (arith, month_more (leap a.year) a.month)

in_year : (a : Date) → RealDay a → day_number a < years_from2000 (suc a.year - 2000)
in_year a r = omega (arith, in_month a r, sum_grows (days_in (leap a.year)) (suc a.month) 13 (omega arith), year_more a.year r.from)

from_month : (a : Date) → years_from2000 (a.year - 2000) + months_before (leap a.year) a.month ≤ day_number a
unfolding day_number
from_month a = omega arith

-- so of two real days the earlier has the smaller number
less : (a b : Date) → RealDay a → RealDay b → Earlier a b → day_number a < day_number b
unfolding day_number
less a b ra rb (by_year h) =
    omega (arith, in_year a ra, from_month b, sum_grows (λ k. year_length (2000 + k)) (suc a.year - 2000) (b.year - 2000) (omega arith))
less a b ra rb (by_month e h) =
    let s : years_from2000 (a.year - 2000) + months_before (leap a.year) b.month ≤ day_number b = rw e (from_month b) in
    omega (arith, in_month a ra, s, sum_grows (days_in (leap a.year)) (suc a.month) b.month h)
less a b ra rb (by_day e f h) = rw (e, f) (omega (arith, ra.first))

pub earlier_less : (a b : Date) → real a ≡ true → real b ≡ true → Earlier a b → day_number a < day_number b
earlier_less a b h g l = less a b (real_is a h) (real_is b g) l

-- and no two have one number
data Order (a b : Date) : Type 0 where
  before : Earlier a b → Order a b
  same : a ≡ b → Order a b
  later : Earlier b a → Order a b

order : (a b : Date) → Order a b
order a b = by_years (ℕ_discrete a.year b.year) (dec_lt a.year b.year)
  where
    by_days : a.year ≡ b.year → a.month ≡ b.month → Dec (a.day ≡ b.day) → Dec (a.day < b.day) → Order a b
    by_days e f (yes g) l = same (λ j. date (e j) (f j) (g j))
    by_days e f (no n) (yes l) = before (by_day e f l)
    by_days e f (no n) (no l) = later (by_day (sym e) (sym f) (omega arith))

    by_months : a.year ≡ b.year → Dec (a.month ≡ b.month) → Dec (a.month < b.month) → Order a b
    by_months e (yes f) l = by_days e f (ℕ_discrete a.day b.day) (dec_lt a.day b.day)
    by_months e (no n) (yes l) = before (by_month e l)
    by_months e (no n) (no l) = later (by_month (sym e) (omega arith))

    by_years : Dec (a.year ≡ b.year) → Dec (a.year < b.year) → Order a b
    by_years (yes e) l = by_months e (ℕ_discrete a.month b.month) (dec_lt a.month b.month)
    by_years (no n) (yes l) = before (by_year l)
    by_years (no n) (no l) = later (by_year (omega arith))

pub one_number : (a b : Date) → real a ≡ true → real b ≡ true → day_number a ≡ day_number b → a ≡ b
one_number a b h g e = by (order a b)
  where
    by : Order a b → a ≡ b
    by (same s) = s
    by (before l) = absurd (omega (arith, earlier_less a b h g l))
    by (later l) = absurd (omega (arith, earlier_less b a g h l))

-- 31 December 2099 is the last day
at_most_last : (a : Date) → real a ≡ true → day_number a ≤ 36524
at_most_last a h = by (real_is a h) (order a (date 2099 12 31))
  where
    none_later : RealDay a → Earlier (date 2099 12 31) a → ⊥
    none_later r (by_year l) = omega (arith, r.to, l)
    none_later r (by_month e l) = omega (arith, r.december, l)
    none_later r (by_day e f l) = omega (arith, r.last, l, ap (days_in (leap a.year)) (sym f) ∙ december (leap a.year))

    by : RealDay a → Order a (date 2099 12 31) → day_number a ≤ 36524
    by r (before e) = omega (arith, last_number, earlier_less a (date 2099 12 31) h last_there e)
    by r (same e) = omega (arith, last_number, ap day_number e)
    by r (later e) = absurd (none_later r e)

-- so it is the only count: whatever gives 1 January 2000 the number 0, and each next day the next number, gives every day of the century this one
module _ (f : Date → ℕ) (from-0 : f (date 2000 1 1) ≡ 0) (by-1 : (a : Date) → real a ≡ true → real (next a) ≡ true → f (next a) ≡ suc (f a)) where
  reached : (n : ℕ) → n ≤ 36524 → (a : Date) × (real a ≡ true) × (day_number a ≡ n) × (f a ≡ n)
  reached zero h = (date 2000 1 1, first_there, first_number, from-0)
  reached (suc n) h =
      let w = reached n (omega arith) in
      let more = next-real w.0 w.1 (λ e. absurd (omega (arith, last_number, ap day_number e, w.2))) in
      (next w.0, more, next-number w.0 w.1 ∙ ap suc w.2, by-1 w.0 w.1 more ∙ ap suc w.3)

  pub only_count : (a : Date) → real a ≡ true → f a ≡ day_number a
  only_count a h =
      let w = reached (day_number a) (at_most_last a h) in
      ap f (one_number a w.0 h w.1 (sym w.2)) ∙ w.3

-- ---- a card

-- the expiry refuses with 24 alone, and exactly where the card has expired
pub left_refuses : (a : Date) (x : Option (List ℕ)) (n : ℕ) → (left_rule a x ≡ refuses n) ↔ ((n ≡ 24) × Expired a x)
unfolding days_rule
left_refuses a None n = (λ e. gives_refuses None n e, λ h. absurd h.1)
left_refuses a (Some t) n = (λ e. there (stopped _ 24 _ n e), back)
  where
    there : First (leb (day_number a) (day_number (last_day t))) 24 n (gives (Some (day_number (last_day t) - day_number a)) ≡ refuses n)
        → (n ≡ 24) × (day_number (last_day t) < day_number a)
    there (inl h) = (h.1, leb-false _ _ h.0)
    there (inr h) = gives_refuses _ n h.1

    back : (n ≡ 24) × (day_number (last_day t) < day_number a) → days_rule a t ≡ refuses n
    back h = stops _ 24 _ (lt-leb _ _ h.1) ∙ ap {B = Outcome (Option ℕ)} refuses (sym h.0)

-- "the days left, counted exactly": the number of the last day of the expiry month is so many more
pub left_exactly : (a : Date) (t : List ℕ) (n : ℕ) → (days_rule a t ≡ gives (Some n)) ↔ (day_number a + n ≡ day_number (last_day t))
unfolding days_rule
left_exactly a t n = (there, back)
  where
    there : days_rule a t ≡ gives (Some n) → day_number a + n ≡ day_number (last_day t)
    there e =
        let p = passed (leb (day_number a) (day_number (last_day t))) 24 (gives (Some (day_number (last_day t) - day_number a))) (Some n) e in
        let l : day_number a ≤ day_number (last_day t) = leb-true _ _ p.0 in
        let m : day_number (last_day t) - day_number a ≡ n = cc p.1 in
        omega arith

    back : day_number a + n ≡ day_number (last_day t) → days_rule a t ≡ gives (Some n)
    back e =
        let m : day_number (last_day t) - day_number a ≡ n = omega arith in
        rw (le-leb (day_number a) (day_number (last_day t)) (omega arith), m)

-- so many days on from a real day, within the century
walked : (a : Date) → real a ≡ true → (n : ℕ) → day_number a + n ≤ 36524 → (real (days_on n a) ≡ true) × (day_number (days_on n a) ≡ day_number a + n)
unfolding days_on
walked a h zero l = (h, omega arith)
walked a h (suc n) l =
    let w = walked a h n (omega arith) in (
      next-real (days_on n a) w.0 (λ e. absurd (omega (arith, last_number, ap day_number e, w.1))),
      next-number (days_on n a) w.0 ∙ omega (arith, w.1),
    )

-- of a card whose expiry is one, on a real day
module _ (a : Date) (t : List ℕ) (h : real a ≡ true) (x : is_expiry t ≡ true) where
  -- so many days on is the last day of the expiry month
  pub days_on_lem : (n : ℕ) → days_rule a t ≡ gives (Some n) → days_on n a ≡ last_day t
  days_on_lem n e =
      let s = (left_exactly a t n).0 e in
      let w = walked a h n (omega (arith, s, at_most_last (last_day t) (last_real t x))) in
      one_number (days_on n a) (last_day t) w.0 (last_real t x) (w.1 ∙ s)

  -- "0 on the last day", and on no other
  pub zero_exactly : (days_rule a t ≡ gives (Some 0)) ↔ (a ≡ last_day t)
  zero_exactly = (
    λ e. one_number a (last_day t) h (last_real t x) (omega (arith, (left_exactly a t 0).0 e)),
    λ e. (left_exactly a t 0).1 (omega (arith, ap day_number e)),
  )

  -- "A card is good through the last day of its expiry month": expired on the days after it, and on no other
  pub expired_exactly : Expired a (Some t) ↔ Earlier (last_day t) a
  expired_exactly = (λ l. there l (order a (last_day t)), earlier_less (last_day t) a (last_real t x) h)
    where
      there : day_number (last_day t) < day_number a → Order a (last_day t) → Earlier (last_day t) a
      there l (later e) = e
      there l (same s) = absurd (omega (arith, l, ap day_number s))
      there l (before e) = absurd (omega (arith, l, earlier_less a (last_day t) h (last_real t x) e))

  -- that is, in the months after it
  pub expired_after : Expired a (Some t) ↔ ((expiry_year t < a.year) ⊎ ((expiry_year t ≡ a.year) × (expiry_month t < a.month)))
  unfolding last_day
  expired_after = (λ l. there (expired_exactly.0 l), λ s. expired_exactly.1 (back s))
    where
      there : Earlier (last_day t) a → (expiry_year t < a.year) ⊎ ((expiry_year t ≡ a.year) × (expiry_month t < a.month))
      there (by_year l) = inl l
      there (by_month e l) = inr (e, l)
      there (by_day e f l) =
          let r = real_is a h in
          let d : days_in (leap (expiry_year t)) (expiry_month t) ≡ month_days a = (λ j. days_in (leap (e j)) (f j)) in
          absurd (omega arith)

      back : (expiry_year t < a.year) ⊎ ((expiry_year t ≡ a.year) × (expiry_month t < a.month)) → Earlier (last_day t) a
      back (inl l) = by_year l
      back (inr p) = by_month p.0 p.1
