-- The calendar of the years 2000 to 2099, as the code counts it.
use Prim.Native.Nat.{ℕ, zero, suc, ◌+◌, ◌-◌, ◌*◌, ◌/◌, ◌%◌, ◌≤◌, ◌<◌}
use mathlib.Core.Path.{◌≡◌, refl, ap, ◌∙◌}
use mathlib.Core.Bool.{Bool, true, false, cond, and-false}
use mathlib.Core.Logic.{inl, inr}
use mathlib.Core.List.{[], ◌∷◌}
use native.Mathlib.Omega.{arith}
use native.Mathlib.Decide.{ℕ_discrete, dec_le}
use native.Mathlib.Numerals.{add-one}
use lib.Dec.{T, leb, leb→le}
use lib.ListN.{get_or-eq_default}
use borrow.Author.Tests.{eq-eqb, ne_eqb, le-leb}
use types.Run.{OneOf}
use Rattle.text.specs.Bytes.{within}
use Rattle.text.proofs.Below.{all_below, below}
use Rattle.text.proofs.Tests.{under, inside, both_true, inside_is}
use Rattle.reasons.specs.Reasons.{gives, refuses}
use Rattle.dates.specs.Dates.{leap, months, days_in, month_days, real, date_rule}
use Rattle.dates.specs.Dates.{sum_below, months_before, year_length, years_from2000, day_number}
use Rattle.dates.specs.declared.Date.{Date}

-- a sum grows with its count
pub sum_grows : (f : ℕ → ℕ) (m n : ℕ) → m ≤ n → sum_below f m ≤ sum_below f n
unfolding sum_below
sum_grows f zero n h = omega arith
sum_grows f (suc m) zero h = absurd (omega arith)
sum_grows f (suc m) (suc n) h = step (ℕ_discrete m n) (sum_grows f (suc m) n)
  where
    step : Dec (m ≡ n) → (suc m ≤ n → sum_below f m + f m ≤ sum_below f n) → sum_below f m + f m ≤ sum_below f n + f n
    step (yes e) further = rw e (omega arith)
    step (no ne) further = omega (arith, further (omega arith))

-- ---- leap years

-- in these years every fourth is one
module _ (y : ℕ) (from : 2000 ≤ y) (to : y ≤ 2099) where
  pub leap_fourth : y % 4 ≡ 0 → leap y ≡ true
  unfolding leap
  leap_fourth e = by (ℕ_discrete (y % 100) 0)
    where
      by : Dec (y % 100 ≡ 0) → leap y ≡ true
      by (yes h) = let f : y % 400 ≡ 0 = omega arith in rw (eq-eqb (y % 4) 0 e, eq-eqb (y % 100) 0 h, eq-eqb (y % 400) 0 f)
      by (no h) = rw (eq-eqb (y % 4) 0 e, ne_eqb (y % 100) 0 h)

  pub leap_else : (y % 4 ≡ 0 → ⊥) → leap y ≡ false
  unfolding leap
  leap_else ne = rw (ne_eqb (y % 4) 0 ne)

-- ---- the months as the code matches them

module _ (b : Bool) (m : ℕ) where
  pub thirty_one : OneOf (1 ∷ 3 ∷ 5 ∷ 10 ∷ 12 ∷ []) m → 31 ≡ days_in b m
  unfolding days_in
  thirty_one (inl e) = rw e
  thirty_one (inr (inl e)) = rw e
  thirty_one (inr (inr (inl e))) = rw e
  thirty_one (inr (inr (inr (inl e)))) = rw e
  thirty_one (inr (inr (inr (inr e)))) = rw e

  pub thirty : OneOf (4 ∷ 6 ∷ 9 ∷ 11 ∷ []) m → 30 ≡ days_in b m
  unfolding days_in
  thirty (inl e) = rw e
  thirty (inr (inl e)) = rw e
  thirty (inr (inr (inl e))) = rw e
  thirty (inr (inr (inr e))) = rw e

  pub second : (c : Bool) → b ≡ c → m ≡ 2 → cond c 29 28 ≡ days_in b m
  unfolding days_in
  second c e f = rw (f, e)

  -- there is no month 0, and none after the twelfth
  pub before_first : m < 1 → days_in b m ≡ 0
  unfolding days_in
  before_first h = let e : m ≡ 0 = omega arith in rw e

  after_last : 12 < m → days_in b m ≡ 0
  unfolding days_in
  after_last h = get_or-eq_default (months b) 0 {n = m} h

  -- and where no single number is met: 7 and 8, which the compiler joins to a range, or no month
  module _ (k : OneOf (1 ∷ 3 ∷ 5 ∷ 10 ∷ 12 ∷ []) m → ⊥) (l : OneOf (4 ∷ 6 ∷ 9 ∷ 11 ∷ []) m → ⊥) (f : m ≡ 2 → ⊥) where
    from_seven : 1 ≤ m → 7 ≤ m
    from_seven h =
        let n1 : m ≡ 1 → ⊥ = λ e. k (inl e) in
        let n3 : m ≡ 3 → ⊥ = λ e. k (inr (inl e)) in
        let n5 : m ≡ 5 → ⊥ = λ e. k (inr (inr (inl e))) in
        let n4 : m ≡ 4 → ⊥ = λ e. l (inl e) in
        let n6 : m ≡ 6 → ⊥ = λ e. l (inr (inl e)) in
        omega arith

    pub seven_eight : 1 ≤ m → m < 9 → 31 ≡ days_in b m
    unfolding days_in
    seven_eight h g = which (ℕ_discrete m 7) (from_seven h)
      where
        which : Dec (m ≡ 7) → 7 ≤ m → 31 ≡ days_in b m
        which (yes e) s = rw e
        which (no ne) s = let e : m ≡ 8 = omega arith in rw e

    pub no_month : 9 ≤ m → days_in b m ≡ 0
    no_month h =
        let n9 : m ≡ 9 → ⊥ = λ e. l (inr (inr (inl e))) in
        let n10 : m ≡ 10 → ⊥ = λ e. k (inr (inr (inr (inl e)))) in
        let n11 : m ≡ 11 → ⊥ = λ e. l (inr (inr (inr e))) in
        let n12 : m ≡ 12 → ⊥ = λ e. k (inr (inr (inr (inr e)))) in
        after_last (omega arith)

-- a month that is there has days
days_there : (b : Bool) (m : ℕ) → m < 12 → 1 ≤ days_in b (suc m)
unfolding days_in
days_there b m l = leb→le _ _ (below (λ k. leb 1 (days_in b (suc k))) 12 (all b) m l)
  where
    all : (b : Bool) → T (all_below (λ k. leb 1 (days_in b (suc k))) 12)
    all true = tt
    all false = tt

pub month_there : (b : Bool) (m : ℕ) → 1 ≤ m → m ≤ 12 → 1 ≤ days_in b m
month_there b zero h l = absurd (omega arith)
month_there b (suc m) h l = days_there b m (omega arith)

-- none is before January, and no month more than a year's
pub none_yet : (b : Bool) → 0 ≡ months_before b 1
unfolding sum_below days_in
none_yet b = refl

pub months_bound : (b : Bool) (m : ℕ) → m ≤ 13 → months_before b m ≤ 366
unfolding sum_below days_in
months_bound true m h = sum_grows (days_in true) m 13 h
months_bound false m h = omega (arith, sum_grows (days_in false) m 13 h)

-- one turn of the loop: a month more
pub month_bound : (b : Bool) (m : ℕ) → m ≤ 12 → months_before b m + days_in b m ≤ 366
unfolding sum_below
month_bound b m h = months_bound b (suc m) (omega arith)

pub month_turn : (b : Bool) (m s d : ℕ) → s ≡ months_before b m → d ≡ days_in b m → s + d ≡ months_before b (m + 1)
unfolding sum_below
month_turn b m s d e f = rw (e, f, add-one m)

-- ---- the years as the code counts them

-- a year has 365 days, and 366 in leap years
year_length_lem : (b : Bool) → months_before b 13 ≡ cond b 366 365
unfolding sum_below days_in
year_length_lem true = refl
year_length_lem false = refl

years_count : (n : ℕ) → n ≤ 100 → years_from2000 n ≡ 365 * n + (n + 3) / 4
unfolding sum_below
years_count zero h = refl
years_count (suc n) h = step (ℕ_discrete ((2000 + n) % 4) 0) (years_count n (omega arith))
  where
    long : (b : Bool) → leap (2000 + n) ≡ b → year_length (2000 + n) ≡ cond b 366 365
    long b e = ap (λ (c : Bool). months_before c 13) e ∙ year_length_lem b

    step : Dec ((2000 + n) % 4 ≡ 0) → years_from2000 n ≡ 365 * n + (n + 3) / 4 → years_from2000 (suc n) ≡ 365 * suc n + (suc n + 3) / 4
    step (yes e) i = omega (arith, long true (leap_fourth (2000 + n) (omega arith) (omega arith) e))
    step (no ne) i = omega (arith, long false (leap_else (2000 + n) (omega arith) (omega arith) ne))

-- ---- a date, test by test

module _ (a : Date) where
  pub no_year : within 2000 2099 a.year ≡ false → real a ≡ false
  unfolding real
  no_year h = rw h

  pub no_day : a.day < 1 → real a ≡ false
  unfolding real
  no_day h = rw (under 1 (month_days a) a.day h, and-false (within 2000 2099 a.year))

  pub to_the_last : (n : ℕ) → within 2000 2099 a.year ≡ true → 1 ≤ a.day → n ≡ month_days a → leb a.day n ≡ real a
  unfolding real
  to_the_last n h l e = rw (h, le-leb 1 a.day l, e)

  pub real_passes : real a ≡ true → date_rule a ≡ gives tt
  unfolding date_rule
  real_passes h = rw h

  pub else_23 : real a ≡ false → date_rule a ≡ refuses 23
  unfolding date_rule
  else_23 h = rw h

-- what a real day is
pub record RealDay (a : Date) : Type 0 where
  pub from : 2000 ≤ a.year
  pub to : a.year ≤ 2099
  pub january : 1 ≤ a.month
  pub december : a.month ≤ 12
  pub first : 1 ≤ a.day
  pub last : a.day ≤ month_days a

-- a month that has a day is there
month_from : (b : Bool) (m : ℕ) → 1 ≤ days_in b m → Dec (1 ≤ m) → 1 ≤ m
month_from b m h (yes l) = l
month_from b m h (no n) = absurd (omega (arith, before_first b m (omega arith)))

month_to : (b : Bool) (m : ℕ) → 1 ≤ days_in b m → Dec (m ≤ 12) → m ≤ 12
month_to b m h (yes l) = l
month_to b m h (no n) = absurd (omega (arith, after_last b m (omega arith)))

pub real_is : (a : Date) → real a ≡ true → RealDay a
unfolding real
real_is a h =
    let p = both_true (within 2000 2099 a.year) (within 1 (month_days a) a.day) h in
    let y = inside_is 2000 2099 a.year p.0 in
    let d = inside_is 1 (month_days a) a.day p.1 in
    let some : 1 ≤ month_days a = omega arith in
    record {
      from = y.0;
      to = y.1;
      january = month_from (leap a.year) a.month some (dec_le 1 a.month);
      december = month_to (leap a.year) a.month some (dec_le a.month 12);
      first = d.0;
      last = d.1;
    }

pub is_real : (a : Date) → RealDay a → real a ≡ true
unfolding real
is_real a r = rw (inside 2000 2099 a.year r.from r.to, inside 1 (month_days a) a.day r.first r.last)

-- a real day's number as the code counts it, b being the days of the months before; it is small
module _ (a : Date) (r : RealDay a) (b : ℕ) (is : b ≡ months_before (leap a.year) a.month) where
  pub day_count : 365 * (a.year - 2000) + (a.year - 2000 + 3) / 4 + b + (a.day - 1) ≡ day_number a
  unfolding day_number
  day_count = rw (is, years_count (a.year - 2000) (omega (arith, r.to)))

  pub few_before : b + a.day ≤ 366
  few_before = omega (arith, r.last, month_bound (leap a.year) a.month r.december)
