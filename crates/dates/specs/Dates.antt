-- Dates from 2000 to 2099, and the days that a card has left on one (request E7).
use Rattle.std.specs.Prelude.{ℕ, zero, suc, ◌+◌, ◌-◌, ◌%◌, Bool, ◌&&◌, ◌||◌, not, cond, Option, None, Some, List, [], ◌∷◌, leb, eqb, get_or, take, drop}
use Rattle.text.specs.Bytes.{within}
use Rattle.text.specs.Numbers.{decimal}
use Rattle.reasons.specs.Reasons.{Outcome, gives, demand}
use Rattle.dates.specs.declared.Date.{Date}

-- ---- "The host sends a date as year 2000 to 2099, month and day"

abbrev pub date : ℕ → ℕ → ℕ → Date
date y m d = record { year = y; month = m; day = d }

-- every fourth year is a leap year, but of those that end in 00 only every fourth
unfoldable pub leap : ℕ → Bool
leap y = eqb (y % 4) 0 && (not (eqb (y % 100) 0) || eqb (y % 400) 0)

-- the days of the months, from January as 1 on, "with February in leap years"; there is no month 0, and none after the twelfth
abbrev pub months : Bool → List ℕ
months b = 0 ∷ 31 ∷ cond b 29 28 ∷ 31 ∷ 30 ∷ 31 ∷ 30 ∷ 31 ∷ 31 ∷ 30 ∷ 31 ∷ 30 ∷ 31 ∷ []

-- the days of a month, of a leap year or another
unfoldable pub days_in : Bool → ℕ → ℕ
days_in b m = get_or (months b) m 0

-- the days of a date's month
abbrev pub month_days : Date → ℕ
month_days a = days_in (leap a.year) a.month

-- a real day of those years
unfoldable pub real : Date → Bool
real a = within 2000 2099 a.year && within 1 (month_days a) a.day

-- 23 for a date "outside those years, or no real day"
unfoldable pub date_rule : Date → Outcome (Unit {0})
date_rule a = demand (real a) 23 (gives tt)

-- ---- "the days left, counted exactly"

-- the sum of f over the numbers below n
unfoldable pub sum_below : (ℕ → ℕ) → ℕ → ℕ
sum_below f zero = 0
sum_below f (suc n) = sum_below f n + f n

-- the days of a year's months before one, and of the whole year
abbrev pub months_before : Bool → ℕ → ℕ
months_before b m = sum_below (days_in b) m

abbrev pub year_length : ℕ → ℕ
year_length y = months_before (leap y) 13

-- the days of the n years from 2000 on
abbrev pub years_from2000 : ℕ → ℕ
years_from2000 n = sum_below (λ k. year_length (2000 + k)) n

-- the days from 1 January 2000 to a day
unfoldable pub day_number : Date → ℕ
day_number a = years_from2000 (a.year - 2000) + months_before (leap a.year) a.month + (a.day - 1)

-- of an expiry YYMM: "YY means 20YY"
abbrev pub expiry_year : List ℕ → ℕ
expiry_year t = 2000 + decimal (take 2 t)

abbrev pub expiry_month : List ℕ → ℕ
expiry_month t = decimal (drop 2 t)

-- "A card is good through the last day of its expiry month"
unfoldable pub last_day : List ℕ → Date
last_day t = date (expiry_year t) (expiry_month t) (days_in (leap (expiry_year t)) (expiry_month t))

-- "0 on the last day"; after it the card has expired: 24
unfoldable pub days_rule : Date → List ℕ → Outcome (Option ℕ)
days_rule a t = demand (leb (day_number a) (day_number (last_day t))) 24 (gives (Some (day_number (last_day t) - day_number a)))

-- "A card with no expiry isn't refused for it", and "gets an answer of its own, no number"
abbrev pub left_rule : Date → Option (List ℕ) → Outcome (Option ℕ)
left_rule a None = gives None
left_rule a (Some t) = days_rule a t
