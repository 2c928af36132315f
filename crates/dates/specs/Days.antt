-- The day after a day, and which of two days is the earlier: what the count of days is held against. And when a card has expired.
use Rattle.std.specs.Prelude.{ℕ, zero, suc, ◌<◌, ◌≡◌, Bool, true, false, Option, None, Some, List, ltb}
use Rattle.dates.specs.Dates.{date, month_days, day_number, last_day}
use Rattle.dates.specs.declared.Date.{Date}

-- the day after a day: in its month, in the next month, or in the next year
abbrev pub next_by : Bool → Bool → Date → Date
next_by true more a = date a.year a.month (suc a.day)
next_by false true a = date a.year (suc a.month) 1
next_by false false a = date (suc a.year) 1 1

abbrev pub next : Date → Date
next a = next_by (ltb a.day (month_days a)) (ltb a.month 12) a

-- so many days on
unfoldable pub days_on : ℕ → Date → Date
days_on zero a = a
days_on (suc n) a = next (days_on n a)

-- a day is earlier than another by its year, else by its month, else by its day
pub data Earlier (a b : Date) : Type 0 where
  by_year : a.year < b.year → Earlier a b
  by_month : a.year ≡ b.year → a.month < b.month → Earlier a b
  by_day : a.year ≡ b.year → a.month ≡ b.month → a.day < b.day → Earlier a b

-- a card has expired on a day whose number is above that of its last day; one without an expiry never has
abbrev pub Expired : Date → Option (List ℕ) → Type 0
Expired a None = ⊥
Expired a (Some t) = day_number (last_day t) < day_number a
