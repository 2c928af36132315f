-- An expiry, four digits YYMM, and its last day.
use Prim.Native.Nat.{ℕ, ◌+◌, ◌-◌, ◌≤◌, ◌<◌}
use mathlib.Core.Path.{◌≡◌, ap, ◌∙◌}
use mathlib.Core.Bool.{true}
use mathlib.Core.List.{List, ◌++◌}
use native.Mathlib.Omega.{arith}
use borrow.Author.Tests.{le-leb, lt-leb}
use lib.Dec.{eqb}
use lib.ListN.{length, take, drop, length-drop, take-append-drop}
use lib.Seq.{take_all, length-take-le}
use Rattle.std.proofs.Common.{Some}
use Rattle.text.specs.Bytes.{is_digit, all_digits}
use Rattle.text.specs.Numbers.{decimal}
use Rattle.text.proofs.Every.{every_left, every_right}
use Rattle.text.proofs.Numbers.{decimal_bound}
use Rattle.text.proofs.Tests.{both_true, inside_is}
use Rattle.reasons.specs.Reasons.{gives, refuses}
use Rattle.reasons.proofs.Laws.{passes_on, stops}
use Rattle.layout.specs.Layout.{is_expiry}
use Rattle.layout.proofs.Forms.{expiry_is}
use Rattle.dates.specs.Dates.{date, leap, days_in, real, day_number, expiry_year, expiry_month, last_day, days_rule}
use Rattle.dates.specs.declared.Date.{Date}
use Rattle.dates.proofs.Calendar.{month_there, is_real}

module _ (t : List ℕ) (x : is_expiry t ≡ true) where
  pub four : length t ≡ 4
  four = expiry_is.size t x

  halves : all_digits (take 2 t ++ drop 2 t) ≡ true
  halves = rw (take-append-drop 2 t) (expiry_is.digits t x)

  pub year_digits : all_digits (take 2 t) ≡ true
  year_digits = every_left is_digit (take 2 t) (drop 2 t) halves

  pub month_digits : all_digits (drop 2 t) ≡ true
  month_digits = every_right is_digit (take 2 t) (drop 2 t) halves

  -- the code's part of two bytes
  pub month_part : take 2 (drop 2 t) ≡ drop 2 t
  month_part = take_all 2 (drop 2 t) (omega (arith, length-drop 2 t, four))

  pub year_bound : decimal (take 2 t) < 100
  year_bound = rw (length-take-le 2 t (omega (arith, four))) at (decimal_bound (take 2 t) 0 year_digits)

  pub month_within : (1 ≤ expiry_month t) × (expiry_month t ≤ 12)
  unfolding is_expiry
  month_within = inside_is 1 12 (expiry_month t) (both_true (all_digits t) _ (both_true (eqb (length t) 4) _ x).1).1

  -- the date that the code puts together
  pub last_is : (y m d : ℕ) → y ≡ decimal (take 2 t) → m ≡ decimal (take 2 (drop 2 t)) → d ≡ days_in (leap (2000 + y)) m → date (2000 + y) m d ≡ last_day t
  unfolding last_day
  last_is y m d e f g = let h : m ≡ expiry_month t = f ∙ ap decimal month_part in rw (g, e, h)

  -- the last day is a real one
  pub last_real : real (last_day t) ≡ true
  unfolding last_day
  last_real =
      let m = month_within in
      is_real (last_day t) (record {
        from = omega arith;
        to = omega (arith, year_bound);
        january = m.0;
        december = m.1;
        first = month_there (leap (expiry_year t)) (expiry_month t) m.0 m.1;
        last = omega arith;
      })

-- the days left, by the two numbers
module _ (a : Date) (t : List ℕ) (last today : ℕ) (e : last ≡ day_number (last_day t)) (f : today ≡ day_number a) where
  pub expired : last < today → days_rule a t ≡ refuses 24
  unfolding days_rule
  expired h = stops _ 24 _ (lt-leb (day_number a) (day_number (last_day t)) (omega arith))

  pub left : today ≤ last → days_rule a t ≡ gives (Some (last - today))
  unfolding days_rule
  left h = passes_on _ 24 _ (le-leb (day_number a) (day_number (last_day t)) (omega arith)) ∙ rw (e, f)
