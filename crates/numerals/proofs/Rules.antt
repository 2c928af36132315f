-- What a run of digits is understood as, at a turn of its loop and at its end.
use Prim.Native.Nat.{ℕ, ◌+◌, ◌-◌, ◌*◌, ◌≤◌, ◌<◌}
use mathlib.Core.Path.{◌≡◌, sym, ap, ◌∙◌}
use mathlib.Core.Bool.{true}
use mathlib.Core.List.{List}
use native.Mathlib.Omega.{arith}
use lib.Dec.{leb, ltb}
use lib.ListN.{length, get_or, drop}
use borrow.Author.Tests.{le-leb, lt-leb, ltb-true}
use Rattle.text.specs.Numbers.{decimal_after, decimal}
use Rattle.text.proofs.Numbers.{decimal_end}
use Rattle.reasons.specs.Reasons.{gives, refuses, demand}
use Rattle.numerals.proofs.Pairs.{decimal_more, decimal_step}

module _ (s : List ℕ) (v i most : ℕ) (far : decimal_after v (drop i s) ≡ decimal s) where
  -- one digit more is above most, and so is the whole number
  pub digit_over : (d : ℕ) → i < length s → d ≡ get_or s i 0 - 48 → ltb most (10 * v + d) ≡ true
      → refuses 2 ≡ demand (leb (decimal s) most) 2 (gives (decimal s))
  digit_over d h e o =
      let step = decimal_step s v i d (decimal s) h far e in
      let above = ltb-true most (10 * v + d) o in
      rw (lt-leb (decimal s) most (omega (arith, step, above, decimal_more (drop (i + 1) s) (10 * v + d))))

  pub digits_read : length s ≤ i → v ≤ most → gives v ≡ demand (leb (decimal s) most) 2 (gives (decimal s))
  digits_read h k =
      let e = sym (decimal_end s v i h) ∙ far in
      ap gives e ∙ rw (le-leb (decimal s) most (omega (arith, e)))
