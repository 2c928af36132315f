-- The division of track 1's characters, test by test.
use Prim.Native.Nat.{ℕ, ◌+◌, ◌≤◌, ◌<◌}
use mathlib.Core.Path.{◌≡◌}
use mathlib.Core.List.{List}
use native.Mathlib.Omega.{arith}
use lib.ListN.{length, get_or, take, drop, length-drop}
use lib.Seq.{take_all}
use borrow.Author.Tests.{eq-eqb, ne_eqb}
use Rattle.text.proofs.Tests.{under, over, inside}
use Rattle.reasons.specs.Reasons.{refuses}
use Rattle.layout.specs.Layout.{lead}
use Rattle.layout1.specs.Layout1.{name_length, fields_rule, name_rule, layout1_rule}

-- a piece that is as long as the text is the rest of it
pub rest_of : (s : List ℕ) (q : ℕ) → take (length s) (drop q s) ≡ drop q s
rest_of s q = take_all (length s) (drop q s) (rw length-drop (omega arith))

module _ (s : List ℕ) where
  -- ---- the format code and the PAN

  pub no_code : (get_or s 0 0 ≡ 66 → ⊥) → refuses 6 ≡ layout1_rule s
  unfolding layout1_rule
  no_code h = rw (ne_eqb (get_or s 0 0) 66 h)

  module _ (code : get_or s 0 0 ≡ 66) (p : ℕ) (is : p ≡ lead (drop 1 s)) where
    pub few : p < 13 → refuses 6 ≡ layout1_rule s
    unfolding layout1_rule
    few h = rw (eq-eqb (get_or s 0 0) 66 code, ← is, under 13 19 p h)

    pub many : 19 < p → refuses 6 ≡ layout1_rule s
    unfolding layout1_rule
    many h = rw (eq-eqb (get_or s 0 0) 66 code, ← is, over 13 19 p h)

    module _ (h : 13 ≤ p) (l : p ≤ 19) where
      pub unmarked : (get_or s (p + 1) 0 ≡ 94 → ⊥) → refuses 6 ≡ layout1_rule s
      unfolding layout1_rule
      unmarked e = rw (eq-eqb (get_or s 0 0) 66 code, ← is, inside 13 19 p h l, ne_eqb (get_or s (p + 1) 0) 94 e)

      pub marked : get_or s (p + 1) 0 ≡ 94 → name_rule s p ≡ layout1_rule s
      unfolding layout1_rule
      marked e = rw (eq-eqb (get_or s 0 0) 66 code, ← is, inside 13 19 p h l, eq-eqb (get_or s (p + 1) 0) 94 e)

  -- ---- the name

  module _ (p n : ℕ) (is : n ≡ name_length s p) where
    pub short_name : n < 2 → refuses 6 ≡ name_rule s p
    unfolding name_rule
    short_name h = rw (← is, under 2 26 n h)

    pub long_name : 26 < n → refuses 6 ≡ name_rule s p
    unfolding name_rule
    long_name h = rw (← is, over 2 26 n h)

    module _ (h : 2 ≤ n) (l : n ≤ 26) where
      pub open_name : (get_or s (p + n + 2) 0 ≡ 94 → ⊥) → refuses 6 ≡ name_rule s p
      unfolding name_rule
      open_name e = rw (← is, inside 2 26 n h l, ne_eqb (get_or s (p + n + 2) 0) 94 e)

      pub named : get_or s (p + n + 2) 0 ≡ 94 → fields_rule s p n ≡ name_rule s p
      unfolding name_rule
      named e = rw (← is, inside 2 26 n h l, eq-eqb (get_or s (p + n + 2) 0) 94 e)
