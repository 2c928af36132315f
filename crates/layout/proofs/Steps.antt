-- The fields one by one: what the functions find is what the definitions say.
use Prim.Native.Nat.{ℕ, ◌+◌, ◌-◌, ◌≤◌, ◌<◌}
use mathlib.Core.Path.{◌≡◌, refl, ap}
use mathlib.Core.Bool.{Bool, true, ◌&&◌}
use mathlib.Core.List.{List, [], ◌∷◌}
use native.Mathlib.Omega.{arith}
use lib.ListN.{length, get_or, take, drop, length-drop, take-append-drop}
use lib.Seq.{take_all}
use borrow.Author.Tests.{eq-eqb, ne_eqb}
use Rattle.std.proofs.Common.{None, Some}
use Rattle.std.specs.List.{list_all}
use Rattle.text.specs.Bytes.{is_digit, every, all_digits}
use Rattle.text.proofs.Every.{every_right}
use Rattle.text.proofs.Tests.{under, over, inside}
use Rattle.reasons.specs.Reasons.{gives, refuses, demand}
use Rattle.layout.specs.Layout.{mark, allowed, lead, field_rule, rest_rule, expiry_rule, layout_rule}
use Rattle.layout.specs.declared.Fields.{Fields}
use Rattle.layout.specs.declared.Track.{Track}
use Rattle.layout.specs.declared.Track.TheVariants.{Two}

-- every byte passes
pub all_every : (f : ℕ → Bool) (s : List ℕ) → list_all f s ≡ every f s
unfolding every
all_every f [] = refl
all_every f (b ∷ s) = ap (λ (x : Bool). f b && x) (all_every f s)

-- the month of an expiry, as the code reads it
pub month_part : (t : List ℕ) → take (length t - 2) (drop 2 t) ≡ drop 2 t
month_part t = take_all (length t - 2) (drop 2 t) (rw length-drop (omega arith))

pub month_digits : (t : List ℕ) → all_digits t ≡ true → all_digits (drop 2 t) ≡ true
month_digits t d = every_right is_digit (take 2 t) (drop 2 t) (rw (take-append-drop 2 t) d)

-- what is due at a place
module _ (k : Track) (test : List ℕ → Bool) (n : ℕ) (s : List ℕ) (q : ℕ) where
  pub field_missing : get_or s q 0 ≡ mark k → gives None ≡ field_rule k test n s q
  unfolding field_rule
  field_missing e = rw (eq-eqb (get_or s q 0) (mark k) e)

  pub field_there : (get_or s q 0 ≡ mark k → ⊥) → (b : Bool) → test (take n (drop q s)) ≡ b → demand b 6 (gives (Some q)) ≡ field_rule k test n s q
  unfolding field_rule
  field_there e b t = rw (ne_eqb (get_or s q 0) (mark k) e, t)

-- the division, from its end back to its start
pub rest_tested : (k : Track) (s : List ℕ) (d : Fields) (b : Bool) → every (allowed k) (take (length s) (drop d.rest s)) ≡ b
    → demand b 6 (gives d) ≡ rest_rule k s d
unfolding rest_rule
rest_tested k s d b e = rw (← take_all (length s) (drop d.rest s) (rw length-drop (omega arith)), e)

module _ (s : List ℕ) (p : ℕ) (is-lead : p ≡ lead s) where
  pub few : p < 13 → refuses 6 ≡ layout_rule s
  unfolding layout_rule
  few h = rw (← is-lead, under 13 19 p h)

  pub many : 19 < p → refuses 6 ≡ layout_rule s
  unfolding layout_rule
  many h = rw (← is-lead, over 13 19 p h)

  module _ (h : 13 ≤ p) (l : p ≤ 19) where
    pub unmarked : (get_or s p 0 ≡ 61 → ⊥) → refuses 6 ≡ layout_rule s
    unfolding layout_rule
    unmarked e = rw (← is-lead, inside 13 19 p h l, ne_eqb (get_or s p 0) 61 e)

    pub marked : get_or s p 0 ≡ 61 → expiry_rule Two s p (p + 1) ≡ layout_rule s
    unfolding layout_rule
    marked e = rw (← is-lead, inside 13 19 p h l, eq-eqb (get_or s p 0) 61 e)
