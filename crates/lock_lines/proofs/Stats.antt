-- One turn and the end of the walk over a stat line.
use Prim.Native.Nat.{ℕ, ◌+◌, ◌≤◌, ◌<◌}
use mathlib.Core.Path.{◌≡◌}
use mathlib.Core.List.{List}
use native.Mathlib.Numerals.{add-one}
use lib.ListN.{length, drop, get_or, drop_of_length-le}
use lib.Seq.{drop-cons}
use borrow.Author.Tests.{eq-eqb, ne_eqb}
use Rattle.lock_lines.specs.Stat.{after_last}

module _ (s : List ℕ) (i at : ℕ) where
  -- a `)` makes what follows it the best so far, any other byte leaves it
  pub last_here : (n : ℕ) → i < length s → get_or s i 0 ≡ 41 → n ≡ i + 1 → after_last (drop (i + 1) s) (drop n s) ≡ after_last (drop i s) (drop at s)
  unfolding after_last
  last_here n h e f = rw (f, drop-cons s i 0 h, eq-eqb (get_or s i 0) 41 e, add-one i)

  pub last_other : (n : ℕ) → i < length s → (get_or s i 0 ≡ 41 → ⊥) → n ≡ at → after_last (drop (i + 1) s) (drop n s) ≡ after_last (drop i s) (drop at s)
  unfolding after_last
  last_other n h e f = rw (f, drop-cons s i 0 h, ne_eqb (get_or s i 0) 41 e, add-one i)

  pub last_end : length s ≤ i → drop at s ≡ after_last (drop i s) (drop at s)
  unfolding after_last
  last_end h = rw (drop_of_length-le s h)
