-- How many characters a reading either way round gives: they fit the output.
use mathlib.Core.Path.{◌≡◌, refl, sym, ap}
use mathlib.Core.List.{List, reverse}
use mathlib.Core.Bool.{Bool, cond}
use Prim.Native.Nat.{ℕ, ◌+◌, ◌≤◌}
use native.Mathlib.Omega.{arith}
use lib.ListN.{length}
use lib.Dec.{eqb}
use Rattle.reasons.specs.Reasons.{Outcome, gives, refuses}
use Rattle.reasons.proofs.Laws.{gives_refuses}
use Rattle.chars.specs.Reading.{Format, read_one}
use Rattle.chars.proofs.Lengths.{one_length}
use Rattle.bits.specs.Reading.{Track, forward_of, reversed_of, choose, read_either}

of_two : (o p : Outcome (List ℕ)) (t : Track) (m : ℕ) → ((a : List ℕ) → o ≡ gives a → length a + 2 ≤ m) → ((a : List ℕ) → p ≡ gives a → length a + 2 ≤ m)
    → choose o p ≡ gives t → length t.chars + 2 ≤ m
of_two (gives a) p t m h k e = let z : forward_of a ≡ t = cc in omega (arith, h a refl, ap (λ (x : Track). length x.chars) z)
of_two (refuses n) (gives a) t m h k e = let z : reversed_of a ≡ t = cc in omega (arith, k a refl, ap (λ (x : Track). length x.chars) z)
of_two (refuses n) (refuses j) t m h k e = gives_refuses t (cond (eqb n 8) j n) (sym e)

pub either_length : (f : Format) (s : List Bool) (t : Track) → read_either f s ≡ gives t → length t.chars + 2 ≤ f.limit
unfolding read_either
either_length f s t e = of_two (read_one f s) (read_one f (reverse s)) t f.limit (one_length f s) (one_length f (reverse s)) e
