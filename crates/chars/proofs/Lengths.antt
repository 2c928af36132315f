-- How many characters a reading one way gives: they fit the output.
use mathlib.Core.Path.{◌≡◌, sym, ap}
use mathlib.Core.Bool.{Bool, true, false, cond}
use mathlib.Core.List.{List, [], ◌∷◌, ◌++◌}
use Prim.Native.Nat.{ℕ, zero, suc, ◌+◌, ◌-◌, ◌≤◌}
use native.Mathlib.Omega.{arith}
use lib.ListN.{length, drop, length-append}
use lib.Dec.{eqb}
use Rattle.reasons.specs.Reasons.{Outcome, gives}
use Rattle.reasons.proofs.Laws.{gives_refuses, passed, went_on}
use Rattle.chars.specs.Reading.{Letters, Format, next, all_zero, finish, body, read_one}
use Rattle.chars.proofs.Flips.{body_there}

finish_gives : (d x : ℕ) (out : List ℕ) (s : List Bool) (a : List ℕ) → finish d x out s ≡ gives a → out ≡ a
unfolding finish
finish_gives d x out s a e =
    let w = went_on (next d s) _ a e in
    let p = passed (eqb w.0 x) 12 _ a w.2 in
    let q : gives out ≡ gives a = (passed (all_zero (drop (suc d) s)) 13 _ a p.1).1 in
    cc

one_of : (t : Bool) (o p : Outcome (List ℕ)) (a : List ℕ) (n : ℕ) → (o ≡ gives a → length a + 1 ≤ n) → (p ≡ gives a → length a + 1 ≤ n)
    → cond t o p ≡ gives a → length a + 1 ≤ n
one_of true o p a n h k e = h e
one_of false o p a n h k e = k e

body-length : (l : Letters) (k x : ℕ) (out : List ℕ) (s : List Bool) (a : List ℕ) → body l k x out s ≡ gives a → length a + 1 ≤ length out + k
unfolding body
body-length l zero x out s a e = gives_refuses a 11 (sym e)
body-length l (suc k) x out s a e =
    let w = went_on (next l.data_bits s) _ a e in
    one_of (eqb w.0 l.end_number) _ _ a (length out + suc k)
    (λ f. omega (arith, ap length (finish_gives _ _ out _ a f)))
    (λ f. omega (arith, simp length-append at (body-length l k _ (out ++ ((l.base + w.0) ∷ [])) _ a f)))
    w.2

pub one_length : (f : Format) (s : List Bool) (a : List ℕ) → read_one f s ≡ gives a → length a + 2 ≤ f.limit
one_length f s a e = omega (arith, body-length f.letters (f.limit - 1) _ [] _ a (body_there f s a e))
