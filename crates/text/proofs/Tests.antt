-- Tests on numbers, by cases.
use Prim.Native.Nat.{ℕ, ◌≤◌, ◌<◌}
use mathlib.Core.Path.{◌≡◌, refl}
use mathlib.Core.Bool.{Bool, true, false, ◌&&◌, and-false}
use lib.Dec.{leb}
use borrow.Author.Tests.{le-leb, lt-leb, leb-true}
use Rattle.text.specs.Bytes.{within}

pub under : (lo hi n : ℕ) → n < lo → within lo hi n ≡ false
under lo hi n h = rw (lt-leb lo n h)

pub over : (lo hi n : ℕ) → hi < n → within lo hi n ≡ false
over lo hi n h = rw (lt-leb n hi h) (and-false (leb lo n))

pub inside : (lo hi n : ℕ) → lo ≤ n → n ≤ hi → within lo hi n ≡ true
inside lo hi n h l = rw (le-leb lo n h, le-leb n hi l)

and_left : (a b : Bool) → (a && b) ≡ true → a ≡ true
and_left true b h = refl
and_left false b h = h

and_right : (a b : Bool) → (a && b) ≡ true → b ≡ true
and_right true b h = h
and_right false b h = cc

pub both_true : (a b : Bool) → (a && b) ≡ true → (a ≡ true) × (b ≡ true)
both_true a b h = (and_left a b h, and_right a b h)

pub inside_is : (lo hi n : ℕ) → within lo hi n ≡ true → (lo ≤ n) × (n ≤ hi)
inside_is lo hi n h =
    let p = both_true (leb lo n) (leb n hi) h in
    (leb-true lo n p.0, leb-true n hi p.1)
