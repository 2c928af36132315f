-- A fact of every number below a bound, proved by one test that antt computes.
use Prim.Native.Nat.{ℕ, zero, suc, ◌<◌}
use mathlib.Core.Path.{◌≡◌, sym, subst}
use mathlib.Core.Bool.{Bool, true, false, ◌&&◌}
use native.Mathlib.Omega.{arith}
use native.Mathlib.Nat.{not-suc-le-zero}
use native.Mathlib.Decide.{ℕ_discrete}
use lib.Dec.{T}

first : (a b : Bool) → T (a && b) → T a
first true b t = tt
first false b t = t

second : (a b : Bool) → T (a && b) → T b
second true b t = t
second false b t = absurd t

-- the test passes at each number below the bound
abbrev pub all_below : (ℕ → Bool) → ℕ → Bool
all_below f zero = true
all_below f (suc n) = f n && all_below f n

split : (f : ℕ → Bool) (n k : ℕ) → Dec (k ≡ n) → k < suc n → T (f n) → (k < n → T (f k)) → T (f k)
split f n k (yes e) h t r = subst (λ (m : ℕ). T (f m)) (sym e) t
split f n k (no e) h t r = r (omega arith)

pub below : (f : ℕ → Bool) (n : ℕ) → T (all_below f n) → (k : ℕ) → k < n → T (f k)
below f zero t k h = absurd (not-suc-le-zero h)
below f (suc n) t k h =
    split f n k (ℕ_discrete k n) h (first (f n) (all_below f n) t)
    (λ l. below f n (second (f n) (all_below f n) t) k l)
