-- Lists that rise: the check's turns, what rising says of two places, and where a number stands.
use Prim.Native.Nat.{ℕ, zero, suc, ◌+◌, ◌-◌, ◌≤◌, ◌<◌}
use mathlib.Core.Path.{◌≡◌, refl, sym, ap, ◌∙◌}
use mathlib.Core.Bool.{Bool, true, false, ◌&&◌, and-true, and_assoc, or-true}
use mathlib.Core.List.{List, [], ◌∷◌}
use native.Mathlib.Omega.{arith}
use native.Mathlib.Decide.{ℕ_discrete}
use lib.Dec.{ltb, eqb}
use lib.ListN.{length, get_or, drop, drop_of_length-le}
use lib.Seq.{drop-cons}
use borrow.Author.Tests.{ltb-true, eq-eqb, ne_eqb}
use Rattle.text.specs.Bytes.{every}
use Rattle.text.proofs.Tests.{both_true}
use Rattle.hotlist.specs.Hotlist.{rises, stands}

-- one number more
rises_more : (s : List ℕ) (k : ℕ) → suc k < length s → rises (drop k s) ≡ (ltb (get_or s k 0) (get_or s (suc k) 0) && rises (drop (suc k) s))
unfolding rises
rises_more s k h = let l : k < length s = omega arith in rw (drop-cons s k 0 l, drop-cons s (suc k) 0 h)

-- one turn of the check's loop, `rising` being what the numbers before i said; and its end
pub rises_turn : (s : List ℕ) (i : ℕ) (rising all : Bool) → 1 ≤ i → i < length s → (rising && rises (drop (i - 1) s)) ≡ all
    → ((rising && ltb (get_or s (i - 1) 0) (get_or s i 0)) && rises (drop (i + 1 - 1) s)) ≡ all
rises_turn s i rising all l h e =
    let n : i + 1 - 1 ≡ i = omega arith in
    let m : suc (i - 1) ≡ i = omega arith in
    and_assoc rising (ltb (get_or s (i - 1) 0) (get_or s i 0)) (rises (drop (i + 1 - 1) s))
    ∙ ap (λ (b : Bool). rising && b)
    (ap (λ (k : ℕ). ltb (get_or s (i - 1) 0) (get_or s i 0) && rises (drop k s)) n ∙ sym (rw m at (rises_more s (i - 1) (omega arith))))
    ∙ e

rises_end : (s : List ℕ) (k : ℕ) → length s ≤ suc k → rises (drop k s) ≡ true
unfolding rises
rises_end s k h = by (ℕ_discrete (length s) (suc k))
  where
    by : Dec (length s ≡ suc k) → rises (drop k s) ≡ true
    by (yes e) = let l : k < length s = omega arith in rw (drop-cons s k 0 l, drop_of_length-le s h)
    by (no n) = let l : length s ≤ k = omega arith in rw (drop_of_length-le s l)

pub rises_done : (s : List ℕ) (i : ℕ) (rising all : Bool) → 1 ≤ i → length s ≤ i → (rising && rises (drop (i - 1) s)) ≡ all → rising ≡ all
rises_done s i rising all l h e = sym (ap (λ (b : Bool). rising && b) (rises_end s (i - 1) (omega arith)) ∙ and-true rising) ∙ e

-- a list that rises: the later number is the larger
rises_next : (s : List ℕ) (k : ℕ) → rises s ≡ true → suc k < length s → get_or s k 0 < get_or s (suc k) 0
unfolding rises
rises_next [] k h l = absurd (omega arith)
rises_next (x ∷ []) k h l = absurd (omega arith)
rises_next (x ∷ y ∷ s) zero h l = ltb-true x y (both_true (ltb x y) (rises (y ∷ s)) h).0
rises_next (x ∷ y ∷ s) (suc k) h l = rises_next (y ∷ s) k (both_true (ltb x y) (rises (y ∷ s)) h).1 (omega arith)

pub rises_at : (s : List ℕ) (i j : ℕ) → rises s ≡ true → i < j → j < length s → get_or s i 0 < get_or s j 0
rises_at s i zero h l g = absurd (omega arith)
rises_at s i (suc j) h l g = by (ℕ_discrete i j) (rises_at s i j h)
  where
    by : Dec (i ≡ j) → (i < j → j < length s → get_or s i 0 < get_or s j 0) → get_or s i 0 < get_or s (suc j) 0
    by (yes e) before = rw e (rises_next s j h g)
    by (no n) before = omega (arith, before (omega arith) (omega arith), rises_next s j h g)

pub rises_up_to : (s : List ℕ) (i j : ℕ) → rises s ≡ true → i ≤ j → j < length s → get_or s i 0 ≤ get_or s j 0
rises_up_to s i j h l g = by (ℕ_discrete i j)
  where
    by : Dec (i ≡ j) → get_or s i 0 ≤ get_or s j 0
    by (yes e) = rw e (omega arith)
    by (no n) = omega (arith, rises_at s i j h (omega arith) g)

-- every number passes a test that passes at each place
pub every_if : (f : ℕ → Bool) (s : List ℕ) → ((i : ℕ) → i < length s → f (get_or s i 0) ≡ true) → every f s ≡ true
unfolding every
every_if f [] h = refl
every_if f (x ∷ s) h = let t : f x ≡ true = h 0 (omega arith) in rw t (every_if f s (λ i l. h (suc i) (omega arith)))

-- a number stands in a list exactly where it has a place there
pub stands_at : (x : ℕ) (s : List ℕ) (i : ℕ) → i < length s → get_or s i 0 ≡ x → stands x s ≡ true
unfolding stands
stands_at x [] i l e = absurd (omega arith)
stands_at x (y ∷ s) zero l e = rw (eq-eqb x y (sym e))
stands_at x (y ∷ s) (suc i) l e = rw (stands_at x s i (omega arith) e) (or-true (eqb x y))

pub stands-not : (x : ℕ) (s : List ℕ) → ((i : ℕ) → i < length s → get_or s i 0 ≡ x → ⊥) → stands x s ≡ false
unfolding stands
stands-not x [] n = refl
stands-not x (y ∷ s) n = rw (ne_eqb x y (λ e. n 0 (omega arith) (sym e)), stands-not x s (λ i l e. n (suc i) (omega arith) e))

pub stands_where : (x : ℕ) (s : List ℕ) → stands x s ≡ true → (i : ℕ) × (i < length s) × (get_or s i 0 ≡ x)
unfolding stands
stands_where x [] h = let z : ◌≡◌ {A = ℕ} 0 1 = cc in absurd (omega arith)
stands_where x (y ∷ s) h = by (ℕ_discrete x y) (stands_where x s)
  where
    by : Dec (x ≡ y) → (stands x s ≡ true → (i : ℕ) × (i < length s) × (get_or s i 0 ≡ x)) → (i : ℕ) × (i < suc (length s)) × (get_or (y ∷ s) i 0 ≡ x)
    by (yes e) later = (0, omega arith, sym e)
    by (no n) later = let t : stands x s ≡ true = rw (ne_eqb x y n) at h in let p = later t in (suc p.0, omega (arith, p.1), p.2)
