-- The list's check by its last number, and what a list that passed is.
use Prim.Native.Nat.{ℕ, ◌-◌, ◌^◌, ◌≤◌, ◌<◌}
use mathlib.Core.Path.{◌≡◌, refl, sym, ◌∙◌}
use mathlib.Core.Bool.{Bool, true, false, ◌&&◌}
use mathlib.Core.List.{List}
use native.Mathlib.Omega.{arith}
use native.Mathlib.Nat.{lt_of_le_of_lt}
use lib.Dec.{ltb, leb}
use lib.ListN.{length, get_or}
use borrow.Author.Tests.{le-leb, leb-true, lt-ltb, ltb-true, eq-eqb}
use Rattle.text.specs.Bytes.{every}
use Rattle.text.specs.Numbers.{decimal}
use Rattle.text.proofs.Tests.{both_true}
use Rattle.text.proofs.Every.{every_at}
use Rattle.pan.specs.Pan.{pan_length}
use Rattle.hotlist.specs.Hotlist.{rises, list_ok, stands, listed}
use Rattle.hotlist.proofs.Rising.{rises_up_to, every_if}

-- of a list that rises the last number tells whether any is too large
module _ (s : List ℕ) (limit : ℕ) (r : rises s ≡ true) (h : 0 < length s) where
  last_small : ltb (get_or s (length s - 1) 0) limit ≡ true → every (λ x. ltb x limit) s ≡ true
  last_small e =
      let top : get_or s (length s - 1) 0 < limit = ltb-true (get_or s (length s - 1) 0) limit e in
      every_if (λ x. ltb x limit) s (λ i l. lt-ltb (get_or s i 0) limit (lt_of_le_of_lt (rises_up_to s i (length s - 1) r (omega arith) (omega arith)) top))

  last_tells : ltb (get_or s (length s - 1) 0) limit ≡ every (λ x. ltb x limit) s
  last_tells = by (ltb (get_or s (length s - 1) 0) limit) (every (λ x. ltb x limit) s) refl refl
    where
      by : (a b : Bool) → ltb (get_or s (length s - 1) 0) limit ≡ a → every (λ x. ltb x limit) s ≡ b → a ≡ b
      by true b e f = sym (last_small e) ∙ f
      by false false e f = refl
      by false true e f = sym e ∙ every_at (λ x. ltb x limit) s (length s - 1) f (omega arith)

-- the list's check
module _ (s : List ℕ) (n : ℕ) where
  module _ (h : length s ≤ 8192) (p : pan_length n ≡ true) (r : rises s ≡ true) where
    pub nothing_listed : length s ≡ 0 → list_ok s n ≡ true
    unfolding list_ok
    nothing_listed e = rw (le-leb (length s) 8192 h, p, r) (every_if (λ x. ltb x (10 ^ n)) s (λ i l. absurd (omega arith)))

    pub by_last : (last limit : ℕ) → last ≡ get_or s (length s - 1) 0 → limit ≡ 10 ^ n → 0 < length s → ltb last limit ≡ list_ok s n
    unfolding list_ok
    by_last last limit f e l = rw (le-leb (length s) 8192 h, p, r, f, e) (last_tells s (10 ^ n) r l)

  -- what a list that passed is
  pub list_is : list_ok s n ≡ true → (length s ≤ 8192) × (pan_length n ≡ true) × (rises s ≡ true) × (every (λ x. ltb x (10 ^ n)) s ≡ true)
  unfolding list_ok
  list_is h =
      let a = both_true (leb (length s) 8192) (pan_length n && (rises s && every (λ x. ltb x (10 ^ n)) s)) h in
      let b = both_true (pan_length n) (rises s && every (λ x. ltb x (10 ^ n)) s) a.1 in
      let c = both_true (rises s) (every (λ x. ltb x (10 ^ n)) s) b.1 in
      (leb-true (length s) 8192 a.0, b.0, c.0, c.1)

-- a PAN of the list's length
pub same_length : (s : List ℕ) (n : ℕ) (pan : List ℕ) → length pan ≡ n → listed s n pan ≡ stands (decimal pan) s
unfolding listed
same_length s n pan e = rw (eq-eqb (length pan) n e)
