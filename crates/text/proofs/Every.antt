-- Every byte of a text passes a test: one turn of a loop, its end, one place, a change and an exchange. Over any test.
use Prim.Native.Nat.{ℕ, zero, suc, ◌+◌, ◌<◌, ◌≤◌}
use mathlib.Core.Path.{◌≡◌, refl, sym, ap, ◌∙◌}
use mathlib.Core.Bool.{Bool, true, false, ◌&&◌, and-true, and_assoc}
use mathlib.Core.List.{List, [], ◌∷◌, ◌++◌}
use native.Mathlib.Numerals.{add-one}
use native.Mathlib.Nat.{le_of_suc-le-suc, not-suc-le-zero}
use lib.ListN.{length, get_or, set, drop, drop_of_length-le}
use lib.Seq.{drop-cons}
use Rattle.text.specs.Bytes.{every, swap}
use Rattle.text.proofs.Tests.{both_true}

module _ (f : ℕ → Bool) where
  pub turn : (s : List ℕ) (i : ℕ) → i < length s → every f (drop i s) ≡ (f (get_or s i 0) && every f (drop (suc i) s))
  unfolding every
  turn s i h = rw (drop-cons s i 0 h)

  pub end : (s : List ℕ) (i : ℕ) → length s ≤ i → every f (drop i s) ≡ true
  unfolding every
  end s i h = rw (drop_of_length-le s h)

  pub every_at : (s : List ℕ) (i : ℕ) → every f s ≡ true → i < length s → f (get_or s i 0) ≡ true
  unfolding every
  every_at [] i h l = absurd (not-suc-le-zero l)
  every_at (b ∷ s) zero h l = (both_true (f b) (every f s) h).0
  every_at (b ∷ s) (suc i) h l = every_at s i (both_true (f b) (every f s) h).1 (le_of_suc-le-suc l)

  pub every_set : (s : List ℕ) (i v : ℕ) → every f s ≡ true → f v ≡ true → every f (set s i v) ≡ true
  unfolding every
  every_set [] i v h e = h
  every_set (b ∷ s) zero v h e = rw e (both_true (f b) (every f s) h).1
  every_set (b ∷ s) (suc i) v h e =
      let t = both_true (f b) (every f s) h in
      rw t.0 (every_set s i v t.1 e)

  pub every_swap : (s : List ℕ) (i j : ℕ) → every f s ≡ true → i < length s → j < length s → every f (swap s i j) ≡ true
  every_swap s i j h li lj = every_set (set s i (get_or s j 0)) j (get_or s i 0) (every_set s i (get_or s j 0) h (every_at s j h lj)) (every_at s i h li)

  -- a turn that passes, and one that fails
  pub turn_yes : (s : List ℕ) (i : ℕ) (t : Bool) → i < length s → every f (drop i s) ≡ t → f (get_or s i 0) ≡ true → every f (drop (i + 1) s) ≡ t
  turn_yes s i t h e y = ap (λ (n : ℕ). every f (drop n s)) (add-one i) ∙ sym (ap (λ (b : Bool). b && every f (drop (suc i) s)) y) ∙ sym (turn s i h) ∙ e

  pub turn_no : (s : List ℕ) (i : ℕ) (t : Bool) → i < length s → every f (drop i s) ≡ t → f (get_or s i 0) ≡ false → false ≡ t
  turn_no s i t h e n = sym (ap (λ (b : Bool). b && every f (drop (suc i) s)) n) ∙ sym (turn s i h) ∙ e

  -- a turn of a loop that has no way out, t being what the bytes before said; and its end
  pub turn_on : (s : List ℕ) (i : ℕ) (t all : Bool) → i < length s → (t && every f (drop i s)) ≡ all → ((t && f (get_or s i 0)) && every f (drop (i + 1) s)) ≡ all
  turn_on s i t all h e =
      and_assoc t (f (get_or s i 0)) (every f (drop (i + 1) s))
      ∙ ap (λ (r : Bool). t && r) (ap (λ (n : ℕ). f (get_or s i 0) && every f (drop n s)) (add-one i) ∙ sym (turn s i h))
      ∙ e

  pub end_on : (s : List ℕ) (i : ℕ) (t all : Bool) → length s ≤ i → (t && every f (drop i s)) ≡ all → t ≡ all
  end_on s i t all h e = sym (ap (λ (r : Bool). t && r) (end s i h) ∙ and-true t) ∙ e

  -- a text put together from two, and one with a byte in front
  pub every_both : (p q : List ℕ) → every f p ≡ true → every f q ≡ true → every f (p ++ q) ≡ true
  unfolding every
  every_both [] q e g = g
  every_both (b ∷ p) q e g = let t = both_true (f b) (every f p) e in rw t.0 (every_both p q t.1 g)

  pub every_left : (p q : List ℕ) → every f (p ++ q) ≡ true → every f p ≡ true
  unfolding every
  every_left [] q e = refl
  every_left (b ∷ p) q e = let t = both_true (f b) (every f (p ++ q)) e in rw t.0 (every_left p q t.1)

  pub every_right : (p q : List ℕ) → every f (p ++ q) ≡ true → every f q ≡ true
  unfolding every
  every_right [] q e = e
  every_right (b ∷ p) q e = every_right p q (both_true (f b) (every f (p ++ q)) e).1

  pub every_cons : (b : ℕ) (q : List ℕ) → f b ≡ true → every f q ≡ true → every f (b ∷ q) ≡ true
  unfolding every
  every_cons b q h e = rw h e

  pub every_head : (b : ℕ) (q : List ℕ) → every f (b ∷ q) ≡ true → (f b ≡ true) × (every f q ≡ true)
  unfolding every
  every_head b q e = both_true (f b) (every f q) e
