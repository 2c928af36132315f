-- The laws of the hot list (request E8).
use Prim.Native.Nat.{ℕ, suc, ◌+◌, ◌-◌, ◌*◌, ◌^◌, ◌≤◌, ◌<◌}
use mathlib.Core.Path.{◌≡◌, refl, sym, ◌∙◌}
use mathlib.Core.Bool.{Bool, true, false, and-false}
use mathlib.Core.Logic.{◌↔◌}
use mathlib.Core.List.{List, [], ◌∷◌}
use native.Mathlib.Omega.{arith}
use Rattle.std.specs.Prelude.{Result}
use lib.Dec.{ltb, eqb}
use lib.ListN.{length, get_or}
use borrow.Author.Tests.{le-leb, lt-ltb, ltb-true, eqb-true}
use Rattle.text.specs.Bytes.{is_digit, all_digits}
use Rattle.text.specs.Numbers.{decimal, decimal_after}
use Rattle.text.proofs.Tests.{inside, inside_is, both_true}
use Rattle.text.proofs.Every.{every_at, every_head}
use Rattle.text.proofs.Numbers.{digit_small}
use Rattle.reasons.specs.Reasons.{gives, refuses, demand, said}
use Rattle.reasons.specs.declared.Reason.{Reason}
use Rattle.reasons.proofs.Laws.{First, never, said_one, refuses_exactly, passed}
use Rattle.pan.specs.Pan.{pan_length}
use Rattle.hotlist.specs.Hotlist.{rises, list_ok, stands, listed, hot_rule, Place}
use Rattle.hotlist.proofs.Rising.{rises_at, every_if, stands_at, stands_where}
use Rattle.hotlist.proofs.Steps.{list_is, same_length}

-- any two outcomes that the question allows are equal
pub find_one : (s : List ℕ) (n : ℕ) (pan : List ℕ) (r q : Result Bool Reason) → said r ≡ hot_rule s n pan → said q ≡ hot_rule s n pan → r ≡ q
find_one s n pan r q f g = said_one r q (f ∙ sym g)

-- "rising strictly": of any two numbers of the list the later is the larger
rises_if : (s : List ℕ) → ((i j : ℕ) → i < j → j < length s → get_or s i 0 < get_or s j 0) → rises s ≡ true
unfolding rises
rises_if [] h = refl
rises_if (x ∷ []) h = refl
rises_if (x ∷ y ∷ s) h = rw (lt-ltb x y (h 0 1 (omega arith) (omega arith))) (rises_if (y ∷ s) (λ i j l g. h (suc i) (suc j) (omega arith) (omega arith)))

pub rises_exactly : (s : List ℕ) → (rises s ≡ true) ↔ ((i j : ℕ) → i < j → j < length s → get_or s i 0 < get_or s j 0)
rises_exactly s = (λ h i j l g. rises_at s i j h l g, rises_if s)

-- "A list that doesn't rise, is too long, or has a length outside 13 to 19, or a number too large for it, is refused": any other isn't
pub list_exactly : (s : List ℕ) (n : ℕ)
    → (list_ok s n ≡ true)
    ↔ ((length s ≤ 8192) × (13 ≤ n) × (n ≤ 19) × (rises s ≡ true) × ((i : ℕ) → i < length s → get_or s i 0 < 10 ^ n))
unfolding list_ok
list_exactly s n = (there, back)
  where
    there : list_ok s n ≡ true → (length s ≤ 8192) × (13 ≤ n) × (n ≤ 19) × (rises s ≡ true) × ((i : ℕ) → i < length s → get_or s i 0 < 10 ^ n)
    there h =
        let k = list_is s n h in
        let p = inside_is 13 19 n k.1 in
        (k.0, p.0, p.1, k.2, λ i l. ltb-true (get_or s i 0) (10 ^ n) (every_at (λ x. ltb x (10 ^ n)) s i k.3 l))

    back : (length s ≤ 8192) × (13 ≤ n) × (n ≤ 19) × (rises s ≡ true) × ((i : ℕ) → i < length s → get_or s i 0 < 10 ^ n) → list_ok s n ≡ true
    back k =
        rw (le-leb (length s) 8192 k.0, inside 13 19 n k.1 k.2, k.3)
        (every_if (λ x. ltb x (10 ^ n)) s (λ i l. lt-ltb (get_or s i 0) (10 ^ n) (k.4 i l)))

-- "A PAN is listed exactly when it has that length and its number stands in the list"
module _ (s : List ℕ) (n : ℕ) (pan : List ℕ) where
  pub listed_exactly : (listed s n pan ≡ true) ↔ ((length pan ≡ n) × Place (decimal pan) s)
  unfolding listed
  listed_exactly = (there, back)
    where
      there : listed s n pan ≡ true → (length pan ≡ n) × Place (decimal pan) s
      there h =
          let p = both_true (eqb (length pan) n) (stands (decimal pan) s) h in
          let w = stands_where (decimal pan) s p.1 in
          (eqb-true (length pan) n p.0, record { at = w.0; inside = w.1; there = w.2 })

      back : (length pan ≡ n) × Place (decimal pan) s → listed s n pan ≡ true
      back p = same_length s n pan p.0 ∙ stands_at (decimal pan) s p.1.at p.1.inside p.1.there

  -- and that is what is answered where nothing is refused
  pub answered_is : (b : Bool) → hot_rule s n pan ≡ gives b
      → (list_ok s n ≡ true) × (pan_length (length pan) ≡ true) × (all_digits pan ≡ true) × (listed s n pan ≡ b)
  unfolding hot_rule
  answered_is b e =
      let p = passed (list_ok s n) 21 (demand (pan_length (length pan)) 2 (demand (all_digits pan) 3 (gives (listed s n pan)))) b e in
      let q = passed (pan_length (length pan)) 2 (demand (all_digits pan) 3 (gives (listed s n pan))) b p.1 in
      let r = passed (all_digits pan) 3 (gives (listed s n pan)) b q.1 in
      let v : listed s n pan ≡ b = cc r.1 in
      (p.0, q.0, r.0, v)

-- "its number": of two PANs of one length that have one number, the digits are the same; so a number of the list is one card
same_digits : (s t : List ℕ) (v w : ℕ) → length s ≡ length t → all_digits s ≡ true → all_digits t ≡ true → decimal_after v s ≡ decimal_after w t → (v ≡ w) × (s ≡ t)
unfolding decimal_after
same_digits [] [] v w l d f e = (e, refl)
same_digits [] (c ∷ t) v w l d f e = absurd (omega arith)
same_digits (b ∷ s) [] v w l d f e = absurd (omega arith)
same_digits (b ∷ s) (c ∷ t) v w l d f e =
    let p = every_head is_digit b s d in
    let q = every_head is_digit c t f in
    let i = same_digits s t (10 * v + (b - 48)) (10 * w + (c - 48)) (omega arith) p.1 q.1 e in
    let m = digit_small b p.0 in
    let n = digit_small c q.0 in
    let heads : b ≡ c = omega arith in
    (omega arith, λ j. heads j ∷ i.1 j)

pub one_card : (s t : List ℕ) → length s ≡ length t → all_digits s ≡ true → all_digits t ≡ true → decimal s ≡ decimal t → s ≡ t
one_card s t l d f e = (same_digits s t 0 0 l d f e).1

-- "Asked alone, the order is 21, 2, 3": each is given exactly when its condition is the first to hold
pub find_refuses : (s : List ℕ) (n : ℕ) (pan : List ℕ) (m : ℕ)
    → (hot_rule s n pan ≡ refuses m) ↔ First (list_ok s n) 21 m (First (pan_length (length pan)) 2 m (First (all_digits pan) 3 m ⊥))
unfolding hot_rule
find_refuses s n pan m = refuses_exactly _ 21 _ m (refuses_exactly _ 2 _ m (refuses_exactly _ 3 _ m (never _ m)))

-- "An empty list blocks nothing"
pub empty_blocks_nothing : (n : ℕ) (pan : List ℕ) → listed [] n pan ≡ false
unfolding listed stands
empty_blocks_nothing n pan = and-false (eqb (length pan) n)
