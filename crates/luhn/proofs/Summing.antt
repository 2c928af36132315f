-- The sum from the right: one turn of its loop, and the two sums that the rules ask for.
use mathlib.Core.Path.{◌≡◌, refl, sym, ap, ◌∙◌, subst}
use mathlib.Core.Bool.{Bool, true, false, not, ◌&&◌, and-false}
use mathlib.Core.List.{List, [], ◌∷◌, ◌++◌, reverse}
use Prim.Native.Nat.{ℕ, zero, suc, ◌+◌, ◌-◌, ◌*◌, ◌≤◌, ◌<◌}
use native.Mathlib.Omega.{arith}
use native.Mathlib.Numerals.{add-one}
use native.Mathlib.Nat.{add_comm, not-suc-le-zero, le_of_suc-le-suc}
use lib.ListN.{length, drop, drop_of_length-le, get_or, length-append}
use lib.Seq.{drop-cons}
use lib.Dec.{leb}
use Rattle.std.proofs.lemmas.List.{get_or-reverse, get_or_default, length-reverse}
use borrow.Author.Tests.{leb-true}
use Rattle.text.specs.Bytes.{is_digit, every, all_digits}
use Rattle.text.proofs.Every.{every_cons}
use Rattle.text.proofs.Numbers.{digit_small}
use Rattle.luhn.specs.Luhn.{even, doubled, weighed, luhn_sum}
use Rattle.luhn.specs.Sum.{twice, sum_from}

-- ---- the loop

-- what holds at the loop's head: of the text from i on, that it has digits alone, its sum, and whether the digit before it is doubled
pub record At (s : List ℕ) (last : Bool) (total : ℕ) (tw : Bool) (i : ℕ) : Type 0 where
  pub in_text : i ≤ length s
  pub small : total + 9 * i ≤ 900
  pub digits : all_digits (drop i s) ≡ true
  pub flag : tw ≡ twice last (length (drop i s))
  pub sum : total ≡ sum_from last (drop i s)

pub weighed_small : (t : Bool) (d : ℕ) → d ≤ 9 → weighed t d ≤ 9
unfolding weighed
weighed_small true d h = go (leb (2 * d) 9) refl
  where
    go : (t : Bool) → leb (2 * d) 9 ≡ t → doubled d ≤ 9
    go true e = rw e (leb-true (2 * d) 9 e)
    go false e = rw e (omega arith)
weighed_small false d h = h

drop-back : (s : List ℕ) (i : ℕ) → 0 < i → i ≤ length s → drop (i - 1) s ≡ get_or s (i - 1) 0 ∷ drop i s
drop-back s i h k =
    let lt : i - 1 < length s = omega arith in
    let e : suc (i - 1) ≡ i = omega arith in
    drop-cons s (i - 1) 0 lt ∙ ap (λ (n : ℕ). get_or s (i - 1) 0 ∷ drop n s) e

pub start : (s : List ℕ) (last : Bool) (i : ℕ) → length s ≤ 100 → i ≡ length s → At s last 0 last i
unfolding every twice sum_from
start s last i h n =
    let e : drop i s ≡ [] = drop_of_length-le s (omega arith) in
    record {
      in_text = omega arith;
      small = omega arith;
      digits = ap all_digits e;
      flag = sym (ap (λ (l : List ℕ). twice last (length l)) e);
      sum = sym (ap (sum_from last) e);
    }

-- the byte that comes after k others from the right
pub from_right : (s : List ℕ) (k b : ℕ) → (k < length (reverse s)) × (b ≡ get_or (reverse s) k b) → (0 < length s - k) × (b ≡ get_or s (length s - k - 1) 0)
from_right s k b h =
    let l : k < length s = omega (arith, h.0, length-reverse s) in
    let e : length s - 1 - k ≡ length s - k - 1 = omega arith in
    (omega arith, h.1 ∙ get_or-reverse s k b l ∙ ap (λ (n : ℕ). get_or s n b) e ∙ get_or_default s (length s - k - 1) b 0 (omega arith))

pub turn : (s : List ℕ) (last : Bool) (total : ℕ) (tw : Bool) (i b w : ℕ) → At s last total tw i → (0 < i) × (b ≡ get_or s (i - 1) 0) → is_digit b ≡ true
    → w ≡ weighed tw (b - 48) → At s last (total + w) (not tw) (i - 1)
unfolding twice sum_from
turn s last total tw i b w a h y e =
    let d : drop (i - 1) s ≡ b ∷ drop i s = drop-back s i h.0 a.in_text ∙ ap (λ (n : ℕ). n ∷ drop i s) (sym h.1) in
    let r = digit_small b y in
    let k : weighed tw (b - 48) ≤ 9 = weighed_small tw (b - 48) (omega arith) in
    record {
      in_text = omega (arith, a.in_text);
      small = omega (arith, a.small);
      digits = ap all_digits d ∙ every_cons is_digit b (drop i s) y a.digits;
      flag = ap not a.flag ∙ sym (ap (λ (l : List ℕ). twice last (length l)) d);
      sum = add_comm total w ∙ (λ j. e j + a.sum j) ∙ ap (λ (t : Bool). weighed t (b - 48) + sum_from last (drop i s)) a.flag ∙ sym (ap (sum_from last) d);
    }

-- a byte that is no digit: the text has not digits alone
pub bad : (s : List ℕ) (i : ℕ) → i < length s → is_digit (get_or s i 0) ≡ false → all_digits s ≡ false
unfolding every
bad [] i h e = absurd (not-suc-le-zero h)
bad (x ∷ s) zero h e = ap (λ (t : Bool). t && all_digits s) e
bad (x ∷ s) (suc i) h e = ap (λ (t : Bool). is_digit x && t) (bad s i (le_of_suc-le-suc h) e) ∙ and-false (is_digit x)

-- where the loop ends, the whole text is passed
pub done : (s : List ℕ) (last : Bool) (total : ℕ) (tw : Bool) (i : ℕ) → At s last total tw i → i ≤ 0 → (all_digits s ≡ true) × (total ≡ sum_from last s)
done s last total tw i a h =
    let z : i ≡ 0 = omega arith in
    let b = subst (At s last total tw) z a in
    (b.digits, b.sum)

-- ---- the two sums

-- the flag follows any reading of the places that turns with each place
twice_as : (t : Bool) (f : ℕ → Bool) → t ≡ f 0 → ((n : ℕ) → f (suc n) ≡ not (f n)) → (n : ℕ) → twice t n ≡ f n
unfolding twice
twice_as t f h turns zero = h
twice_as t f h turns (suc n) = ap not (twice_as t f h turns n) ∙ sym (turns n)

pub sum-plain : (s : List ℕ) → sum_from false s ≡ luhn_sum s
unfolding sum_from luhn_sum even
sum-plain [] = refl
sum-plain (b ∷ s) = λ j. weighed (twice_as false (λ n. even (suc n)) refl (λ _. refl) (length s) j) (b - 48) + sum-plain s j

pub length_snoc : (s : List ℕ) (x : ℕ) → length (s ++ (x ∷ [])) ≡ suc (length s)
length_snoc s x = length-append s (x ∷ []) ∙ add-one (length s)

-- the sum of a text with one digit more at its end
pub sum_snoc : (s : List ℕ) (x : ℕ) → luhn_sum (s ++ (x ∷ [])) ≡ sum_from true s + (x - 48)
unfolding sum_from luhn_sum even weighed
sum_snoc [] x = omega arith
sum_snoc (b ∷ s) x =
    let e : even (length (b ∷ (s ++ (x ∷ [])))) ≡ twice true (length s) = ap (λ (n : ℕ). even (suc n)) (length_snoc s x) ∙ sym (twice_as true (λ n. even (suc (suc n))) refl (λ _. refl) (length s)) in
    let f : luhn_sum ((b ∷ s) ++ (x ∷ [])) ≡ weighed (twice true (length s)) (b - 48) + (sum_from true s + (x - 48)) = λ j. weighed (e j) (b - 48) + sum_snoc s x j in
    omega (arith, f)

pub sum_shifted : (s : List ℕ) → sum_from true s ≡ luhn_sum (s ++ (48 ∷ []))
sum_shifted s = let e : luhn_sum (s ++ (48 ∷ [])) ≡ sum_from true s + (48 - 48) = sum_snoc s 48 in omega arith
