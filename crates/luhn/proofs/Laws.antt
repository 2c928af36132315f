-- What Luhn promises, each law under the paper's sentence: made digits pass, what is found, what is not, and that each call has one answer.
use mathlib.Core.Path.{◌≡◌, refl, sym, ap, ◌∙◌}
use mathlib.Core.Bool.{Bool, true, false, not}
use mathlib.Core.List.{List, [], ◌∷◌, ◌++◌}
use mathlib.Core.Logic.{◌⊎◌, ◌↔◌, inl, inr, ⊎_elim}
use Rattle.std.specs.Prelude.{Result}
use Prim.Native.Nat.{ℕ, zero, suc, ◌+◌, ◌-◌, ◌*◌, ◌/◌, ◌%◌, ◌≤◌, ◌<◌}
use native.Mathlib.Omega.{arith}
use lib.ListN.{length, length-append}
use lib.Dec.{leb}
use borrow.Author.Tests.{leb-true, leb-false, eqb-true}
use Rattle.text.specs.Bytes.{within, is_digit, every, all_digits}
use Rattle.text.proofs.Tests.{inside, inside_is}
use Rattle.text.proofs.Every.{every_both, every_left, every_right, every_cons, every_head}
use Rattle.text.proofs.Numbers.{digit_small}
use Rattle.reasons.specs.Reasons.{gives, refuses, demand, said}
use Rattle.reasons.specs.declared.Reason.{Reason}
use Rattle.reasons.proofs.Laws.{passed, said_one}
use Rattle.luhn.specs.Luhn.{even, doubled, weighed, luhn_sum, passes, luhn_rule, check_digit, make_rule}
use Rattle.luhn.specs.Sum.{sum_from}
use Rattle.luhn.proofs.Summing.{weighed_small, sum_snoc, sum_shifted, length_snoc}
use Rattle.luhn.proofs.Rule.{test_right, test_wrong}

-- ---- one answer

-- any two answers that the promise of `test` allows are equal
pub test_one : (s : List ℕ) (r q : Result (Unit {0}) Reason) → said r ≡ luhn_rule s → said q ≡ luhn_rule s → r ≡ q
test_one s r q e f = said_one r q (e ∙ sym f)

-- and so for `make`
pub make_one : (s : List ℕ) (r q : Result ℕ Reason) → said r ≡ make_rule s → said q ≡ make_rule s → r ≡ q
make_one s r q e f = said_one r q (e ∙ sym f)

-- ---- making

-- what a text that passes has
pub record Passing (s : List ℕ) : Type 0 where
  pub count : within 2 40 (length s) ≡ true
  pub digits : all_digits s ≡ true
  pub sum : luhn_sum s % 10 ≡ 0

pub passing : (s : List ℕ) → luhn_rule s ≡ gives tt → Passing s
unfolding luhn_rule passes
passing s e =
    let a = passed (within 2 40 (length s)) 2 (demand (all_digits s) 3 (demand (passes s) 4 (gives tt))) tt e in
    let b = passed (all_digits s) 3 (demand (passes s) 4 (gives tt)) tt a.1 in
    let c = passed (passes s) 4 (gives tt) tt b.1 in
    record { count = a.0; digits = b.0; sum = eqb-true (luhn_sum s % 10) 0 c.0 }

-- what a body for which a digit is made has
record Making (s : List ℕ) (c : ℕ) : Type 0 where
  count : within 1 39 (length s) ≡ true
  digits : all_digits s ≡ true
  is : c ≡ check_digit s

making : (s : List ℕ) (c : ℕ) → make_rule s ≡ gives c → Making s c
unfolding make_rule
making s c e =
    let a = passed (within 1 39 (length s)) 2 (demand (all_digits s) 3 (gives (check_digit s))) c e in
    let b = passed (all_digits s) 3 (gives (check_digit s)) c a.1 in
    record { count = a.0; digits = b.0; is = cc b.1 }

module _ (s : List ℕ) (c : ℕ) (e : make_rule s ≡ gives c) where
  -- "the answer being the one digit byte which, put at the end, passes": it passes,
  pub made_passes : luhn_rule (s ++ (c ∷ [])) ≡ gives tt
  unfolding check_digit every is_digit
  made_passes =
      let m = making s c e in
      let r = inside_is 1 39 (length s) m.count in
      let n : length (s ++ (c ∷ [])) ≡ suc (length s) = length_snoc s c in
      let z : luhn_sum (s ++ (48 ∷ [])) ≡ sum_from true s = sym (sum_shifted s) in
      let i : c ≡ 48 + (10 - luhn_sum (s ++ (48 ∷ [])) % 10) % 10 = m.is in
      let f : luhn_sum (s ++ (c ∷ [])) ≡ sum_from true s + (c - 48) = sum_snoc s c in
      sym (test_right (s ++ (c ∷ []))
      (inside 2 40 (length (s ++ (c ∷ []))) (omega (arith, n)) (omega (arith, n)))
      (every_both is_digit s (c ∷ []) m.digits (every_cons is_digit c [] (inside 48 57 c (omega arith) (omega arith)) refl))
      (omega (arith, z, i, f)))

  -- and no other byte does
  pub made_only : (x : ℕ) → luhn_rule (s ++ (x ∷ [])) ≡ gives tt → x ≡ c
  unfolding check_digit
  made_only x g =
      let m = making s c e in
      let p = passing (s ++ (x ∷ [])) g in
      let d = digit_small x (every_head is_digit x [] (every_right is_digit s (x ∷ []) p.digits)).0 in
      let z : luhn_sum (s ++ (48 ∷ [])) ≡ sum_from true s = sym (sum_shifted s) in
      let i : c ≡ 48 + (10 - luhn_sum (s ++ (48 ∷ [])) % 10) % 10 = m.is in
      let f : luhn_sum (s ++ (x ∷ [])) ≡ sum_from true s + (x - 48) = sum_snoc s x in
      omega (arith, z, i, f, p.sum)

-- ---- a part of a text in the place of which another stands

same_length : (p r q : List ℕ) → length r ≡ length q → length (p ++ r) ≡ length (p ++ q)
same_length p r q e = length-append p r ∙ ap (λ (n : ℕ). length p + n) e ∙ sym (length-append p q)

-- what stands before a part adds the same, whatever the part
before : (p r q : List ℕ) → length r ≡ length q → luhn_sum (p ++ r) + luhn_sum q ≡ luhn_sum (p ++ q) + luhn_sum r
unfolding luhn_sum
before [] r q e = omega arith
before (b ∷ p) r q e =
    let l : length (p ++ r) ≡ length (p ++ q) = same_length p r q e in
    let f : weighed (even (length (b ∷ (p ++ r)))) (b - 48) ≡ weighed (even (length (b ∷ (p ++ q)))) (b - 48) = ap (λ (n : ℕ). weighed (even (suc n)) (b - 48)) l in
    let g : luhn_sum (p ++ r) + luhn_sum q ≡ luhn_sum (p ++ q) + luhn_sum r = before p r q e in
    omega arith

-- a passing text p ++ r, and q as long as r and of digits: p ++ q passes exactly where the two parts' sums agree modulo 10
module _ (p r q : List ℕ) (e : luhn_rule (p ++ r) ≡ gives tt) (l : length r ≡ length q) (d : all_digits q ≡ true) where
  count_too : within 2 40 (length (p ++ q)) ≡ true
  count_too = sym (ap (within 2 40) (same_length p r q l)) ∙ (passing (p ++ r) e).count

  digits_too : all_digits (p ++ q) ≡ true
  digits_too = every_both is_digit p q (every_left is_digit p r (passing (p ++ r) e).digits) d

  part_missed : luhn_sum r % 10 ≡ luhn_sum q % 10 → luhn_rule (p ++ q) ≡ gives tt
  part_missed m = sym (test_right (p ++ q) count_too digits_too (omega (arith, m, before p r q l, (passing (p ++ r) e).sum)))

  part_found : (luhn_sum r % 10 ≡ luhn_sum q % 10 → ⊥) → luhn_rule (p ++ q) ≡ refuses 4
  part_found m = sym (test_wrong (p ++ q) count_too digits_too (λ z. m (omega (arith, z, before p r q l, (passing (p ++ r) e).sum))))

-- what a digit of a passing text is, and what stands after it
record Split (a : ℕ) (q : List ℕ) : Type 0 where
  digit : is_digit a ≡ true
  low : 48 ≤ a
  value : a - 48 ≤ 9
  rest : all_digits q ≡ true

split : (a : ℕ) (q : List ℕ) → all_digits (a ∷ q) ≡ true → Split a q
split a q d =
    let h = every_head is_digit a q d in
    let k = digit_small a h.0 in
    record { digit = h.0; low = k.0; value = omega arith; rest = h.1 }

split_at : (p : List ℕ) (a : ℕ) (q : List ℕ) → luhn_rule (p ++ (a ∷ q)) ≡ gives tt → Split a q
split_at p a q e = split a q (every_right is_digit p (a ∷ q) (passing (p ++ (a ∷ q)) e).digits)

-- ---- the two cases of a doubled digit

record Doubles (d w : ℕ) : Type 0 where
  is : ((d ≤ 4) × (w ≡ 2 * d)) ⊎ ((5 ≤ d) × (w + 9 ≡ 2 * d))

doubles : (d : ℕ) → Doubles d (weighed true d)
unfolding weighed
doubles d = go (leb (2 * d) 9) refl
  where
    go : (t : Bool) → leb (2 * d) 9 ≡ t → Doubles d (doubled d)
    go true e = let k : 2 * d ≤ 9 = leb-true (2 * d) 9 e in record { is = inl (omega arith, rw e) }
    go false e = let k : 9 < 2 * d = leb-false (2 * d) 9 e in record { is = inr (omega arith, rw e (omega arith)) }

-- a digit's weight tells the digit
weighed_one : (t : Bool) (a b : ℕ) → a ≤ 9 → b ≤ 9 → weighed t a ≡ weighed t b → a ≡ b
unfolding weighed
weighed_one false a b h k e = e
weighed_one true a b h k e = go (doubles a).is (doubles b).is
  where
    go : ((a ≤ 4) × (weighed true a ≡ 2 * a)) ⊎ ((5 ≤ a) × (weighed true a + 9 ≡ 2 * a)) → ((b ≤ 4) × (weighed true b ≡ 2 * b)) ⊎ ((5 ≤ b) × (weighed true b + 9 ≡ 2 * b)) → a ≡ b
    go (inl x) (inl y) = omega arith
    go (inl x) (inr y) = omega arith
    go (inr x) (inl y) = omega arith
    go (inr x) (inr y) = omega arith

-- "What it finds, over texts that pass: every change of one digit;"
pub change_found : (p q : List ℕ) (a x : ℕ) → luhn_rule (p ++ (a ∷ q)) ≡ gives tt → is_digit x ≡ true → (a ≡ x → ⊥) → luhn_rule (p ++ (x ∷ q)) ≡ refuses 4
unfolding luhn_sum
change_found p q a x e y ne =
    let u = split_at p a q e in
    let k = digit_small x y in
    let t : Bool = even (suc (length q)) in
    let hx : x - 48 ≤ 9 = omega arith in
    part_found p (a ∷ q) (x ∷ q) e refl (every_cons is_digit x q y u.rest)
    (λ z.
    let w : weighed t (a - 48) ≡ weighed t (x - 48) = omega (arith, z, weighed_small t (a - 48) u.value, weighed_small t (x - 48) hx) in
    ne (omega (arith, weighed_one t (a - 48) (x - 48) u.value hx w)))

-- ---- neighbours exchanged

-- two digits with the same sum either way round, the one doubled and the other not
abbrev Swaps : ℕ → ℕ → Type 0
Swaps a b = (a ≡ b) ⊎ (((a ≡ 0) × (b ≡ 9)) ⊎ ((a ≡ 9) × (b ≡ 0)))

-- two numbers less than 10 apart with the same last digit are one
near : (m n : ℕ) → n < m + 10 → m < n + 10 → n % 10 ≡ m % 10 → n ≡ m
near m n h k z = go (leb m n) refl
  where
    go : (t : Bool) → leb m n ≡ t → n ≡ m
    go true e = let l : m ≤ n = leb-true m n e in omega arith
    go false e = let l : n < m = leb-false m n e in omega arith

swap-doubled : {a b v w : ℕ} → Doubles a v → Doubles b w → a ≤ 9 → b ≤ 9 → (v + b) % 10 ≡ (w + a) % 10 → Swaps a b
swap-doubled {a} {b} {v} {w} m n h k z = go m.is n.is
  where
    go : ((a ≤ 4) × (v ≡ 2 * a)) ⊎ ((5 ≤ a) × (v + 9 ≡ 2 * a)) → ((b ≤ 4) × (w ≡ 2 * b)) ⊎ ((5 ≤ b) × (w + 9 ≡ 2 * b)) → Swaps a b
    go (inl x) (inl y) = inl (omega (arith, near (w + a) (v + b) (omega arith) (omega arith) z))
    go (inl x) (inr y) = inr (inl (omega (arith, near (w + a) (v + b) (omega arith) (omega arith) z)))
    go (inr x) (inl y) = inr (inr (omega (arith, near (w + a) (v + b) (omega arith) (omega arith) z)))
    go (inr x) (inr y) = inl (omega (arith, near (w + a) (v + b) (omega arith) (omega arith) z))

swap-weighed : (t : Bool) (a b : ℕ) → a ≤ 9 → b ≤ 9 → (weighed (not t) a + weighed t b) % 10 ≡ (weighed (not t) b + weighed t a) % 10 → Swaps a b
unfolding weighed
swap-weighed false a b h k z = swap-doubled (doubles a) (doubles b) h k z
swap-weighed true a b h k z = swap-doubled (doubles a) (doubles b) h k (omega arith)

-- "an exchange of neighbours a and b, different, exactly unless they are 0 and 9;"
pub exchange_found : (p q : List ℕ) (a b : ℕ) → luhn_rule (p ++ (a ∷ (b ∷ q))) ≡ gives tt → (a ≡ b → ⊥) → ((a ≡ 48) × (b ≡ 57) → ⊥) → ((a ≡ 57) × (b ≡ 48) → ⊥)
    → luhn_rule (p ++ (b ∷ (a ∷ q))) ≡ refuses 4
unfolding luhn_sum even
exchange_found p q a b e ne l r =
    let u = split_at p a (b ∷ q) e in
    let v = split b q u.rest in
    part_found p (a ∷ (b ∷ q)) (b ∷ (a ∷ q)) e refl (every_cons is_digit b (a ∷ q) v.digit (every_cons is_digit a q u.digit v.rest))
    (λ z. ⊎_elim
    (λ w. ne (omega (arith, w)))
    (⊎_elim (λ w. l (omega (arith, w))) (λ w. r (omega (arith, w))))
    (swap-weighed (even (suc (length q))) (a - 48) (b - 48) u.value v.value (omega (arith, z))))

by_place : (t : Bool) → weighed (not t) 0 + weighed t 9 ≡ weighed (not t) 9 + weighed t 0
unfolding weighed
by_place true = refl
by_place false = refl

nine_zero : (q : List ℕ) → luhn_sum (48 ∷ (57 ∷ q)) % 10 ≡ luhn_sum (57 ∷ (48 ∷ q)) % 10
unfolding luhn_sum even
nine_zero q = omega (arith, by_place (not (even (length q))))

-- 0 and 9 exchanged are not found
pub exchange_missed : (p q : List ℕ) → (luhn_rule (p ++ (48 ∷ (57 ∷ q))) ≡ gives tt) ↔ (luhn_rule (p ++ (57 ∷ (48 ∷ q))) ≡ gives tt)
exchange_missed p q = (there 48 57 (nine_zero q), there 57 48 (sym (nine_zero q)))
  where
    there : (a b : ℕ) → luhn_sum (a ∷ (b ∷ q)) % 10 ≡ luhn_sum (b ∷ (a ∷ q)) % 10 → luhn_rule (p ++ (a ∷ (b ∷ q))) ≡ gives tt → luhn_rule (p ++ (b ∷ (a ∷ q))) ≡ gives tt
    there a b m e =
        let u = split_at p a (b ∷ q) e in
        let v = split b q u.rest in
        part_missed p (a ∷ (b ∷ q)) (b ∷ (a ∷ q)) e refl (every_cons is_digit b (a ∷ q) v.digit (every_cons is_digit a q u.digit v.rest)) m

-- "never an exchange of two digits two places apart."
pub apart_missed : (p q : List ℕ) (a m b : ℕ) → luhn_rule (p ++ (a ∷ (m ∷ (b ∷ q)))) ≡ gives tt → luhn_rule (p ++ (b ∷ (m ∷ (a ∷ q)))) ≡ gives tt
unfolding luhn_sum even
apart_missed p q a m b e =
    let u = split_at p a (m ∷ (b ∷ q)) e in
    let v = split m (b ∷ q) u.rest in
    let w = split b q v.rest in
    let n : (t : Bool) → not (not t) ≡ t = twice_not in
    part_missed p (a ∷ (m ∷ (b ∷ q))) (b ∷ (m ∷ (a ∷ q))) e refl
    (every_cons is_digit b (m ∷ (a ∷ q)) w.digit (every_cons is_digit m (a ∷ q) v.digit (every_cons is_digit a q u.digit w.rest)))
    (rw (n (not (even (length q)))) (omega arith))
  where
    twice_not : (t : Bool) → not (not t) ≡ t
    twice_not true = refl
    twice_not false = refl

-- ---- twins

-- the lower is 2, 3 or 4 and the other is three more: {2,5}, {3,6} or {4,7}; as numbers from z on
abbrev pub Three : ℕ → ℕ → ℕ → Type 0
Three z a b = (z + 2 ≤ a) × ((a ≤ z + 4) × (b ≡ a + 3))

tenth : (d k : ℕ) → d ≤ 9 → 3 * d ≡ 10 * k → d ≡ 0
tenth d zero h e = omega arith
tenth d (suc zero) h e = omega arith
tenth d (suc (suc zero)) h e = omega arith
tenth d (suc (suc (suc k))) h e = omega arith

third_le : (m n : ℕ) → m ≤ n → n ≤ m + 9 → (3 * n) % 10 ≡ (3 * m) % 10 → n ≡ m
third_le m n h k e =
    let t : n - m ≡ 0 = tenth (n - m) (3 * n / 10 - 3 * m / 10) (omega arith) (omega arith) in
    omega arith

-- two numbers less than 10 apart whose triples have the same last digit are one
third : (m n : ℕ) → n < m + 10 → m < n + 10 → (3 * n) % 10 ≡ (3 * m) % 10 → n ≡ m
third m n h k z = go (leb m n) refl
  where
    go : (t : Bool) → leb m n ≡ t → n ≡ m
    go true e = let l : m ≤ n = leb-true m n e in third_le m n l (omega arith) z
    go false e = let l : n < m = leb-false m n e in sym (third_le n m (omega arith) (omega arith) (sym z))

-- equal numbers for those of which the last digits are the same
last_of : (k m n l : ℕ) → k ≡ m → m % 10 ≡ n % 10 → n ≡ l → k % 10 ≡ l % 10
last_of k m n l e z f = cc

nine_more : (m n : ℕ) → m % 10 ≡ n % 10 → (m + 9) % 10 ≡ (n + 9) % 10
nine_more m n e = omega arith

twin_doubled : {a b v w : ℕ} → Doubles a v → Doubles b w → a ≤ 9 → b ≤ 9 → (v + a) % 10 ≡ (w + b) % 10 → (a ≡ b) ⊎ (Three 0 a b ⊎ Three 0 b a)
twin_doubled {a} {b} {v} {w} m n h k z = go m.is n.is
  where
    nine : (v + a + 9) % 10 ≡ (w + b + 9) % 10
    nine = nine_more (v + a) (w + b) z

    go : ((a ≤ 4) × (v ≡ 2 * a)) ⊎ ((5 ≤ a) × (v + 9 ≡ 2 * a)) → ((b ≤ 4) × (w ≡ 2 * b)) ⊎ ((5 ≤ b) × (w + 9 ≡ 2 * b)) → (a ≡ b) ⊎ (Three 0 a b ⊎ Three 0 b a)
    go (inl x) (inl y) = inl (third b a (omega arith) (omega arith) (last_of (3 * a) (v + a) (w + b) (3 * b) (omega arith) z (omega arith)))
    go (inl x) (inr y) =
        let e : a + 3 ≡ b = third b (a + 3) (omega arith) (omega arith) (last_of (3 * (a + 3)) (v + a + 9) (w + b + 9) (3 * b) (omega arith) nine (omega arith)) in
        inr (inl (omega arith))
    go (inr x) (inl y) =
        let e : a ≡ b + 3 = third (b + 3) a (omega arith) (omega arith) (last_of (3 * a) (v + a + 9) (w + b + 9) (3 * (b + 3)) (omega arith) nine (omega arith)) in
        inr (inr (omega arith))
    go (inr x) (inr y) = inl (third b a (omega arith) (omega arith) (last_of (3 * a) (v + a + 9) (w + b + 9) (3 * b) (omega arith) nine (omega arith)))

twin_weighed : (t : Bool) (a b : ℕ) → a ≤ 9 → b ≤ 9 → (weighed (not t) a + weighed t a) % 10 ≡ (weighed (not t) b + weighed t b) % 10 → (a ≡ b) ⊎ (Three 0 a b ⊎ Three 0 b a)
unfolding weighed
twin_weighed false a b h k z = twin_doubled (doubles a) (doubles b) h k z
twin_weighed true a b h k z = twin_doubled (doubles a) (doubles b) h k (omega arith)

-- "neighbours aa turned into another bb exactly unless {a,b} is {2,5}, {3,6} or {4,7};"
pub twin_found : (p q : List ℕ) (a b : ℕ) → luhn_rule (p ++ (a ∷ (a ∷ q))) ≡ gives tt → is_digit b ≡ true → (a ≡ b → ⊥) → (Three 48 a b → ⊥) → (Three 48 b a → ⊥)
    → luhn_rule (p ++ (b ∷ (b ∷ q))) ≡ refuses 4
unfolding luhn_sum even
twin_found p q a b e y ne l r =
    let u = split_at p a (a ∷ q) e in
    let v = split a q u.rest in
    let k = digit_small b y in
    part_found p (a ∷ (a ∷ q)) (b ∷ (b ∷ q)) e refl (every_cons is_digit b (b ∷ q) y (every_cons is_digit b q y v.rest))
    (λ z. ⊎_elim
    (λ w. ne (omega (arith, w)))
    (⊎_elim (λ w. l (omega (arith, w))) (λ w. r (omega (arith, w))))
    (twin_weighed (even (suc (length q))) (a - 48) (b - 48) u.value (omega arith) (omega (arith, z))))

twin_same : {a b v w : ℕ} → Doubles a v → Doubles b w → Three 0 a b → (v + a) % 10 ≡ (w + b) % 10
twin_same {a} {b} {v} {w} m n z = go m.is n.is
  where
    go : ((a ≤ 4) × (v ≡ 2 * a)) ⊎ ((5 ≤ a) × (v + 9 ≡ 2 * a)) → ((b ≤ 4) × (w ≡ 2 * b)) ⊎ ((5 ≤ b) × (w + 9 ≡ 2 * b)) → (v + a) % 10 ≡ (w + b) % 10
    go (inl x) (inl y) = omega arith
    go (inl x) (inr y) = let e : v + a ≡ w + b = omega arith in ap (λ (n : ℕ). n % 10) e
    go (inr x) (inl y) = omega arith
    go (inr x) (inr y) = omega arith

twin_same_weighed : (t : Bool) (a b : ℕ) → Three 0 a b → (weighed (not t) a + weighed t a) % 10 ≡ (weighed (not t) b + weighed t b) % 10
unfolding weighed
twin_same_weighed false a b z = twin_same (doubles a) (doubles b) z
twin_same_weighed true a b z = let e : (weighed true a + a) % 10 ≡ (weighed true b + b) % 10 = twin_same (doubles a) (doubles b) z in omega arith

-- those three pairs are not found, either way round
pub twin_missed : (p q : List ℕ) (a b : ℕ) → Three 48 a b → (luhn_rule (p ++ (a ∷ (a ∷ q))) ≡ gives tt) ↔ (luhn_rule (p ++ (b ∷ (b ∷ q))) ≡ gives tt)
unfolding luhn_sum even is_digit
twin_missed p q a b h =
    let m : luhn_sum (a ∷ (a ∷ q)) % 10 ≡ luhn_sum (b ∷ (b ∷ q)) % 10 = omega (arith, twin_same_weighed (even (suc (length q))) (a - 48) (b - 48) (omega (arith, h))) in
    (there a b (inside 48 57 b (omega (arith, h)) (omega (arith, h))) m, there b a (inside 48 57 a (omega (arith, h)) (omega (arith, h))) (sym m))
  where
    there : (x y : ℕ) → is_digit y ≡ true → luhn_sum (x ∷ (x ∷ q)) % 10 ≡ luhn_sum (y ∷ (y ∷ q)) % 10 → luhn_rule (p ++ (x ∷ (x ∷ q))) ≡ gives tt → luhn_rule (p ++ (y ∷ (y ∷ q))) ≡ gives tt
    there x y r m e =
        let v = split x q (split_at p x (x ∷ q) e).rest in
        part_missed p (x ∷ (x ∷ q)) (y ∷ (y ∷ q)) e refl (every_cons is_digit y (y ∷ q) r (every_cons is_digit y q r v.rest)) m
