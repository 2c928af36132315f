-- The laws of the check pair over texts whose pair passes: what creditor references and IBANs share.
use Prim.Native.Nat.{ℕ, suc, ◌+◌, ◌*◌, ◌%◌, ◌/◌, ◌<◌, ◌≤◌}
use mathlib.Core.Path.{◌≡◌, refl, sym, ap, ◌∙◌}
use mathlib.Core.Bool.{true}
use mathlib.Core.List.{List, [], ◌∷◌}
use mathlib.Core.Logic.{inl, inr, ⊎_elim, ◌↔◌}
use native.Mathlib.Omega.{arith}
use lib.Dec.{eqb}
use lib.ListN.{length, get_or, set, take, drop, length-set}
use lib.Seq.{get_or-set_other}
use borrow.Author.Tests.{eq-eqb, eqb-true}
use Rattle.text.specs.Bytes.{swap, within, is_digit}
use Rattle.text.proofs.Tests.{inside, inside_is, both_true}
use Rattle.mod97.specs.Kinds.{Digit, Capital, Mixed, Unseen}
use Rattle.mod97.specs.Text.{number}
use Rattle.mod97.specs.Pair.{leaves, pair_digits, pair_of, checks, paired, pair_for}
use Rattle.mod97.proofs.Numbers.{number-low, digit_one, capital_two, eleven_blind, blind_kinds}
use Rattle.mod97.proofs.OnePair.{made_leaves_one, one_leaves_one}
use Rattle.mod97.proofs.Places.{moved_two_one, moved_one_two}

-- a pair that passes is 02 to 98 and leaves 1
pub pair_within : (s : List ℕ) → checks s ≡ true → (2 ≤ pair_of s) × (pair_of s ≤ 98)
unfolding checks
pair_within s h = inside_is 2 98 (pair_of s) (both_true (within 2 98 (pair_of s)) (eqb (leaves s) 1) h).0

pub leaves_one : (s : List ℕ) → checks s ≡ true → leaves s ≡ 1
unfolding checks
leaves_one s h = eqb-true (leaves s) 1 (both_true (within 2 98 (pair_of s)) (eqb (leaves s) 1) h).1

checks_is : (s : List ℕ) → 2 ≤ pair_of s → pair_of s ≤ 98 → leaves s ≡ 1 → checks s ≡ true
unfolding checks
checks_is s h k e = rw (inside 2 98 (pair_of s) h k) (eq-eqb (leaves s) 1 e)

-- the two digits of a pair
pub pair_digits_lem : (s : List ℕ) → pair_digits s ≡ true → ((48 ≤ get_or s 2 0) × (get_or s 2 0 ≤ 57)) × ((48 ≤ get_or s 3 0) × (get_or s 3 0 ≤ 57))
unfolding pair_digits is_digit
pair_digits_lem s h =
    let d = both_true (is_digit (get_or s 2 0)) (is_digit (get_or s 3 0)) h in
    (inside_is 48 57 (get_or s 2 0) d.0, inside_is 48 57 (get_or s 3 0) d.1)

-- the first four characters stay where two later ones are exchanged
module _ (s : List ℕ) (i j : ℕ) (hi : 4 ≤ i) (hj : 4 ≤ j) where
  pub kept : (k : ℕ) → k < 4 → get_or (swap s i j) k 0 ≡ get_or s k 0
  kept k h =
      get_or-set_other (set s i (get_or s j 0)) j k (get_or s i 0) 0 (λ e. omega arith)
      ∙ get_or-set_other s i k (get_or s j 0) 0 (λ e. omega arith)

  pub pair_digits_kept : pair_digits (swap s i j) ≡ pair_digits s
  unfolding pair_digits
  pair_digits_kept = rw (kept 2 (omega arith), kept 3 (omega arith))

  pair_kept : pair_of (swap s i j) ≡ pair_of s
  unfolding pair_of
  pair_kept = rw (kept 2 (omega arith), kept 3 (omega arith))

  -- so the pair passes afterwards exactly where the remainder stays
  swap_checks : checks s ≡ true → (checks (swap s i j) ≡ true) ↔ (leaves s ≡ leaves (swap s i j))
  swap_checks p =
      let b = pair_within s p in
      let w = pair_kept in (
        λ q. leaves_one s p ∙ sym (leaves_one (swap s i j) q),
        λ e. checks_is (swap s i j) (omega arith) (omega arith) (sym e ∙ leaves_one s p),
      )

pub swap-length : (s : List ℕ) (i j : ℕ) → length (swap s i j) ≡ length s
swap-length s i j = length-set (set s i (get_or s j 0)) j (get_or s i 0) ∙ length-set s i (get_or s j 0)

not_both : {A : Type 0} (c : ℕ) → Capital c → Digit c → A
not_both c l d = absurd (omega (arith, capital_two c l, digit_one c d))

module _ (s : List ℕ) (i : ℕ) (h : 4 ≤ i) (k : suc i < length s) where
  kept_exactly : Mixed (get_or s i 0) (get_or s (suc i) 0) → (leaves s ≡ leaves (swap s i (suc i))) ↔ Unseen (get_or s i 0) (get_or s (suc i) 0)
  kept_exactly (inl (hc, hd)) =
      let c = get_or s i 0 in
      let d = get_or s (suc i) 0 in
      let b = moved_two_one s i h k (capital_two c hc) (digit_one d hd) in
      (λ e. inl (eleven_blind c d hc hd (b.0 e)), ⊎_elim (λ w. b.1 (blind_kinds c d w).2) (λ w. not_both c hc (blind_kinds d c w).1))
  kept_exactly (inr (hd, hc)) =
      let d = get_or s i 0 in
      let c = get_or s (suc i) 0 in
      let b = moved_one_two s i h k (digit_one d hd) (capital_two c hc) in
      (λ e. inr (eleven_blind c d hc hd (b.0 e)), ⊎_elim (λ w. not_both c hc (blind_kinds d c w).1) (λ w. b.1 (blind_kinds c d w).2))

  -- a neighbouring capital and digit exchanged: the pair still passes exactly for B with 1, M with 2, X with 3
  pub neighbours_checks : checks s ≡ true → Mixed (get_or s i 0) (get_or s (suc i) 0)
      → (checks (swap s i (suc i)) ≡ true) ↔ Unseen (get_or s i 0) (get_or s (suc i) 0)
  neighbours_checks p m =
      let a = swap_checks s i (suc i) h (omega arith) p in
      let b = kept_exactly m in
      (λ q. b.0 (a.0 q), λ w. a.1 (b.1 w))

-- a text put together from letters, pair and body
pub digit_is : (d : ℕ) → d < 10 → is_digit (48 + d) ≡ true
unfolding is_digit
digit_is d h = inside 48 57 (48 + d) (omega arith) (omega arith)

pub made-within : (letters body : List ℕ) → (2 ≤ pair_for letters body) × (pair_for letters body ≤ 98)
unfolding pair_for
made-within letters body = (omega arith, omega arith)

module _ (a b : ℕ) (body : List ℕ) (q : ℕ) (h : q < 100) where
  pair_is : pair_of (paired (a ∷ b ∷ []) q body) ≡ q
  unfolding pair_of
  pair_is = omega (arith, number-low (48 + q / 10) (omega arith), number-low (48 + q % 10) (omega arith))

  pub pair_digits_is : pair_digits (paired (a ∷ b ∷ []) q body) ≡ true
  unfolding pair_digits
  pair_digits_is = rw (digit_is (q / 10) (omega arith), digit_is (q % 10) (omega arith))

  -- for each body exactly one pair from 02 to 98 passes, the one that is made
  pub checks_made : (checks (paired (a ∷ b ∷ []) q body) ≡ true) ↔ (q ≡ pair_for (a ∷ b ∷ []) body)
  checks_made =
      let t = a ∷ b ∷ [] in
      let s = paired t q body in
      let w = pair_is in (
        λ c. let g = pair_within s c in one_leaves_one t body refl q (omega arith) (omega arith) (leaves_one s c),
        λ e.
            let g = made-within t body in
            checks_is s (omega arith) (omega arith) (ap (λ (m : ℕ). leaves (paired t m body)) e ∙ made_leaves_one t body refl),
      )

-- a text is put together from its letters, its pair and its body
whole : (a b c d : ℕ) (body : List ℕ) → pair_digits (a ∷ b ∷ c ∷ d ∷ body) ≡ true
    → (pair_of (a ∷ b ∷ c ∷ d ∷ body) < 100) × ((a ∷ b ∷ c ∷ d ∷ body) ≡ paired (a ∷ b ∷ []) (pair_of (a ∷ b ∷ c ∷ d ∷ body)) body)
unfolding pair_of
whole a b c d body h =
    let k = pair_digits_lem (a ∷ b ∷ c ∷ d ∷ body) h in
    let m = number-low c (omega arith) in
    let n = number-low d (omega arith) in
    let e : c ≡ 48 + (10 * number c + number d) / 10 = omega arith in
    let f : d ≡ 48 + (10 * number c + number d) % 10 = omega arith in
    (omega arith, λ j. a ∷ b ∷ e j ∷ f j ∷ body)

-- so where it passes its pair is the one that is made
pub pair_is_made : (s : List ℕ) → 4 ≤ length s → pair_digits s ≡ true → checks s ≡ true → pair_of s ≡ pair_for (take 2 s) (drop 4 s)
pair_is_made [] l h k = absurd (omega arith)
pair_is_made (a ∷ []) l h k = absurd (omega arith)
pair_is_made (a ∷ b ∷ []) l h k = absurd (omega arith)
pair_is_made (a ∷ b ∷ c ∷ []) l h k = absurd (omega arith)
pair_is_made (a ∷ b ∷ c ∷ d ∷ body) l h k =
    let s = a ∷ b ∷ c ∷ d ∷ body in
    let (m, e) = whole a b c d body h in
    (checks_made a b body (pair_of s) m).0 (ap checks (sym e) ∙ k)
