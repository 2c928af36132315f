-- Zeros skipped, some bits at a time: up to the first one bit, or past them.
use mathlib.Core.Path.{◌≡◌, refl, sym, ap, ap₂, ◌∙◌}
use mathlib.Core.Bool.{Bool, true, false}
use mathlib.Core.List.{List, [], ◌∷◌, ◌++◌}
use Prim.Native.Nat.{ℕ, zero, suc, ◌+◌, ◌-◌, ◌*◌, ◌/◌, ◌%◌, ◌≤◌, ◌<◌}
use native.Mathlib.Omega.{arith}
use native.Mathlib.Nat.{not-suc-le-zero, le_of_suc-le-suc}
use native.Mathlib.Decide.{dec_lt}
use lib.Count.{under, count_trailing_zeros}
use lib.Dec.{eqb}
use lib.ListN.{length, drop, drop_of_length-le, length-drop, take-append-drop}
use lib.Seq.{drop-drop}
use borrow.Author.Tests.{eq-eqb, ne_eqb}
use Rattle.stream.specs.Stream.{number}
use Rattle.stream.proofs.Streams.{length-stream, part, length_part, stream-fits}
use Rattle.stream.proofs.Numbers.{lowest, above}
use Rattle.stream.specs.Bits.{all_bits}
use Rattle.stream.specs.declared.Stream.{Stream}
use Rattle.chars.specs.Reading.{skip, all_zero}

-- bits whose number is 0 are zeros
skips : (l rest : List Bool) → number l ≡ 0 → skip (l ++ rest) ≡ skip rest
unfolding skip number
skips [] rest e = refl
skips (false ∷ l) rest e = skips l rest (omega arith)
skips (true ∷ l) rest e = absurd {0} (omega arith)

-- others have their first one where their number's lowest one stands
first_in : (l rest : List Bool) (k : ℕ) → length l ≤ k → (number l ≡ 0 → ⊥)
    → (skip (l ++ rest) ≡ drop (count_trailing_zeros k (number l)) (l ++ rest)) × (count_trailing_zeros k (number l) < length l)
unfolding skip number count_trailing_zeros
first_in [] rest k h o = absurd (o refl)
first_in (b ∷ l) rest zero h o = absurd (not-suc-le-zero h)
first_in (false ∷ l) rest (suc k) h o =
    let i = first_in l rest k (le_of_suc-le-suc h) (λ e. o (omega arith)) in
    let t : under ((0 + 2 * number l) % 2) (count_trailing_zeros k ((0 + 2 * number l) / 2)) ≡ suc (count_trailing_zeros k (number l)) =
    ap₂ (λ (x y : ℕ). under x (count_trailing_zeros k y)) (lowest false l) (above false l) in
    rw t (i.0, omega (arith, i.1))
first_in (true ∷ l) rest (suc k) h o =
    let t : under ((1 + 2 * number l) % 2) (count_trailing_zeros k ((1 + 2 * number l) / 2)) ≡ 0 =
    ap (λ (x : ℕ). under x (count_trailing_zeros k ((1 + 2 * number l) / 2))) (lowest true l) in
    rw t (refl, omega arith)

module _ (s : Stream) (p : ℕ) where
  pub skip_end : s.count ≤ p → skip (drop p (all_bits s)) ≡ drop p (all_bits s)
  unfolding skip
  skip_end h = rw (drop_of_length-le (all_bits s) {i = p} (rw length-stream h))

  module _ (n w : ℕ) (fits : p + n ≤ s.count) (is : w ≡ number (part (all_bits s) p n)) where
    split : drop p (all_bits s) ≡ part (all_bits s) p n ++ drop (p + n) (all_bits s)
    split = sym (ap (λ (l : List Bool). part (all_bits s) p n ++ l) (sym (drop-drop n p (all_bits s))) ∙ take-append-drop n (drop p (all_bits s)))

    pub skip_past : w ≡ 0 → skip (drop p (all_bits s)) ≡ skip (drop (p + n) (all_bits s))
    skip_past e = ap skip split ∙ skips (part (all_bits s) p n) (drop (p + n) (all_bits s)) (sym is ∙ e)

    pub skip_to : n ≤ 8 → (w ≡ 0 → ⊥)
        → (skip (drop p (all_bits s)) ≡ drop (p + count_trailing_zeros 8 w) (all_bits s)) × (p + count_trailing_zeros 8 w ≤ s.count)
    skip_to h o =
        let l = length_part (all_bits s) p n (stream-fits s.reversed s.bytes.now s.count p n fits) in
        let t = first_in (part (all_bits s) p n) (drop (p + n) (all_bits s)) 8 (rw l h) (λ e. o (is ∙ e)) in
        let z : count_trailing_zeros 8 w ≡ count_trailing_zeros 8 (number (part (all_bits s) p n)) = ap (count_trailing_zeros 8) is in (
          ap skip split ∙ t.0 ∙ ap₂ (λ (j : ℕ) (m : List Bool). drop j m) (sym z) (sym split) ∙ drop-drop (count_trailing_zeros 8 w) p (all_bits s),
          omega (arith, rw l at t.1),
        )

-- bits are all zero where skipping zeros leaves none
skips_all : (b : List Bool) → eqb (length (skip b)) 0 ≡ all_zero b
unfolding skip all_zero
skips_all [] = refl
skips_all (false ∷ b) = skips_all b
skips_all (true ∷ b) = ne_eqb (length (true ∷ b)) 0 (λ e. absurd (omega arith))

none_left : (n r : ℕ) → r ≤ n → eqb r n ≡ eqb (n - r) 0
none_left n r h = by (dec_lt r n)
  where
    by : Dec (r < n) → eqb r n ≡ eqb (n - r) 0
    by (yes l) = ne_eqb r n (λ e. omega arith) ∙ sym (ne_eqb (n - r) 0 (λ e. omega arith))
    by (no l) = eq-eqb r n (omega arith) ∙ sym (eq-eqb (n - r) 0 (omega arith))

-- the first one bit is behind the last bit exactly where all are zero
pub zeros_told : (s : Stream) (p r : ℕ) → skip (drop p (all_bits s)) ≡ drop r (all_bits s) → r ≤ s.count
    → eqb r s.count ≡ all_zero (drop p (all_bits s))
zeros_told s p r e h =
    let l : length (skip (drop p (all_bits s))) ≡ s.count - r = rw (e, length-drop, length-stream) in
    none_left s.count r h ∙ sym (ap (λ (m : ℕ). eqb m 0) l) ∙ skips_all (drop p (all_bits s))
