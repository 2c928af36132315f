-- One bit of one byte changed flips that bit of the stream and no other; bytes that hold a reversal.
use mathlib.Core.Path.{◌≡◌, refl, sym, ap, ap₂, ◌∙◌, subst}
use mathlib.Core.Bool.{Bool, false, not}
use mathlib.Core.List.{List, ◌∷◌, reverse}
use Prim.Native.Nat.{ℕ, zero, suc, ◌+◌, ◌-◌, ◌*◌, ◌/◌, ◌%◌, ◌^◌, ◌<◌}
use native.Mathlib.Nat.{not-suc-le-zero}
use native.Mathlib.Decide.{ℕ_discrete}
use native.Mathlib.Omega.{arith}
use lib.ListN.{length, get_or, length-reverse}
use lib.Seq.{get_or-set_same, get_or-set_other, ext_get_or}
use lib.Bits.{bit_xor, differ, xor_shr, xor_step}
use lib.Dec.{eqb, eqb→eq}
use borrow.Author.Tests.{eq-eqb, ne_eqb}
use Rattle.text.proofs.Below.{all_below, below}
use Rattle.stream.specs.Stream.{bit_at, is_one, bit_n, bits_from, stream}
use Rattle.chars.specs.Flip.{flip_at}
use Rattle.bits.specs.Flip.{flip_bit, Reverses}
use Rattle.stream.proofs.Streams.{length-bits_from, get_or-bits_from, get_d_reverse}

-- the bits of 2 ^ k, at the places of a byte
right : ℕ → ℕ → Bool
right k j = eqb (2 ^ k / 2 ^ j % 2) (bit_n (eqb j k))

power_bit : (k j : ℕ) → k < 8 → j < 8 → 2 ^ k / 2 ^ j % 2 ≡ bit_n (eqb j k)
unfolding right
power_bit k j h l = eqb→eq (2 ^ k / 2 ^ j % 2) (bit_n (eqb j k)) (below (right k) 8 (below (λ m. all_below (right m) 8) 8 tt k h) j l)

differ_lt : (x y : ℕ) → x < 2 → y < 2 → differ x y < 2
differ_lt zero y h l = l
differ_lt (suc x) zero h l = h
differ_lt (suc x) (suc y) h l = let z : x ≡ 0 = omega arith in let w : y ≡ 0 = omega arith in rw (z, w) (omega arith)

differ_one : (x : ℕ) → x < 2 → differ x 1 + x ≡ 1
differ_one zero h = refl
differ_one (suc x) h = let z : x ≡ 0 = omega arith in rw z

differ_none : (x : ℕ) → differ x 0 ≡ x
differ_none zero = refl
differ_none (suc x) = refl

-- a bit of the byte with bit k changed
xor_bit : (b k j : ℕ) → k < 8 → j < 8 → bit_xor b (2 ^ k) / 2 ^ j % 2 ≡ differ (b / 2 ^ j % 2) (bit_n (eqb j k))
xor_bit b k j h l =
    let d : differ (b / 2 ^ j % 2) (2 ^ k / 2 ^ j % 2) < 2 = differ_lt (b / 2 ^ j % 2) (2 ^ k / 2 ^ j % 2) (omega arith) (omega arith) in
    ap (λ (m : ℕ). m % 2) (xor_shr b (2 ^ k) j ∙ xor_step (b / 2 ^ j) (2 ^ k / 2 ^ j))
    ∙ low (bit_xor (b / 2 ^ j / 2) (2 ^ k / 2 ^ j / 2)) (differ (b / 2 ^ j % 2) (2 ^ k / 2 ^ j % 2)) d
    ∙ ap (differ (b / 2 ^ j % 2)) (power_bit k j h l)
  where
    low : (q d : ℕ) → d < 2 → (q * 2 + d) % 2 ≡ d
    low q d h = omega arith

module _ (s : List ℕ) (i : ℕ) (h : i / 8 < length s) where
  at_flip : bit_at (flip_bit s i) i + bit_at s i ≡ 1
  at_flip =
      let b = get_or s (i / 8) 0 in
      ap (λ (x : ℕ). x / 2 ^ (i % 8) % 2 + bit_at s i) (get_or-set_same s (i / 8) (bit_xor b (2 ^ (i % 8))) 0 h)
      ∙ ap (λ (x : ℕ). x + bit_at s i) (xor_bit b (i % 8) (i % 8) (omega arith) (omega arith)
      ∙ ap (λ (t : Bool). differ (bit_at s i) (bit_n t)) (eq-eqb (i % 8) (i % 8) refl))
      ∙ differ_one (bit_at s i) (omega arith)

  off_flip : (j : ℕ) → (j ≡ i → ⊥) → bit_at (flip_bit s i) j ≡ bit_at s j
  off_flip j n = by (ℕ_discrete (j / 8) (i / 8))
    where
      by : Dec (j / 8 ≡ i / 8) → bit_at (flip_bit s i) j ≡ bit_at s j
      by (no e) = ap (λ (x : ℕ). x / 2 ^ (j % 8) % 2) (get_or-set_other s (i / 8) (j / 8) (bit_xor (get_or s (i / 8) 0) (2 ^ (i % 8))) 0 e)
      by (yes e) =
          let b = get_or s (i / 8) 0 in
          ap (λ (m : ℕ). get_or (flip_bit s i) m 0 / 2 ^ (j % 8) % 2) e
          ∙ ap (λ (x : ℕ). x / 2 ^ (j % 8) % 2) (get_or-set_same s (i / 8) (bit_xor b (2 ^ (i % 8))) 0 h)
          ∙ xor_bit b (i % 8) (j % 8) (omega arith) (omega arith)
          ∙ ap (λ (t : Bool). differ (b / 2 ^ (j % 8) % 2) (bit_n t)) (ne_eqb (j % 8) (i % 8) (λ q. n (omega arith)))
          ∙ differ_none (b / 2 ^ (j % 8) % 2)
          ∙ ap (λ (m : ℕ). get_or s m 0 / 2 ^ (j % 8) % 2) (sym e)

-- of two bits one is 1 and the other 0
is_one_flip : (a b : ℕ) → a + b ≡ 1 → is_one a ≡ not (is_one b)
is_one_flip zero zero e = absurd {0} (omega arith)
is_one_flip zero (suc b) e = refl
is_one_flip (suc a) zero e = refl
is_one_flip (suc a) (suc b) e = absurd {0} (omega arith)

module _ (s : List ℕ) (i n : ℕ) (h : i / 8 < length s) where
  after : (k m : ℕ) → i < k → bits_from (flip_bit s i) k m ≡ bits_from s k m
  unfolding bits_from
  after k zero l = refl
  after k (suc m) l = ap₂ (λ (b : ℕ) (r : List Bool). is_one b ∷ r) (off_flip s i h k (λ e. omega arith)) (after (suc k) m (omega arith))

  from : (k m j : ℕ) → k + j ≡ i → j < m → bits_from (flip_bit s i) k m ≡ flip_at j (bits_from s k m)
  unfolding bits_from flip_at
  from k zero j e l = absurd (not-suc-le-zero l)
  from k (suc m) zero e l =
      let q : k ≡ i = omega arith in
      ap₂ (λ (b : Bool) (r : List Bool). b ∷ r)
      (is_one_flip (bit_at (flip_bit s i) k) (bit_at s k) (subst (λ (p : ℕ). bit_at (flip_bit s i) p + bit_at s p ≡ 1) (sym q) (at_flip s i h)))
      (after (suc k) m (omega arith))
  from k (suc m) (suc j) e l =
      ap₂ (λ (b : ℕ) (r : List Bool). is_one b ∷ r) (off_flip s i h k (λ q. omega arith)) (from (suc k) m j (omega arith) (omega arith))

  -- the stream of the changed bytes is the stream with that bit flipped
  pub flipped_stream : i < n → stream false (flip_bit s i) n ≡ flip_at i (stream false s n)
  unfolding stream
  flipped_stream l = from 0 n i (omega arith) l

-- the stream of bytes that hold a reversal is the reversal
pub reversed_stream : (s t : List ℕ) (n : ℕ) → Reverses s t n → stream false t n ≡ reverse (stream false s n)
unfolding stream
reversed_stream s t n r =
    ext_get_or false (bits_from t 0 n) (reverse (bits_from s 0 n))
    (length-bits_from t 0 n ∙ sym (length-reverse (bits_from s 0 n) ∙ length-bits_from s 0 n))
    (λ i l. one i (rw length-bits_from at l))
  where
    one : (i : ℕ) → i < n → get_or (bits_from t 0 n) i false ≡ get_or (reverse (bits_from s 0 n)) i false
    one i l =
        let q : i < length (bits_from s 0 n) = rw length-bits_from l in
        let e : length (bits_from s 0 n) - suc i ≡ n - 1 - i = rw length-bits_from (omega arith) in
        get_or-bits_from t 0 n i l
        ∙ ap is_one (ap (bit_at t) (omega arith) ∙ r i l ∙ ap (bit_at s) (omega arith))
        ∙ sym (get_or-bits_from s 0 n (n - 1 - i) (omega arith))
        ∙ ap (λ (m : ℕ). get_or (bits_from s 0 n) m false) (sym e)
        ∙ sym (get_d_reverse (bits_from s 0 n) i false q)
