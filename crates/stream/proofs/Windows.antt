-- A window over bytes: the bits of the stream in a word of some bytes, forward and reversed.
use mathlib.Core.Path.{◌≡◌, sym, ap, ap₂, ◌∙◌}
use mathlib.Core.Bool.{Bool, true, false}
use mathlib.Core.List.{List, reverse}
use Prim.Native.Nat.{ℕ, zero, suc, ◌+◌, ◌-◌, ◌*◌, ◌/◌, ◌%◌, ◌^◌, ◌≤◌, ◌<◌}
use native.Mathlib.Nat.{mod-one, div-one, pow-suc, mul_assoc, add-mul-mod_self_left, le_of_suc-le-suc, not-suc-le-zero}
use native.Mathlib.Omega.{arith}
use native.Mathlib.Decide.{dec_lt}
use lib.Pow.{shr-shr, pow-add, field}
use lib.ListN.{length, get_or, drop, length-reverse}
use lib.Seq.{ext_get_or, get_or-take, get_or-drop}
use Rattle.text.specs.Numbers.{u32_at}
use Rattle.stream.specs.Stream.{bit_at, is_one, bits_from, stream, number, bits_of}
use Rattle.stream.specs.Bits.{all_bits}
use Rattle.stream.specs.declared.Stream.{Stream}
use Rattle.stream.proofs.Streams.{bit_n-bit_at, length-bits_from, get_or-bits_from, get_d_reverse, part, length_part, stream-fits}
use Rattle.stream.proofs.Numbers.{half_half, halves, bits_of-number}

-- ---- the bits of a word

low_bit : (k m x t : ℕ) → k < m → (x + 2 ^ m * t) / 2 ^ k % 2 ≡ x / 2 ^ k % 2
low_bit k zero x t h = absurd (not-suc-le-zero h)
low_bit zero (suc m) x t h = rw (pow-suc, div-one, div-one) (omega arith)
low_bit (suc k) (suc m) x t h =
    let e : (x + 2 ^ suc m * t) / 2 ≡ x / 2 + 2 ^ m * t = rw pow-suc (omega arith) in
    ap (λ (n : ℕ). n % 2) (sym (half_half (x + 2 ^ suc m * t) k) ∙ ap (λ (n : ℕ). n / 2 ^ k) e)
    ∙ low_bit k m (x / 2) t (le_of_suc-le-suc h) ∙ ap (λ (n : ℕ). n % 2) (half_half x k)

high_bits : (k x t : ℕ) → x < 256 → (x + 256 * t) / 2 ^ (8 + k) ≡ t / 2 ^ k
high_bits k x t h = let e : (x + 256 * t) / 2 ^ 8 ≡ t = omega arith in sym (shr-shr (x + 256 * t) 8 k) ∙ ap (λ (n : ℕ). n / 2 ^ k) e

-- the number of k bytes from b on, the lowest first
abbrev word : List ℕ → ℕ → ℕ → ℕ
word s b zero = 0
word s b (suc k) = get_or s b 0 + 256 * word s (b + 1) k

pub four_bytes : (s : List ℕ) (b : ℕ) → u32_at s b ≡ word s b 4
unfolding u32_at
four_bytes s b =
    let two : b + 1 + 1 ≡ b + 2 = omega arith in
    let three : b + 2 + 1 ≡ b + 3 = omega arith in
    rw (two, three) (omega arith)

module _ (s : List ℕ) (bytes : (i : ℕ) → get_or s i 0 < 256) where
  word_bit : (k b i : ℕ) → i < 8 * k → word s b k / 2 ^ i % 2 ≡ bit_at s (8 * b + i)
  word_bit zero b i h = absurd (omega arith)
  word_bit (suc k) b i h = by (word_bit k (b + 1) (i - 8)) (dec_lt i 8)
    where
      by : (i - 8 < 8 * k → word s (b + 1) k / 2 ^ (i - 8) % 2 ≡ bit_at s (8 * (b + 1) + (i - 8)))
          → Dec (i < 8) → word s b (suc k) / 2 ^ i % 2 ≡ bit_at s (8 * b + i)
      by above (yes l) =
          let q : (8 * b + i) / 8 ≡ b = omega arith in
          let r : (8 * b + i) % 8 ≡ i = omega arith in
          low_bit i 8 (get_or s b 0) (word s (b + 1) k) l ∙ sym (ap₂ (λ (j m : ℕ). get_or s j 0 / 2 ^ m % 2) q r)
      by above (no l) =
          let e : i ≡ 8 + (i - 8) = omega arith in
          let f : 8 * (b + 1) + (i - 8) ≡ 8 * b + i = omega arith in
          ap (λ (m : ℕ). word s b (suc k) / 2 ^ m % 2) e ∙ ap (λ (m : ℕ). m % 2) (high_bits (i - 8) (get_or s b 0) (word s (b + 1) k) (bytes b))
          ∙ above (omega arith) ∙ ap (bit_at s) f

-- bits that are those of v
number_bits : (s : List ℕ) (i n v : ℕ) → ((j : ℕ) → j < n → v / 2 ^ j % 2 ≡ bit_at s (i + j)) → v % 2 ^ n ≡ number (bits_from s i n)
unfolding number bits_from
number_bits s i zero v h = mod-one v
number_bits s i (suc n) v h =
    let b : v % 2 ≡ bit_at s i = ap (λ (x : ℕ). x % 2) (sym (div-one v)) ∙ h 0 (omega arith) ∙ ap (bit_at s) (omega arith) in
    let r : v / 2 % 2 ^ n ≡ number (bits_from s (suc i) n) =
    number_bits s (suc i) n (v / 2) (λ j l. ap (λ (x : ℕ). x % 2) (half_half v j) ∙ h (suc j) (omega arith) ∙ ap (bit_at s) (omega arith)) in
    halves v n ∙ ap₂ (λ (x y : ℕ). x + 2 * y) (b ∙ sym (bit_n-bit_at s i)) r

-- n bits of the stream that stand o bits into the k bytes from b on
pub window_is : (s : List ℕ) → ((i : ℕ) → get_or s i 0 < 256) → (k b o n : ℕ) → o + n ≤ 8 * k
    → word s b k / 2 ^ o % 2 ^ n ≡ number (bits_from s (8 * b + o) n)
window_is s bytes k b o n h =
    number_bits s (8 * b + o) n (word s b k / 2 ^ o)
    (λ j l. ap (λ (x : ℕ). x % 2) (shr-shr (word s b k) o j) ∙ word_bit s bytes k b (o + j) (omega arith) ∙ ap (bit_at s) (omega arith))

-- of two bytes the second doesn't matter where the bits end in the first
one_byte : (x y z o n : ℕ) → o + n ≤ 8 → (x + 256 * y) / 2 ^ o % 2 ^ n ≡ (x + 256 * z) / 2 ^ o % 2 ^ n
one_byte x y z o n h = in_first y ∙ sym (in_first z)
  where
    in_first : (y : ℕ) → (x + 256 * y) / 2 ^ o % 2 ^ n ≡ x % 2 ^ (n + o) / 2 ^ o
    in_first y =
        let e : n + o + (8 - (n + o)) ≡ 8 = omega arith in
        let p : 256 * y ≡ 2 ^ (n + o) * (2 ^ (8 - (n + o)) * y) =
        ap (λ (k : ℕ). 2 ^ k * y) (sym e) ∙ ap (λ (k : ℕ). k * y) (pow-add 2 (n + o) (8 - (n + o))) ∙ mul_assoc (2 ^ (n + o)) (2 ^ (8 - (n + o))) y in
        sym (field (x + 256 * y) n o) ∙ ap (λ (k : ℕ). (x + k) % 2 ^ (n + o) / 2 ^ o) p
        ∙ ap (λ (k : ℕ). k / 2 ^ o) (add-mul-mod_self_left x (2 ^ (n + o)) (2 ^ (8 - (n + o)) * y))

-- bits that stand in the bytes b and e, which are one or two
pub in_two : (s : List ℕ) → ((i : ℕ) → get_or s i 0 < 256) → (b e o n : ℕ) → o + n ≤ 16 → (8 < o + n → e ≡ b + 1)
    → (get_or s b 0 + 256 * get_or s e 0) / 2 ^ o % 2 ^ n ≡ number (bits_from s (8 * b + o) n)
in_two s bytes b e o n h next = by (dec_lt 8 (o + n)) ∙ window_is s bytes 2 b o n (omega arith)
  where
    by : Dec (8 < o + n) → (get_or s b 0 + 256 * get_or s e 0) / 2 ^ o % 2 ^ n ≡ word s b 2 / 2 ^ o % 2 ^ n
    by (yes l) = ap (λ (k : ℕ). (get_or s b 0 + 256 * get_or s k 0) / 2 ^ o % 2 ^ n) (next l) ∙ ap (λ (k : ℕ). k / 2 ^ o % 2 ^ n) (omega arith)
    by (no l) = one_byte (get_or s b 0) (get_or s e 0) (word s (b + 1) 1) o n (omega arith)

-- ---- the window in the stream

part_forward : (s : List ℕ) (c p n : ℕ) → p + n ≤ c → bits_from s p n ≡ part (stream false s c) p n
unfolding stream
part_forward s c p n h =
    let l = length_part (stream false s c) p n (stream-fits false s c p n h) in
    ext_get_or false (bits_from s p n) (part (stream false s c) p n) (length-bits_from s p n ∙ sym l)
    (λ i k.
    let m : i < n = rw (length-bits_from) at k in
    get_or-bits_from s p n i m
    ∙ sym (get_or-take n (drop p (bits_from s 0 c)) i false m ∙ get_or-drop p (bits_from s 0 c) i false ∙ get_or-bits_from s 0 c (p + i) (omega arith)
    ∙ ap (λ (j : ℕ). is_one (bit_at s j)) (omega arith)))

part_reversed : (s : List ℕ) (c p n : ℕ) → p + n ≤ c → reverse (bits_from s (c - p - n) n) ≡ part (stream true s c) p n
unfolding stream
part_reversed s c p n h =
    let l = length_part (stream true s c) p n (stream-fits true s c p n h) in
    let ln : length (reverse (bits_from s (c - p - n) n)) ≡ n = length-reverse (bits_from s (c - p - n) n) ∙ length-bits_from s (c - p - n) n in
    ext_get_or false (reverse (bits_from s (c - p - n) n)) (part (stream true s c) p n) (ln ∙ sym l)
    (λ i k.
    let m : i < n = rw ln at k in
    turned_bit (c - p - n) n i m
    ∙ sym (get_or-take n (drop p (reverse (bits_from s 0 c))) i false m ∙ get_or-drop p (reverse (bits_from s 0 c)) i false
    ∙ turned_bit 0 c (p + i) (omega arith)
    ∙ ap (λ (j : ℕ). is_one (bit_at s j)) (omega arith)))
  where
    turned_bit : (q m i : ℕ) → i < m → get_or (reverse (bits_from s q m)) i false ≡ is_one (bit_at s (q + (m - suc i)))
    turned_bit q m i k =
        let l = length-bits_from s q m in
        get_d_reverse (bits_from s q m) i false (rw l k) ∙ ap (λ (j : ℕ). get_or (bits_from s q m) (j - suc i) false) l
        ∙ get_or-bits_from s q m (m - suc i) (omega arith)

module _ (s : Stream) (p n x : ℕ) (there : p + n ≤ s.count) where
  pub forward_is : s.reversed ≡ false → x ≡ number (bits_from s.bytes.now p n) → x ≡ number (part (all_bits s) p n)
  forward_is f e = rw f (e ∙ ap number (part_forward s.bytes.now s.count p n there))

  pub reversed_is : s.reversed ≡ true → (y : ℕ) → y ≡ number (bits_from s.bytes.now (s.count - p - n) n) → x ≡ number (reverse (bits_of n y))
      → x ≡ number (part (all_bits s) p n)
  reversed_is f y e r =
      let b : bits_of n y ≡ bits_from s.bytes.now (s.count - p - n) n =
      ap₂ bits_of (sym (length-bits_from s.bytes.now (s.count - p - n) n)) e ∙ bits_of-number (bits_from s.bytes.now (s.count - p - n) n) in
      rw f (r ∙ ap (λ (l : List Bool). number (reverse l)) b ∙ ap number (part_reversed s.bytes.now s.count p n there))
