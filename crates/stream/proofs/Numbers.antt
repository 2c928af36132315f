-- Laws on numbers written in bits, the lowest first: put together, taken apart, turned round.
use mathlib.Core.Path.{◌≡◌, refl, sym, ap, ap₂, ◌∙◌}
use mathlib.Core.Bool.{Bool, true, false}
use mathlib.Core.List.{List, [], ◌∷◌, ◌++◌, reverse, reverse-append}
use Prim.Native.Nat.{ℕ, zero, suc, ◌+◌, ◌-◌, ◌*◌, ◌/◌, ◌%◌, ◌^◌, ◌≤◌, ◌<◌}
use native.Mathlib.Nat.{pow-suc, zero-add, suc-add, mod-one, zero-mod, zero-div, div-one, one-mul, lt_of_lt_of_le}
use native.Mathlib.Numerals.{one-add}
use native.Mathlib.Omega.{arith}
use lib.Arith.{mod-mul}
use lib.Dec.{lit<}
use lib.Pow.{pow_pos, pow_mono, shl_exact, shr-shr, high}
use lib.ListN.{length, take, drop, length-reverse}
use Rattle.stream.specs.Stream.{is_one, bit_n, number, bits_of}
use Rattle.stream.proofs.Streams.{bit_n-is_one}

pub bit_n_le : (b : Bool) → bit_n b ≤ 1
bit_n_le false = omega arith
bit_n_le true = omega arith

pub bit_one : (b : Bool) → bit_n b ≡ 1 → b ≡ true
bit_one true e = refl
bit_one false e = absurd (omega arith)

pub bit_zero : (b : Bool) → (bit_n b ≡ 1 → ⊥) → b ≡ false
bit_zero true e = absurd (e refl)
bit_zero false e = refl

is_one-bit_n : (b : Bool) → is_one (bit_n b) ≡ b
is_one-bit_n false = refl
is_one-bit_n true = refl

-- the lowest bit of a number, and the number of those above it
module _ (b : Bool) (l : List Bool) where
  pub lowest : (bit_n b + 2 * number l) % 2 ≡ bit_n b
  lowest = omega (arith, bit_n_le b)

  pub above : (bit_n b + 2 * number l) / 2 ≡ number l
  above = omega (arith, bit_n_le b)

pub number_lt : (l : List Bool) → number l < 2 ^ length l
unfolding number
number_lt [] = omega arith
number_lt (b ∷ l) = rw pow-suc (omega (arith, number_lt l, bit_n_le b))

pub in_byte : (x k : ℕ) → x < 2 ^ k → k ≤ 8 → x < 256
in_byte x k h l = lt_of_lt_of_le h (pow_mono l)

-- a one shifted by k, in a word of w bits
pub power : (k w : ℕ) → k < w → (1 * 2 ^ k) % 2 ^ w ≡ 2 ^ k
power k w h = shl_exact {a = 1} 1 k w (lit< tt) (omega arith) ∙ one-mul (2 ^ k)

pub half_half : (n k : ℕ) → n / 2 / 2 ^ k ≡ n / 2 ^ suc k
half_half n k = shr-shr n 1 k ∙ ap (λ (j : ℕ). n / 2 ^ j) (one-add k)

-- the lowest bit, and the k bits above it
pub halves : (n k : ℕ) → n % 2 ^ suc k ≡ n % 2 + 2 * (n / 2 % 2 ^ k)
halves n k =
    let m : n % (2 ^ k * 2) ≡ n / 2 % 2 ^ k * 2 + n % 2 = mod-mul n {m = 2 ^ k} {c = 2} (pow_pos k) (omega arith) in
    rw pow-suc (omega arith)

number_append : (l m : List Bool) → number (l ++ m) ≡ number l + 2 ^ length l * number m
unfolding number
number_append [] m = sym (zero-add (1 * number m) ∙ one-mul (number m))
number_append (b ∷ l) m = rw pow-suc (omega (arith, number_append l m))

pub number-take : (k : ℕ) (l : List Bool) → number (take k l) ≡ number l % 2 ^ k
unfolding number
number-take zero l = sym (mod-one (number l))
number-take (suc k) [] = sym (zero-mod (2 ^ suc k))
number-take (suc k) (b ∷ l) =
    ap (λ (n : ℕ). bit_n b + 2 * n) (number-take k l)
    ∙ sym (halves (bit_n b + 2 * number l) k ∙ ap₂ (λ (x y : ℕ). x + 2 * (y % 2 ^ k)) (lowest b l) (above b l))

pub number-drop : (k : ℕ) (l : List Bool) → number (drop k l) ≡ number l / 2 ^ k
unfolding number
number-drop zero l = sym (div-one (number l))
number-drop (suc k) [] = sym (zero-div (2 ^ suc k))
number-drop (suc k) (b ∷ l) = number-drop k l ∙ ap (λ (x : ℕ). x / 2 ^ k) (sym (above b l)) ∙ half_half (bit_n b + 2 * number l) k

pub length-bits_of : (k n : ℕ) → length (bits_of k n) ≡ k
length-bits_of zero n = refl
length-bits_of (suc k) n = ap suc (length-bits_of k (n / 2))

pub number-bits_of : (k n : ℕ) → number (bits_of k n) ≡ n % 2 ^ k
unfolding number
number-bits_of zero n = sym (mod-one n)
number-bits_of (suc k) n =
    ap₂ (λ (x y : ℕ). x + 2 * y) (bit_n-is_one (n % 2) (omega arith)) (number-bits_of k (n / 2)) ∙ sym (halves n k)

pub bits_of-number : (l : List Bool) → bits_of (length l) (number l) ≡ l
unfolding number
bits_of-number [] = refl
bits_of-number (b ∷ l) =
    ap₂ (λ (x y : ℕ). is_one x ∷ bits_of (length l) y) (lowest b l) (above b l)
    ∙ ap₂ (λ (c : Bool) (m : List Bool). c ∷ m) (is_one-bit_n b) (bits_of-number l)

-- bits above the k lowest don't matter
same_bits : (k n : ℕ) → bits_of k (n % 2 ^ k) ≡ bits_of k n
same_bits k n = ap₂ bits_of (sym (length-bits_of k n)) (sym (number-bits_of k n)) ∙ bits_of-number (bits_of k n)

bits_of-add : (j k n : ℕ) → bits_of (j + k) n ≡ bits_of j n ++ bits_of k (n / 2 ^ j)
bits_of-add zero k n = ap₂ bits_of (zero-add k) (sym (div-one n))
bits_of-add (suc j) k n =
    rw suc-add (ap (λ (l : List Bool). is_one (n % 2) ∷ l) (bits_of-add j k (n / 2) ∙ ap (λ (m : ℕ). bits_of j (n / 2) ++ bits_of k m) (half_half n j)))

-- bits turned round, of which j stand below k
turned_parts : (j k n : ℕ) → number (reverse (bits_of (j + k) n)) ≡ number (reverse (bits_of j n)) * 2 ^ k + number (reverse (bits_of k (n / 2 ^ j)))
turned_parts j k n =
    let high : length (reverse (bits_of k (n / 2 ^ j))) ≡ k = length-reverse (bits_of k (n / 2 ^ j)) ∙ length-bits_of k (n / 2 ^ j) in
    ap number (ap reverse (bits_of-add j k n) ∙ reverse-append (bits_of j n) (bits_of k (n / 2 ^ j)))
    ∙ number_append (reverse (bits_of k (n / 2 ^ j))) (reverse (bits_of j n))
    ∙ ap (λ (m : ℕ). number (reverse (bits_of k (n / 2 ^ j))) + 2 ^ m * number (reverse (bits_of j n))) high ∙ omega arith

pub turned_lt : (k n : ℕ) → number (reverse (bits_of k n)) < 2 ^ k
turned_lt k n = rw (length-reverse, length-bits_of) at (number_lt (reverse (bits_of k n)))

-- the lowest bits turned round are what is left of ten bits turned round, once those above them are taken off
pub turned_is : (n k x y : ℕ) → k ≤ 10 → x ≡ number (reverse (bits_of 5 (n % 32))) → y ≡ number (reverse (bits_of 5 (n / 32)))
    → (32 * x + y) / 2 ^ (10 - k) ≡ number (reverse (bits_of k n))
turned_is n k x y h ex ey =
    let low : bits_of 5 (n % 32) ≡ bits_of 5 n = same_bits 5 n in
    let ten : number (reverse (bits_of 10 n)) ≡ 32 * x + y =
    turned_parts 5 5 n ∙ ap₂ (λ (i j : ℕ). i * 32 + j) (sym (ex ∙ ap (λ (l : List Bool). number (reverse l)) low)) (sym ey) ∙ omega arith in
    let e : k + (10 - k) ≡ 10 = omega arith in
    let parts = ap (λ (m : ℕ). number (reverse (bits_of m n))) (sym e) ∙ turned_parts k (10 - k) n in
    ap (λ (m : ℕ). m / 2 ^ (10 - k)) (sym ten ∙ parts) ∙ high (number (reverse (bits_of k n))) (10 - k) (turned_lt (10 - k) (n / 2 ^ k))
