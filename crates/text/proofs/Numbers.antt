-- Numbers written into bytes are read back; a run of digits, one turn of its loop and its bound.
use Prim.Native.Nat.{ℕ, suc, ◌≤◌, ◌<◌, ◌+◌, ◌-◌, ◌*◌, ◌/◌, ◌%◌, ◌^◌}
use mathlib.Core.Path.{◌≡◌, sym, ap, ◌∙◌}
use mathlib.Core.Bool.{true}
use mathlib.Core.List.{List, [], ◌∷◌, ◌++◌}
use native.Mathlib.Omega.{arith}
use native.Mathlib.Nat.{pow-suc, div-div-eq-div-mul, div-add-mod, mod-eq_of_lt, lt_of_lt_of_le, mul-le-mul_right, mul_assoc, mul_comm}
use lib.ListN.{length, get_or, drop, drop_of_length-le}
use lib.Seq.{drop-cons}
use Rattle.text.specs.Bytes.{is_digit, every, all_digits}
use Rattle.text.specs.Numbers.{u16_at, u32_at, le16, le32, decimal_after}
use Rattle.text.proofs.Tests.{both_true, inside_is}

-- what was written is read
pub u16_le16 : (x : ℕ) (s : List ℕ) → x < 65536 → u16_at (le16 x ++ s) 0 ≡ x
unfolding u16_at le16
u16_le16 x s h = omega arith

pub u32_le32 : (x : ℕ) (s : List ℕ) → x < 4294967296 → u32_at (le32 x ++ s) 0 ≡ x
unfolding u32_at le32
u32_le32 x s h =
    let a : x / 256 / 256 ≡ x / 65536 = div-div-eq-div-mul x 256 256 in
    let b : x / 65536 / 256 ≡ x / 16777216 = div-div-eq-div-mul x 65536 256 in
    let top : x / 16777216 % 256 ≡ x / 16777216 = mod-eq_of_lt (omega arith) in
    four x (x / 256) (x / 65536) (x / 16777216) (x % 256) (x / 256 % 256) (x / 65536 % 256) (x / 16777216 % 256)
    (div-add-mod x 256) (ap (λ (q : ℕ). 256 * q + x / 256 % 256) (sym a) ∙ div-add-mod (x / 256) 256)
    (ap (λ (q : ℕ). 256 * q + x / 65536 % 256) (sym b) ∙ div-add-mod (x / 65536) 256) top
  where
    four : (x q1 q2 q3 r0 r1 r2 r3 : ℕ) → 256 * q1 + r0 ≡ x → 256 * q2 + r1 ≡ q1 → 256 * q3 + r2 ≡ q2 → r3 ≡ q3
        → r0 + 256 * r1 + 65536 * r2 + 16777216 * r3 ≡ x
    four x q1 q2 q3 r0 r1 r2 r3 e0 e1 e2 e3 = omega arith

-- a digit stands for 0 to 9
pub digit_small : (b : ℕ) → is_digit b ≡ true → (48 ≤ b) × (b ≤ 57)
unfolding is_digit
digit_small b h = inside_is 48 57 b h

-- one turn of the loop, and its end
pub decimal_turn : (s : List ℕ) (v i : ℕ) → i < length s → decimal_after v (drop i s) ≡ decimal_after (10 * v + (get_or s i 0 - 48)) (drop (suc i) s)
unfolding decimal_after
decimal_turn s v i h = rw (drop-cons s i 0 h)

pub decimal_end : (s : List ℕ) (v i : ℕ) → length s ≤ i → decimal_after v (drop i s) ≡ v
unfolding decimal_after
decimal_end s v i h = rw (drop_of_length-le s h)

-- n digits after v stay below (v + 1) times 10 ^ n
pub decimal_bound : (s : List ℕ) (v : ℕ) → all_digits s ≡ true → decimal_after v s < suc v * 10 ^ length s
unfolding decimal_after every
decimal_bound [] v h = omega arith
decimal_bound (b ∷ s) v h =
    let t = both_true (is_digit b) (every is_digit s) h in
    let d = digit_small b t.0 in
    let i : decimal_after (10 * v + (b - 48)) s < suc (10 * v + (b - 48)) * 10 ^ length s = decimal_bound s (10 * v + (b - 48)) t.1 in
    bounded (decimal_after (10 * v + (b - 48)) s) (10 * v + (b - 48)) v (length s) i (omega arith)
  where
    bounded : (x w u n : ℕ) → x < suc w * 10 ^ n → suc w ≤ 10 * suc u → x < suc u * 10 ^ suc n
    bounded x w u n h l =
        let e : 10 * suc u * 10 ^ n ≡ suc u * 10 ^ suc n =
        ap (λ (m : ℕ). m * 10 ^ n) (mul_comm 10 (suc u)) ∙ mul_assoc (suc u) 10 (10 ^ n) ∙ ap (λ (m : ℕ). suc u * m) (mul_comm 10 (10 ^ n) ∙ sym (pow-suc 10 n)) in
        let k : suc w * 10 ^ n ≤ 10 * suc u * 10 ^ n = mul-le-mul_right (10 ^ n) l in
        lt_of_lt_of_le h (omega (arith, k, e))
