-- Digits and pairs of hexadecimal digits.
use Prim.Native.Nat.{ℕ, zero, suc, ◌+◌, ◌-◌, ◌*◌, ◌/◌, ◌%◌, ◌≤◌, ◌<◌}
use mathlib.Core.Path.{◌≡◌, refl, sym, ap, ◌∙◌}
use mathlib.Core.Bool.{Bool, true, false, cond}
use mathlib.Core.List.{List, [], ◌∷◌}
use native.Mathlib.Omega.{arith}
use native.Mathlib.Numerals.{add-one}
use lib.Dec.{T, ltb, eqb}
use lib.ListN.{length, drop, get_or}
use borrow.Author.Tests.{ltb-true, eqb-true}
use Rattle.std.specs.Prelude.{Option, Some, None, is_some}
use Rattle.text.specs.Bytes.{every}
use Rattle.text.specs.Numbers.{decimal_after}
use Rattle.text.proofs.Numbers.{decimal_turn}
use Rattle.text.proofs.Every.{every_at}
use Rattle.text.proofs.Below.{below}
use Rattle.text.proofs.Tests.{both_true}
use Rattle.numerals.specs.Numbers.{hex_value, is_hex, bytes_in, glyph, hex_text}

-- further digits make no smaller number
pub decimal_more : (s : List ℕ) (v : ℕ) → v ≤ decimal_after v s
unfolding decimal_after
decimal_more [] v = omega arith
decimal_more (b ∷ s) v = let h : 10 * v + (b - 48) ≤ decimal_after (10 * v + (b - 48)) s = decimal_more s (10 * v + (b - 48)) in omega arith

-- one digit more
pub decimal_step : (s : List ℕ) (v i d x : ℕ) → i < length s → decimal_after v (drop i s) ≡ x → d ≡ get_or s i 0 - 48
    → decimal_after (10 * v + d) (drop (i + 1) s) ≡ x
decimal_step s v i d x h e f = (λ j. decimal_after (10 * v + f j) (drop (add-one i j) s)) ∙ sym (decimal_turn s v i h) ∙ e

-- pairs write half as many bytes
pub bytes_length : (s : List ℕ) → length (bytes_in s) ≡ length s / 2
unfolding bytes_in
bytes_length [] = refl
bytes_length (a ∷ []) = refl
bytes_length (a ∷ b ∷ s) = let e = bytes_length s in omega arith

-- byte k is that of the digits at 2 k and 2 k + 1
pub bytes_at : (s : List ℕ) (k : ℕ) → 2 * k + 2 ≤ length s → get_or (bytes_in s) k 0 ≡ 16 * hex_value (get_or s (2 * k) 0) + hex_value (get_or s (2 * k + 1) 0)
unfolding bytes_in
bytes_at [] k h = absurd (omega arith)
bytes_at (a ∷ []) k h = absurd (omega arith)
bytes_at (a ∷ b ∷ s) zero h = refl
bytes_at (a ∷ b ∷ s) (suc k) h =
    let e : 2 * suc k ≡ suc (suc (2 * k)) = omega arith in
    let f : 2 * suc k + 1 ≡ suc (suc (2 * k + 1)) = omega arith in
    bytes_at s k (omega arith)
    ∙ ap (λ (n : ℕ). 16 * hex_value (get_or (a ∷ b ∷ s) n 0) + hex_value (get_or s (2 * k + 1) 0)) (sym e)
    ∙ ap (λ (n : ℕ). 16 * hex_value (get_or (a ∷ b ∷ s) (2 * suc k) 0) + hex_value (get_or (a ∷ b ∷ s) n 0)) (sym f)

-- whether a byte is a digit is whether it stands for a number
module _ (b : ℕ) (o : Option ℕ) (e : o ≡ cond (is_hex b) (Some (hex_value b)) None) where
  pub some_hex : is_some o ≡ is_hex b
  some_hex = ap is_some e ∙ go (is_hex b)
    where
      go : (t : Bool) → is_some (cond t (Some (hex_value b)) None) ≡ t
      go true = refl
      go false = refl

  value_is : (v : ℕ) → o ≡ Some v → v ≡ hex_value b
  value_is v f = go (is_hex b) (sym e ∙ f)
    where
      go : (t : Bool) → cond t (Some (hex_value b)) None ≡ Some v → v ≡ hex_value b
      go true g = cc
      go false g = cc

-- each digit of a word of hexadecimal digits is below 16
hex_below : (b : ℕ) → is_hex b ≡ true → hex_value b < 16
unfolding is_hex
hex_below b h = ltb-true (hex_value b) 16 h

pub digit_at : (s : List ℕ) (i : ℕ) (o : Option ℕ) (v : ℕ) → every is_hex s ≡ true → i < length s
    → o ≡ cond (is_hex (get_or s i 0)) (Some (hex_value (get_or s i 0))) None → o ≡ Some v → (v ≡ hex_value (get_or s i 0)) × (v < 16)
digit_at s i o v h l e f =
    let k = value_is (get_or s i 0) o e v f in
    (k, omega (arith, k, hex_below (get_or s i 0) (every_at is_hex s i h l)))

-- a hexadecimal digit is read back
pub glyph_value : (n : ℕ) → n < 16 → hex_value (glyph n) ≡ n
unfolding hex_value glyph
glyph_value n h = eqb-true (hex_value (glyph n)) n (is_true _ (below (λ m. eqb (hex_value (glyph m)) m) 16 tt n h))
  where
    is_true : (b : Bool) → T b → b ≡ true
    is_true true t = refl
    is_true false t = absurd t

-- bytes written in hexadecimal are read back
pub text_bytes : (s : List ℕ) → every (λ b. ltb b 256) s ≡ true → bytes_in (hex_text s) ≡ s
unfolding bytes_in hex_text every
text_bytes [] h = refl
text_bytes (b ∷ s) h =
    let p = both_true (ltb b 256) (every (λ c. ltb c 256) s) h in
    let l = ltb-true b 256 p.0 in
    let hi = glyph_value (b / 16) (omega arith) in
    let lo = glyph_value (b % 16) (omega arith) in
    let e : 16 * hex_value (glyph (b / 16)) + hex_value (glyph (b % 16)) ≡ b = omega arith in
    ap (λ (x : ℕ). x ∷ bytes_in (hex_text s)) e ∙ ap (λ (r : List ℕ). b ∷ r) (text_bytes s p.1)
