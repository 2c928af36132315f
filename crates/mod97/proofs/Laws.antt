-- The number that a text writes, character by character, and its remainder modulo 97.
use Prim.Native.Nat.{ℕ, suc, ◌+◌, ◌*◌, ◌-◌, ◌%◌, ◌/◌, ◌<◌, ◌≤◌}
use mathlib.Core.Path.{◌≡◌, refl, sym, ap, ◌∙◌}
use mathlib.Core.Bool.{Bool, true, false, cond}
use mathlib.Core.List.{List, [], ◌∷◌, ◌++◌}
use native.Mathlib.Omega.{arith}
use native.Mathlib.Nat.{mul_comm}
use lib.Dec.{ltb}
use lib.ListN.{take, drop, length, get_or, length-drop, drop_of_length-le}
use lib.Seq.{drop-cons, take_all}
use borrow.Author.Tests.{lt-ltb, le-ltb}
use Rattle.text.specs.Numbers.{decimal_after}
use Rattle.text.proofs.Modulo.{mul_cong, add_cong, mul_cancel, add_cancel}
use Rattle.mod97.specs.Text.{number, in_decimal, written, number_after}
use Rattle.mod97.specs.Pair.{leaves}

-- what stands before a character's number is multiplied by: ten for one digit, a hundred for two
unfoldable pub shift : ℕ → ℕ
shift c = cond (ltb (number c) 10) 10 100

pub shift_one : (c : ℕ) → number c < 10 → shift c ≡ 10
unfolding shift
shift_one c h = rw (lt-ltb (number c) 10 h)

pub shift_two : (c : ℕ) → 10 ≤ number c → shift c ≡ 100
unfolding shift
shift_two c h = rw (le-ltb (number c) 10 h)

digits_read : (one : Bool) (n v : ℕ) (ds : List ℕ)
    → decimal_after n (cond one ((48 + v) ∷ []) ((48 + v / 10) ∷ (48 + v % 10) ∷ []) ++ ds) ≡ decimal_after (n * cond one 10 100 + v) ds
unfolding decimal_after
digits_read true n v ds = ap (λ (m : ℕ). decimal_after m ds) (omega arith)
digits_read false n v ds = ap (λ (m : ℕ). decimal_after m ds) (omega arith)

-- 'Write each character's number in decimal, one after another': the fold that the code computes reads the same number
pub number_cons : (n c : ℕ) (s : List ℕ) → number_after n (c ∷ s) ≡ number_after (n * shift c + number c) s
unfolding number_after written in_decimal shift
number_cons n c s = digits_read (ltb (number c) 10) n (number c) (written s)

pub number-none : (n : ℕ) → number_after n [] ≡ n
unfolding number_after written decimal_after
number-none n = refl

-- one character written after r
pub written_one : (r c : ℕ) → number c < 10 → number_after r (c ∷ []) ≡ 10 * r + number c
written_one r c h = number_cons r c [] ∙ number-none (r * shift c + number c) ∙ rw (shift_one c h) (omega arith)

pub written_two : (r c : ℕ) → 10 ≤ number c → number_after r (c ∷ []) ≡ 100 * r + number c
written_two r c h = number_cons r c [] ∙ number-none (r * shift c + number c) ∙ rw (shift_two c h) (omega arith)

pub number_append : (n : ℕ) (s t : List ℕ) → number_after n (s ++ t) ≡ number_after (number_after n s) t
number_append n [] t = ap (λ (m : ℕ). number_after m t) (sym (number-none n))
number_append n (c ∷ s) t =
    number_cons n c (s ++ t)
    ∙ number_append (n * shift c + number c) s t
    ∙ ap (λ (m : ℕ). number_after m t) (sym (number_cons n c s))

-- a character at its place
pub number_at : (n : ℕ) (x : List ℕ) (c : ℕ) (y : List ℕ) → number_after n (x ++ c ∷ y) ≡ number_after (number_after n x * shift c + number c) y
number_at n x c y = number_append n x (c ∷ y) ∙ number_cons (number_after n x) c y

-- equal remainders stay equal when the same character is written after both
step_cong : (a b c : ℕ) → a % 97 ≡ b % 97 → (a * shift c + number c) % 97 ≡ (b * shift c + number c) % 97
step_cong a b c h = add_cong 97 (a * shift c) (b * shift c) (number c) (number c) (rw (mul_comm a, mul_comm b) (mul_cong 97 (shift c) a b h)) refl

-- and were equal before: 10 and 100 have inverses modulo 97
inverse : (one : Bool) → (cond one 68 65 * cond one 10 100) % 97 ≡ 1 % 97
inverse true = refl
inverse false = refl

step_inj : (a b c : ℕ) → (a * shift c + number c) % 97 ≡ (b * shift c + number c) % 97 → a % 97 ≡ b % 97
unfolding shift
step_inj a b c h =
    mul_cancel 97 (cond (ltb (number c) 10) 68 65) (shift c) a b (inverse (ltb (number c) 10))
    (rw (mul_comm (shift c) a, mul_comm (shift c) b) (add_cancel 96 (number c) (a * shift c) (b * shift c) h))

-- what is written after two numbers leaves equal remainders exactly where the two do
number_cong : (s : List ℕ) (a b : ℕ) → a % 97 ≡ b % 97 → number_after a s % 97 ≡ number_after b s % 97
number_cong [] a b h = rw (number-none a, number-none b) h
number_cong (c ∷ s) a b h = rw (number_cons a c s, number_cons b c s) (number_cong s (a * shift c + number c) (b * shift c + number c) (step_cong a b c h))

pub number_inj : (s : List ℕ) (a b : ℕ) → number_after a s % 97 ≡ number_after b s % 97 → a % 97 ≡ b % 97
number_inj [] a b h = rw (number-none a, number-none b) at h
number_inj (c ∷ s) a b h = step_inj a b c (number_inj s (a * shift c + number c) (b * shift c + number c) (rw (number_cons a c s, number_cons b c s) at h))

-- one turn of the loop, from a number w that leaves what v leaves; and its end
pub number_turn : (s : List ℕ) (i v w : ℕ) → i < length s → w % 97 ≡ v % 97
    → number_after (number_after w (get_or s i 0 ∷ [])) (drop (suc i) s) % 97 ≡ number_after v (drop i s) % 97
number_turn s i v w h e =
    ap (λ (m : ℕ). m % 97) (sym (number_append w (get_or s i 0 ∷ []) (drop (suc i) s)))
    ∙ ap (λ (l : List ℕ). number_after w l % 97) (sym (drop-cons s i 0 h))
    ∙ number_cong (drop i s) w v e

pub number_end : (s : List ℕ) (i v : ℕ) → length s ≤ i → number_after v (drop i s) ≡ v
number_end s i v h = rw (drop_of_length-le s h) (number-none v)

-- two texts read one after the other, from a number between them that leaves what the first leaves
pub number_joined : (s t : List ℕ) (v : ℕ) → v % 97 ≡ number_after 0 s % 97 → number_after v t % 97 ≡ number_after 0 (s ++ t) % 97
number_joined s t v e = number_cong t v (number_after 0 s) e ∙ ap (λ (m : ℕ). m % 97) (sym (number_append 0 s t))

-- the rest of a text, then its first four characters
pub moved_read : (s : List ℕ) (v : ℕ) → v % 97 ≡ number_after 0 (take (length s - 4) (drop 4 s)) % 97 → number_after v (take 4 s) % 97 ≡ leaves s
moved_read s v e =
    number_joined (drop 4 s) (take 4 s) v (e ∙ ap (λ (x : List ℕ). number_after 0 x % 97) (take_all (length s - 4) (drop 4 s) (omega (arith, length-drop 4 s))))
