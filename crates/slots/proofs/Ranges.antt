-- Answers that tell, what holds of every number of a range, and four zeros at a look.
use Prim.Native.Nat.{ℕ, ◌≤◌, ◌<◌, ◌+◌, ◌-◌}
use mathlib.Core.Path.{◌≡◌, ap, ◌∙◌, subst⁻¹}
use mathlib.Core.Bool.{Bool, true, false}
use mathlib.Core.List.{List}
use native.Mathlib.Omega.{arith}
use native.Mathlib.Decide.{dec_lt}
use borrow.Author.Count.{below_more}
use lib.ListN.{get_or}
use Rattle.text.specs.Numbers.{u32_at}
use Rattle.slots.specs.Record.{Zeros}
use Rattle.slots.specs.Journal.{Tells}

-- ---- answers that tell

pub differ : (t : Bool) → t ≡ false → t ≡ true → ⊥
differ t e f = let z : ◌≡◌ {A = ℕ} 0 1 = cc in omega arith

pub tells_yes : {P : Type 0} → P → Tells true P
tells_yes p = ((λ _. p), λ e _. let z : ◌≡◌ {A = ℕ} 0 1 = cc in omega arith)

pub tells_no : {P : Type 0} → (P → ⊥) → Tells false P
tells_no np = ((λ e. absurd (let z : ◌≡◌ {A = ℕ} 0 1 = cc in omega arith)), λ _ p. np p)

pub tells_as : {P Q : Type 0} {t : Bool} → Tells t P → (P → Q) → (Q → P) → Tells t Q
tells_as w f g = ((λ e. f (w.0 e)), λ e q. w.1 e (g q))

-- ---- what holds of every number of a range

pub range_none : (P : ℕ → Type 0) (a : ℕ) (k : ℕ) → a ≤ k → k < a → P k
range_none P a k l h = absurd (omega arith)

pub range_more : (P : ℕ → Type 0) (a i : ℕ) → ((k : ℕ) → a ≤ k → k < i → P k) → P i → (k : ℕ) → a ≤ k → k < i + 1 → P k
range_more P a i all here k l h =
    below_more (λ (m : ℕ). a ≤ m → P m) i (λ m hm lm. all m lm hm) (λ _. here) k h l

pub down_more : (P : ℕ → Type 0) (s b : ℕ) → 0 < s → ((k : ℕ) → s < k → k ≤ b → P k) → P s → (k : ℕ) → s - 1 < k → k ≤ b → P k
down_more P s b pos all here k l h = go (dec_lt s k)
  where
    go : Dec (s < k) → P k
    go (yes q) = all k q h
    go (no q) = let e : k ≡ s = omega arith in subst⁻¹ P e here

-- ---- four zeros at a look

pub zero_word : (j : List ℕ) (i : ℕ) → u32_at j i ≡ 0 → Zeros j i (i + 4)
unfolding u32_at
zero_word j i e k l h = go (dec_lt k (i + 1)) (dec_lt k (i + 2)) (dec_lt k (i + 3))
  where
    at : (m : ℕ) → k ≡ m → get_or j m 0 ≡ 0 → get_or j k 0 ≡ 0
    at m q z = ap (λ (x : ℕ). get_or j x 0) q ∙ z

    go : Dec (k < i + 1) → Dec (k < i + 2) → Dec (k < i + 3) → get_or j k 0 ≡ 0
    go (yes a) b c = at i (omega arith) (omega arith)
    go (no a) (yes b) c = at (i + 1) (omega arith) (omega arith)
    go (no a) (no b) (yes c) = at (i + 2) (omega arith) (omega arith)
    go (no a) (no b) (no c) = at (i + 3) (omega arith) (omega arith)

pub word_zero : (j : List ℕ) (from to i : ℕ) → Zeros j from to → from ≤ i → i + 4 ≤ to → u32_at j i ≡ 0
unfolding u32_at
word_zero j from to i z l h =
    omega (arith, z i (omega arith) (omega arith), z (i + 1) (omega arith) (omega arith), z (i + 2) (omega arith) (omega arith), z (i + 3) (omega arith) (omega arith))

pub zeros_join : (j : List ℕ) (a b c : ℕ) → Zeros j a b → Zeros j b c → Zeros j a c
zeros_join j a b c x y k l h = go (dec_lt k b)
  where
    go : Dec (k < b) → get_or j k 0 ≡ 0
    go (yes q) = x k l q
    go (no q) = y k (omega arith) h
