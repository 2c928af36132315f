-- For any two letters and any body exactly one pair from 02 to 98 leaves 1: 98 less the remainder with 00.
use Prim.Native.Nat.{ℕ, ◌+◌, ◌*◌, ◌-◌, ◌%◌, ◌/◌, ◌<◌, ◌≤◌}
use mathlib.Core.Path.{◌≡◌, refl, sym, ap, ◌∙◌}
use mathlib.Core.List.{List, [], ◌∷◌, ◌++◌, append_assoc}
use native.Mathlib.Omega.{arith}
use native.Mathlib.Nat.{add-mul-mod_self_left, mod-eq_of_lt}
use lib.ListN.{length}
use Rattle.text.proofs.Modulo.{add_cancel}
use Rattle.mod97.specs.Text.{number, number_after, decimal_of}
use Rattle.mod97.specs.Pair.{moved, leaves, paired, pair_for}
use Rattle.mod97.proofs.Laws.{shift_one, number-none, number_cons, number_append, number_joined}
use Rattle.mod97.proofs.Numbers.{number-low}

-- the moved text: body, letters, pair
moved-paired : (letters : List ℕ) (p : ℕ) (body : List ℕ) → length letters ≡ 2
    → moved (paired letters p body) ≡ body ++ (letters ++ ((48 + p / 10) ∷ (48 + p % 10) ∷ []))
moved-paired [] p body h = absurd (omega arith)
moved-paired (a ∷ []) p body h = absurd (omega arith)
moved-paired (a ∷ b ∷ []) p body h = refl
moved-paired (a ∷ b ∷ c ∷ letters) p body h = absurd (omega arith)

-- what the code reads for it: the body, the letters, 00
pub made_read : (letters body : List ℕ) (v w x : ℕ) → length letters ≡ 2 → v % 97 ≡ number_after 0 body % 97 → w % 97 ≡ number_after v letters % 97
    → x % 97 ≡ number_after w (48 ∷ 48 ∷ []) % 97 → 98 - x % 97 ≡ pair_for letters body
unfolding pair_for
made_read letters body v w x h e f g =
    ap (λ (m : ℕ). 98 - m)
    (g
    ∙ number_joined (body ++ letters) (48 ∷ 48 ∷ []) w (f ∙ number_joined body letters v e)
    ∙ ap (λ (t : List ℕ). decimal_of t % 97) (append_assoc body letters (48 ∷ 48 ∷ []) ∙ sym (moved-paired letters 0 body h)))

-- a digit written after n
digit_after : (n d : ℕ) (s : List ℕ) → d < 10 → number_after n ((48 + d) ∷ s) ≡ number_after (n * 10 + d) s
digit_after n d s h =
    let e : number (48 + d) ≡ d = number-low (48 + d) (omega arith) ∙ omega arith in
    number_cons n (48 + d) s ∙ rw (shift_one (48 + d) (omega arith), e)

-- of the numbers from 2 to 98 exactly one makes a multiple of 97 and 1
good : (Y : ℕ) → (Y + (98 - Y % 97)) % 97 ≡ 1
good Y = ap (λ (m : ℕ). m % 97) (omega arith) ∙ add-mul-mod_self_left 1 97 (Y / 97 + 1)

alone : (Y p q : ℕ) → 2 ≤ p → p ≤ 98 → 2 ≤ q → q ≤ 98 → (Y + p) % 97 ≡ (Y + q) % 97 → p ≡ q
alone Y p q a b c d e =
    let i : (p - 2) % 97 ≡ (q - 2) % 97 =
    add_cancel 96 (Y + 2) (p - 2) (q - 2) (ap (λ (m : ℕ). m % 97) (omega arith) ∙ e ∙ ap (λ (m : ℕ). m % 97) (omega arith)) in
    let u : (p - 2) % 97 ≡ p - 2 = mod-eq_of_lt (omega arith) in
    let v : (q - 2) % 97 ≡ q - 2 = mod-eq_of_lt (omega arith) in
    omega arith

module _ (letters body : List ℕ) (two : length letters ≡ 2) where
  -- the number of the moved text: a hundred times what body and letters write, and the pair
  front : ℕ
  front = number_after (number_after 0 body) letters

  with_pair : (p : ℕ) → p < 100 → decimal_of (moved (paired letters p body)) ≡ front * 100 + p
  unfolding front
  with_pair p h =
      ap (number_after 0) (moved-paired letters p body two)
      ∙ number_append 0 body (letters ++ ((48 + p / 10) ∷ (48 + p % 10) ∷ []))
      ∙ number_append (number_after 0 body) letters ((48 + p / 10) ∷ (48 + p % 10) ∷ [])
      ∙ digit_after (number_after (number_after 0 body) letters) (p / 10) ((48 + p % 10) ∷ []) (omega arith)
      ∙ digit_after (number_after (number_after 0 body) letters * 10 + p / 10) (p % 10) [] (omega arith)
      ∙ number-none ((number_after (number_after 0 body) letters * 10 + p / 10) * 10 + p % 10)
      ∙ omega arith

  with_none : decimal_of (moved (paired letters 0 body)) ≡ front * 100
  with_none = with_pair 0 (omega arith) ∙ omega arith

  pub made_leaves_one : leaves (paired letters (pair_for letters body) body) ≡ 1
  unfolding pair_for
  made_leaves_one =
      let Y = decimal_of (moved (paired letters 0 body)) in
      ap (λ (m : ℕ). m % 97) (with_pair (98 - Y % 97) (omega arith))
      ∙ sym (ap (λ (m : ℕ). (m + (98 - Y % 97)) % 97) with_none)
      ∙ good Y

  pub one_leaves_one : (q : ℕ) → 2 ≤ q → q ≤ 98 → leaves (paired letters q body) ≡ 1 → q ≡ pair_for letters body
  unfolding pair_for
  one_leaves_one q h l e =
      let Y = decimal_of (moved (paired letters 0 body)) in
      let w : (Y + q) % 97 ≡ 1 = ap (λ (m : ℕ). (m + q) % 97) with_none ∙ sym (ap (λ (m : ℕ). m % 97) (with_pair q (omega arith))) ∙ e in
      alone Y q (98 - Y % 97) h l (omega arith) (omega arith) (w ∙ sym (good Y))
