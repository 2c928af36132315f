-- One turn and the end of each loop over a line, and where a word ends.
use Prim.Native.Nat.{ℕ, zero, suc, ◌+◌, ◌-◌, ◌≤◌, ◌<◌}
use mathlib.Core.Path.{◌≡◌, refl, sym, ap, ◌∙◌}
use mathlib.Core.Bool.{Bool, true, false, cond, ◌&&◌, ◌||◌, and-true, and-false}
use mathlib.Core.List.{List, [], ◌∷◌}
use mathlib.Core.Logic.{◌⊎◌, inl, inr}
use native.Mathlib.Omega.{arith}
use native.Mathlib.Numerals.{add-one}
use lib.Dec.{eqb}
use lib.ListN.{length, take, drop, get_or, drop_of_length-le}
use lib.Seq.{drop-cons, drop-drop}
use Rattle.std.specs.Prelude.{count_by}
use Rattle.std.proofs.lemmas.List.Recursion.{is_count_by}
use borrow.Author.Tests.{eq-eqb, ne_eqb, eqb-true}
use Rattle.text.proofs.Tests.{both_true}
use Rattle.script.specs.Words.{is_space, first_word, after_word, after_words, spaces, gap_after, plain, same}

-- the first word is the line's front, and the rest follows after one byte more
pub first_front : (s : List ℕ) → take (length (first_word s)) s ≡ first_word s
unfolding first_word
first_front [] = refl
first_front (b ∷ s) = by (is_space b) (first_front s)
  where
    by : (t : Bool) → take (length (first_word s)) s ≡ first_word s → take (length (cond t [] (b ∷ first_word s))) (b ∷ s) ≡ cond t [] (b ∷ first_word s)
    by true e = refl
    by false e = ap (λ (l : List ℕ). b ∷ l) e

pub after_rest : (s : List ℕ) → drop (suc (length (first_word s))) s ≡ after_word s
unfolding first_word after_word
after_rest [] = refl
after_rest (b ∷ s) = by (is_space b) (after_rest s)
  where
    by : (t : Bool) → drop (suc (length (first_word s))) s ≡ after_word s → drop (suc (length (cond t [] (b ∷ first_word s)))) (b ∷ s) ≡ cond t s (after_word s)
    by true e = refl
    by false e = e

-- a space adds a word
pub spaces_count : (s : List ℕ) → spaces s ≡ count_by is_space s
unfolding spaces
spaces_count = is_count_by spaces is_space refl (λ b s. let e : suc (spaces s) ≡ 1 + spaces s = omega arith in ap (λ (n : ℕ). cond (is_space b) n (spaces s)) e)

-- after an empty rest there is nothing
pub after_none : (k : ℕ) → after_words k [] ≡ []
unfolding after_words after_word
after_none zero = refl
after_none (suc k) = after_none k

no_both : (a b : Bool) → (a ≡ false) ⊎ (b ≡ false) → (a && b) ≡ false
no_both true b (inl h) = let z : ◌≡◌ {A = ℕ} 0 1 = cc in absurd (omega arith)
no_both true b (inr h) = h
no_both false b h = refl

module _ (s : List ℕ) (i : ℕ) where
  -- the word that starts at i: at a space it is empty, and so it is at the line's end
  pub first_space : i < length s → get_or s i 0 ≡ 32 → length (first_word (drop i s)) ≡ 0
  unfolding first_word
  first_space h e = rw (drop-cons s i 0 h, eq-eqb (get_or s i 0) 32 e)

  pub first_none : length s ≤ i → first_word (drop i s) ≡ []
  unfolding first_word
  first_none h = rw (drop_of_length-le s h)

  pub first_end : length s ≤ i → length (first_word (drop i s)) ≡ 0
  first_end h = ap length (first_none h)

  pub first_turn : i < length s → (get_or s i 0 ≡ 32 → ⊥) → length (first_word (drop i s)) ≡ suc (length (first_word (drop (suc i) s)))
  unfolding first_word
  first_turn h e = rw (drop-cons s i 0 h, ne_eqb (get_or s i 0) 32 e)

  -- what follows the word that starts at i
  pub after_at : drop (i + length (first_word (drop i s)) + 1) s ≡ after_word (drop i s)
  after_at =
      ap (λ (n : ℕ). drop n s) (let e : i + length (first_word (drop i s)) + 1 ≡ i + suc (length (first_word (drop i s))) = omega arith in e)
      ∙ sym (drop-drop (suc (length (first_word (drop i s)))) i s) ∙ after_rest (drop i s)

  -- and the words after it, n of them being passed over: the line's end where there are no more
  pub after_next : (n e : ℕ) → 0 < n → e ≡ i + length (first_word (drop i s)) → after_words (n - 1) (drop (e + 1) s) ≡ after_words n (drop i s)
  unfolding after_words
  after_next zero e h g = absurd (omega arith)
  after_next (suc n) e h g =
      let d : suc n - 1 ≡ n = omega arith in
      ap (λ (m : ℕ). after_words m (drop (e + 1) s)) d ∙ ap (λ (m : ℕ). after_words n (drop (m + 1) s)) g ∙ ap (after_words n) after_at

  -- in a loop that has passed j of k words over
  pub after_one : (k j e : ℕ) → j < k → e ≡ i + length (first_word (drop i s)) → after_words (k - (j + 1)) (drop (e + 1) s) ≡ after_words (k - j) (drop i s)
  after_one k j e h g =
      let d : k - (j + 1) ≡ k - j - 1 = omega arith in
      ap (λ (n : ℕ). after_words n (drop (e + 1) s)) d ∙ after_next (k - j) e (omega arith) g

  pub after_last : (n e : ℕ) → 0 < n → e ≡ i + length (first_word (drop i s)) → length s ≤ e → drop e s ≡ after_words n (drop i s)
  after_last n e h g l =
      let d : drop e s ≡ [] = drop_of_length-le s l in
      let f : drop (e + 1) s ≡ [] = drop_of_length-le s {i = e + 1} (omega arith) in
      d ∙ sym (after_none (n - 1)) ∙ ap (after_words (n - 1)) (sym f) ∙ after_next n e h g

  pub after_zero : (n : ℕ) → n ≤ 0 → drop i s ≡ after_words n (drop i s)
  unfolding after_words
  after_zero zero h = refl
  after_zero (suc n) h = absurd (omega arith)

  -- one byte further in the search for an empty word
  pub gap_turn : (t : Bool) → i < length s → gap_after t (drop i s) ≡ ((t && is_space (get_or s i 0)) || gap_after (is_space (get_or s i 0)) (drop (suc i) s))
  unfolding gap_after
  gap_turn t h = rw (drop-cons s i 0 h)

  pub gap_found : (t g : Bool) → i < length s → gap_after t (drop i s) ≡ g → t ≡ true → is_space (get_or s i 0) ≡ true → true ≡ g
  gap_found t g h e p q = sym (gap_turn t h ∙ rw (p, q) refl) ∙ e

  pub gap_on : (t g : Bool) → i < length s → gap_after t (drop i s) ≡ g → (t ≡ false) ⊎ (is_space (get_or s i 0) ≡ false)
      → gap_after (is_space (get_or s i 0)) (drop (i + 1) s) ≡ g
  gap_on t g h e n =
      let f : (t && is_space (get_or s i 0)) ≡ false = no_both t (is_space (get_or s i 0)) n in
      ap (λ (k : ℕ). gap_after (is_space (get_or s i 0)) (drop k s)) (add-one i)
      ∙ sym (gap_turn t h ∙ ap (λ (b : Bool). b || gap_after (is_space (get_or s i 0)) (drop (suc i) s)) f) ∙ e

  pub gap_end : (t : Bool) → length s ≤ i → gap_after t (drop i s) ≡ t
  unfolding gap_after
  gap_end t h = rw (drop_of_length-le s h)

-- texts that are the same have one length
pub same_length : (s t : List ℕ) → same s t ≡ true → length s ≡ length t
unfolding same
same_length [] [] h = refl
same_length [] (b ∷ t) h = let z : ◌≡◌ {A = Bool} false true = h in let y : ◌≡◌ {A = ℕ} 0 1 = cc in absurd (omega arith)
same_length (a ∷ s) [] h = let z : ◌≡◌ {A = Bool} false true = h in let y : ◌≡◌ {A = ℕ} 0 1 = cc in absurd (omega arith)
same_length (a ∷ s) (b ∷ t) h = ap suc (same_length s t (both_true (eqb a b) (same s t) h).1)

-- the test says that two texts are equal, and nothing else
pub same_is : (s t : List ℕ) → same s t ≡ true → s ≡ t
unfolding same
same_is [] [] h = refl
same_is [] (b ∷ t) h = let z : ◌≡◌ {A = Bool} false true = h in let y : ◌≡◌ {A = ℕ} 0 1 = cc in absurd (omega arith)
same_is (a ∷ s) [] h = let z : ◌≡◌ {A = Bool} false true = h in let y : ◌≡◌ {A = ℕ} 0 1 = cc in absurd (omega arith)
same_is (a ∷ s) (b ∷ t) h =
    let p = both_true (eqb a b) (same s t) h in
    let e = eqb-true a b p.0 in
    let f = same_is s t p.1 in
    cc

pub same_self : (s : List ℕ) → same s s ≡ true
unfolding same
same_self [] = refl
same_self (a ∷ s) = rw (eq-eqb a a refl) (same_self s)

-- texts of other lengths aren't
pub same_apart : (s t : List ℕ) → (length s ≡ length t → ⊥) → same s t ≡ false
same_apart s t h = by (same s t) refl
  where
    by : (b : Bool) → same s t ≡ b → b ≡ false
    by true e = absurd (h (same_length s t e))
    by false e = refl

-- bytes at one place tell about the rests from there
module _ (s t : List ℕ) (i : ℕ) (hs : i < length s) (ht : i < length t) where
  pub same_turn : get_or s i 0 ≡ get_or t i 0 → same (drop i s) (drop i t) ≡ same (drop (suc i) s) (drop (suc i) t)
  unfolding same
  same_turn e = rw (drop-cons s i 0 hs, drop-cons t i 0 ht, eq-eqb (get_or s i 0) (get_or t i 0) e)

  pub same_stop : (get_or s i 0 ≡ get_or t i 0 → ⊥) → same (drop i s) (drop i t) ≡ false
  unfolding same
  same_stop e = rw (drop-cons s i 0 hs, drop-cons t i 0 ht, ne_eqb (get_or s i 0) (get_or t i 0) e)

pub same_end : (s t : List ℕ) (i : ℕ) → length s ≤ i → length t ≤ i → same (drop i s) (drop i t) ≡ true
unfolding same
same_end s t i h k = rw (drop_of_length-le s h, drop_of_length-le t k)

-- `-` alone stands for the empty text
pub plain_is : (s : List ℕ) → plain s ≡ cond (same s (45 ∷ [])) [] s
unfolding plain same
plain_is [] = refl
plain_is (b ∷ []) = ap (λ (t : Bool). cond t [] (b ∷ [])) (sym (and-true (eqb b 45)))
plain_is (a ∷ b ∷ s) = ap (λ (t : Bool). cond t [] (a ∷ b ∷ s)) (sym (and-false (eqb a 45)))
