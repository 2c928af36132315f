-- A line as people type it: blanks at its end, a tag before it, a text in groups.
use Prim.Native.Nat.{ℕ, suc, ◌+◌, ◌-◌, ◌≤◌, ◌<◌}
use mathlib.Core.Path.{◌≡◌, refl, sym, ap, ◌∙◌}
use mathlib.Core.Bool.{Bool, true, false, cond}
use mathlib.Core.List.{List, [], ◌∷◌, ◌++◌}
use mathlib.Core.Logic.{◌⊎◌, inl, inr}
use native.Mathlib.Omega.{arith}
use native.Mathlib.Nat.{le_antisymm, zero-add}
use native.Mathlib.Numerals.{add-one}
use lib.ListN.{length, take, drop, get_or, set, drop_of_length-le, length-drop}
use lib.Seq.{take_all, take-suc, drop-cons, length-take-le, paste, paste-suc}
use Rattle.text.specs.Numbers.{put}
use Rattle.script.specs.Words.{is_space, after_words, word, is_blank, left_of, trimmed, is_tag, untagged, solid}

-- a byte at the end: a blank is left out, and before any other byte nothing is
left_before : (a b : ℕ) (s : List ℕ) → left_of a (s ++ (b ∷ [])) ≡ a ∷ (s ++ (b ∷ []))
unfolding left_of
left_before a b [] = refl
left_before a b (c ∷ s) = refl

trimmed_end : (s : List ℕ) (b : ℕ) → trimmed (s ++ (b ∷ [])) ≡ cond (is_blank b) (trimmed s) (s ++ (b ∷ []))
unfolding trimmed left_of
trimmed_end [] b = refl
trimmed_end (a ∷ s) b = ap (left_of a) (trimmed_end s b) ∙ by (is_blank b)
  where
    by : (t : Bool) → left_of a (cond t (trimmed s) (s ++ (b ∷ []))) ≡ cond t (left_of a (trimmed s)) (a ∷ (s ++ (b ∷ [])))
    by true = refl
    by false = left_before a b s

module _ (s : List ℕ) (h : 1 ≤ length s) where
  whole : s ≡ take (length s - 1) s ++ (get_or s (length s - 1) 0 ∷ [])
  whole =
      let e : length s ≡ suc (length s - 1) = omega arith in
      sym (take_all (length s) s (omega arith)) ∙ ap (λ (k : ℕ). take k s) e ∙ take-suc s (length s - 1) 0 (omega arith)

  pub trimmed_blank : is_blank (get_or s (length s - 1) 0) ≡ true → trimmed (take (length s - 1) s) ≡ trimmed s
  trimmed_blank b = sym (ap trimmed whole ∙ trimmed_end (take (length s - 1) s) (get_or s (length s - 1) 0) ∙ rw b)

  pub trimmed_kept : is_blank (get_or s (length s - 1) 0) ≡ false → s ≡ trimmed s
  trimmed_kept b =
      let e : cond (is_blank (get_or s (length s - 1) 0)) (trimmed (take (length s - 1) s)) (take (length s - 1) s ++ (get_or s (length s - 1) 0 ∷ []))
      ≡ take (length s - 1) s ++ (get_or s (length s - 1) 0 ∷ []) = rw b in
      sym (ap trimmed whole ∙ trimmed_end (take (length s - 1) s) (get_or s (length s - 1) 0) ∙ e ∙ sym whole)

pub trimmed-none : (s : List ℕ) → length s < 1 → s ≡ trimmed s
unfolding trimmed
trimmed-none [] h = refl
trimmed-none (b ∷ s) h = absurd (omega arith)

module _ (s : List ℕ) where
  pub tagged : is_tag (word 0 s) ≡ true → after_words 1 s ≡ untagged s
  unfolding untagged after_words
  tagged h = rw h

  pub not_tagged : is_tag (word 0 s) ≡ false → s ≡ untagged s
  unfolding untagged after_words
  not_tagged h = rw h

-- one byte of a text in groups, n of w being written so far
cons_parts : (a b : ℕ) (s t : List ℕ) → ◌≡◌ {A = List ℕ} (a ∷ s) (b ∷ t) → (a ≡ b) × (s ≡ t)
cons_parts a b s t e = (cc, cc)

front_of : (w t : List ℕ) (n b : ℕ) → drop n w ≡ b ∷ t → (n < length w) × (b ≡ get_or w n 0) × (drop (n + 1) w ≡ t)
front_of w t n b e =
    let l : n < length w = omega (arith, length-drop n w, ap length e) in
    let p = cons_parts (get_or w n 0) b (drop (suc n) w) t (sym (drop-cons w n 0 l) ∙ e) in
    (l, sym p.0, ap (λ (k : ℕ). drop k w) (add-one n) ∙ p.1)

pub record Grouped (s d out : List ℕ) (n i : ℕ) : Type 0 where
  pub written : out ≡ paste d 0 (solid s) n
  pub rest : drop n (solid s) ≡ solid (drop i s)
  pub some : n ≤ length (solid s)
  pub fits : n ≤ length d

solid_end : (s : List ℕ) (i : ℕ) → length s ≤ i → solid (drop i s) ≡ []
unfolding solid
solid_end s i h = rw (drop_of_length-le s h)

paste_put : (d w : List ℕ) (n : ℕ) → n ≤ length w → paste d 0 w n ≡ put d 0 (take n w)
unfolding put
paste_put d w n h = ap (λ (k : ℕ). take 0 d ++ take n w ++ drop (0 + k) d) (sym (length-take-le n w h))

module _ (s d out : List ℕ) (n i : ℕ) (g : Grouped s d out n i) where
  module _ (h : i < length s) (l : n < length d) where
    rest_space : is_space (get_or s i 0) ≡ true → solid (drop i s) ≡ solid (drop (i + 1) s)
    unfolding solid
    rest_space e = rw (drop-cons s i 0 h, e) (ap (λ (k : ℕ). solid (drop k s)) (sym (add-one i)))

    rest_other : is_space (get_or s i 0) ≡ false → solid (drop i s) ≡ get_or s i 0 ∷ solid (drop (i + 1) s)
    unfolding solid
    rest_other e = rw (drop-cons s i 0 h, e) (ap (λ (k : ℕ). get_or s i 0 ∷ solid (drop k s)) (sym (add-one i)))

    pub grouped_turn : Grouped s d (cond (is_space (get_or s i 0)) out (set out n (get_or s i 0))) (cond (is_space (get_or s i 0)) n (n + 1)) (i + 1)
    grouped_turn = by (is_space (get_or s i 0)) refl
      where
        by : (t : Bool) → is_space (get_or s i 0) ≡ t → Grouped s d (cond t out (set out n (get_or s i 0))) (cond t n (n + 1)) (i + 1)
        by true e = record { written = g.written; rest = g.rest ∙ rest_space e; some = g.some; fits = g.fits }
        by false e =
            let f = front_of (solid s) (solid (drop (i + 1) s)) n (get_or s i 0) (g.rest ∙ rest_other e) in
            record {
              written = ap (λ (l : List ℕ). set l n (get_or s i 0)) g.written ∙ ap (set (paste d 0 (solid s) n) n) f.1
                  ∙ ap (λ (k : ℕ). set (paste d 0 (solid s) n) k (get_or (solid s) n 0)) (sym (zero-add n))
                  ∙ paste-suc d 0 (solid s) n 0 (omega arith) f.0 ∙ ap (paste d 0 (solid s)) (sym (add-one n));
              rest = f.2;
              some = omega (arith, f.0);
              fits = omega arith;
            }

  all_written : (length d ≤ n) ⊎ (length s ≤ i) → take (length d) (solid s) ≡ take n (solid s)
  all_written (inl l) = let e : length d ≡ n = le_antisymm l g.fits in ap (λ (k : ℕ). take k (solid s)) e
  all_written (inr l) =
      let e : length (solid s) ≤ n = omega (arith, length-drop n (solid s), ap length (g.rest ∙ solid_end s i l)) in
      let f : length (solid s) ≤ length d = omega (arith, e, g.fits) in
      take_all (length d) (solid s) f ∙ sym (take_all n (solid s) e)

  -- no room is left, or no byte
  pub grouped_done : (length d ≤ n) ⊎ (length s ≤ i) → (n ≡ length (take (length d) (solid s))) × (out ≡ put d 0 (take (length d) (solid s)))
  grouped_done h =
      let e = sym (all_written h) in
      (sym (length-take-le n (solid s) g.some) ∙ ap length e, g.written ∙ paste_put d (solid s) n g.some ∙ ap (put d 0) e)

-- "A line that ends in CR LF and spaces at its end are understood"
pub blank_trimmed : (s : List ℕ) (b : ℕ) → is_blank b ≡ true → trimmed (s ++ (b ∷ [])) ≡ trimmed s
blank_trimmed s b h = trimmed_end s b ∙ rw h

-- "A text typed in groups is understood": a space in it changes nothing
pub group_same : (s t : List ℕ) → solid (s ++ (32 ∷ t)) ≡ solid (s ++ t)
unfolding solid
group_same [] t = refl
group_same (b ∷ s) t = ap (λ (l : List ℕ). cond (is_space b) l (b ∷ l)) (group_same s t)

-- any two outcomes are equal
pub one_trimmed : (s r q : List ℕ) → r ≡ trimmed s → q ≡ trimmed s → r ≡ q
one_trimmed s r q e f = e ∙ sym f

pub one_untagged : (s r q : List ℕ) → r ≡ untagged s → q ≡ untagged s → r ≡ q
one_untagged s r q e f = e ∙ sym f

pub one_solid : (s d k l : List ℕ) (r q : ℕ) → (r ≡ length (take (length d) (solid s))) × (k ≡ put d 0 (take (length d) (solid s)))
    → (q ≡ length (take (length d) (solid s))) × (l ≡ put d 0 (take (length d) (solid s))) → (r ≡ q) × (k ≡ l)
one_solid s d k l r q e f = (e.0 ∙ sym f.0, e.1 ∙ sym f.1)
