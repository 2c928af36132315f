-- A run of bytes written over a list: the copy's turns, and what each byte then is.
use Prim.Native.Nat.{ℕ, ◌≤◌, ◌<◌, ◌+◌, ◌-◌}
use mathlib.Core.Path.{◌≡◌, sym, ap, ◌∙◌}
use mathlib.Core.List.{List, ◌++◌}
use native.Mathlib.Omega.{arith}
use native.Mathlib.Numerals.{add-one}
use native.Mathlib.Nat.{le_antisymm}
use lib.ListN.{length, take, drop, get_or, set, length-append, length-take, length-drop, get_or-append}
use lib.Seq.{paste, paste-suc, take-length, take-append_seam, length-take-le, get_or-take, get_or-drop, get_or-append-add, ext_get_or}
use Rattle.text.specs.Numbers.{put}

-- one turn of the copy
pub copy_step : (d j s : List ℕ) (at i : ℕ) → j ≡ paste d at s i → i < length s → at + length s ≤ length d
    → set j (at + i) (get_or s i 0) ≡ paste d at s (i + 1)
copy_step d j s at i e h k =
    ap (λ (l : List ℕ). set l (at + i) (get_or s i 0)) e ∙ paste-suc d at s i 0 (omega arith) h ∙ ap (paste d at s) (sym (add-one i))

pub copy_done : (d j s : List ℕ) (at i : ℕ) → j ≡ paste d at s i → i ≤ length s → length s ≤ i → j ≡ put d at s
unfolding put
copy_done d j s at i e h k =
    let n : i ≡ length s = le_antisymm h k in
    e ∙ ap (paste d at s) n ∙ ap (λ (l : List ℕ). take at d ++ l ++ drop (at + length s) d) (take-length s)

module _ (j vs : List ℕ) (at : ℕ) (h : at + length vs ≤ length j) where
  head_length : length (take at j ++ vs) ≡ at + length vs
  head_length = length-append (take at j) vs ∙ ap (λ (m : ℕ). m + length vs) (length-take-le at j (omega arith))

  -- what was written stands there
  pub put_in : (i : ℕ) → i < length vs → get_or (put j at vs) (at + i) 0 ≡ get_or vs i 0
  unfolding put
  put_in i l =
      get_or-append (take at j ++ vs) (drop (at + length vs) j) 0 (at + i) (omega (arith, head_length))
      ∙ ap (λ (m : ℕ). get_or (take at j ++ vs) (m + i) 0) (sym (length-take-le at j (omega arith)))
      ∙ get_or-append-add (take at j) vs i 0

  -- what stands before it and after it stays
  pub put_before : (x : ℕ) → x < at → get_or (put j at vs) x 0 ≡ get_or j x 0
  unfolding put
  put_before x l =
      get_or-append (take at j ++ vs) (drop (at + length vs) j) 0 x (omega (arith, head_length))
      ∙ get_or-append (take at j) vs 0 x (omega (arith, length-take-le at j (omega arith)))
      ∙ get_or-take at j x 0 l

  pub put_after : (x : ℕ) → at + length vs ≤ x → get_or (put j at vs) x 0 ≡ get_or j x 0
  unfolding put
  put_after x l =
      let e : x ≡ length (take at j ++ vs) + (x - (at + length vs)) = omega (arith, head_length) in
      let f : at + length vs + (x - (at + length vs)) ≡ x = omega arith in
      ap (λ (m : ℕ). get_or (take at j ++ vs ++ drop (at + length vs) j) m 0) e
      ∙ get_or-append-add (take at j ++ vs) (drop (at + length vs) j) (x - (at + length vs)) 0
      ∙ get_or-drop (at + length vs) j (x - (at + length vs)) 0
      ∙ ap (λ (m : ℕ). get_or j m 0) f

  pub length_put : length (put j at vs) ≡ length j
  unfolding put
  length_put =
      length-append (take at j ++ vs) (drop (at + length vs) j) ∙ omega (arith, head_length, length-drop (at + length vs) j)

-- n bytes from a place are told byte by byte
pub part_same : (j k : List ℕ) (at n : ℕ) → length k ≡ length j → ((i : ℕ) → i < n → get_or k (at + i) 0 ≡ get_or j (at + i) 0) → take n (drop at k) ≡ take n (drop at j)
part_same j k at n e h =
    let el : length (take n (drop at k)) ≡ length (take n (drop at j)) = simp (length-take, length-drop, e) in
    ext_get_or 0 (take n (drop at k)) (take n (drop at j)) el (λ i l. one i (short i l))
  where
    short : (i : ℕ) → i < length (take n (drop at k)) → i < n
    short i l = omega (arith, simp length-take at l)

    one : (i : ℕ) → i < n → get_or (take n (drop at k)) i 0 ≡ get_or (take n (drop at j)) i 0
    one i l = get_or-take n (drop at k) i 0 l ∙ get_or-drop at k i 0 ∙ h i l ∙ sym (get_or-drop at j i 0) ∙ sym (get_or-take n (drop at j) i 0 l)

-- what was written at the front
pub put_front : (j vs : List ℕ) → take (length vs) (put j 0 vs) ≡ vs
unfolding put
put_front j vs = take-append_seam vs (drop (0 + length vs) j)
