-- What a release does to the journal's bytes and to the list of held records.
use Prim.Native.Nat.{ℕ, zero, suc, ◌≤◌, ◌<◌, ◌+◌, ◌*◌}
use mathlib.Core.Path.{◌≡◌, refl, sym, ap, ◌∙◌, subst⁻¹}
use mathlib.Core.Bool.{Bool, true, false, cond, ◌||◌}
use mathlib.Core.List.{List, [], ◌++◌}
use native.Mathlib.Omega.{arith}
use native.Mathlib.Decide.{dec_le, dec_lt}
use lib.ListN.{length, get_or, set, length-set}
use lib.Seq.{get_or-set_same, get_or-set_other}
use Rattle.slots.specs.Journal.{place, state_of}
use Rattle.slots.specs.Record.{is_held, is_released, freed_state, length_fits, kept, state_at}
use Rattle.slots.proofs.States as States
use Rattle.slots.proofs.States.{freed_kept, freed_released, freed_not_held}
use Rattle.slots.proofs.Ring.{place_apart, place_in}
use Rattle.held.specs.Held.{held_after}
use Rattle.journal.specs.Rules.{freed_at, freed_after}
use Rattle.held.proofs.Lists.{held_append, held_same, held_none}

-- ---- one state byte

module _ (j : List ℕ) (at : ℕ) where
  pub freed_length : length (freed_at j at) ≡ length j
  unfolding freed_at
  freed_length = go (is_held (state_at j at))
    where
      go : (t : Bool) → length (cond t (set j (at + 15) (freed_state (state_at j at))) j) ≡ length j
      go true = simp length-set
      go false = refl

  pub freed_other : (x : ℕ) → (x ≡ at + 15 → ⊥) → get_or (freed_at j at) x 0 ≡ get_or j x 0
  unfolding freed_at
  freed_other x h = go (is_held (state_at j at))
    where
      go : (t : Bool) → get_or (cond t (set j (at + 15) (freed_state (state_at j at))) j) x 0 ≡ get_or j x 0
      go true = get_or-set_other j (at + 15) x (freed_state (state_at j at)) 0 h
      go false = refl

  -- the byte itself: freed where it was held
  pub freed_here : at + 15 < length j → state_at (freed_at j at) at ≡ cond (is_held (state_at j at)) (freed_state (state_at j at)) (state_at j at)
  unfolding freed_at
  freed_here h = go (is_held (state_at j at))
    where
      go : (t : Bool) → state_at (cond t (set j (at + 15) (freed_state (state_at j at))) j) at ≡ cond t (freed_state (state_at j at)) (state_at j at)
      go true = get_or-set_same j (at + 15) (freed_state (state_at j at)) 0 h
      go false = refl

-- a freed byte is not held, and it is a state where it was one
abbrev pub freed_byte : ℕ → ℕ
freed_byte x = cond (is_held x) (freed_state x) x

pub freed_byte_lem : (x : ℕ) → is_held (freed_byte x) ≡ false
freed_byte_lem x = go (is_held x) refl
  where
    go : (t : Bool) → is_held x ≡ t → is_held (cond t (freed_state x) x) ≡ false
    go true e = freed_not_held x e
    go false e = e

pub freed_state_lem : (x : ℕ) → (is_held x || is_released x) ≡ true → is_released (freed_byte x) ≡ true
freed_state_lem x = go (is_held x) refl
  where
    go : (t : Bool) → is_held x ≡ t → (t || is_released x) ≡ true → is_released (cond t (freed_state x) x) ≡ true
    go true e h = freed_released x e
    go false e h = h

pub freed_keeps : (x : ℕ) → kept (freed_byte x) ≡ kept x
freed_keeps x = go (is_held x) refl
  where
    go : (t : Bool) → is_held x ≡ t → kept (cond t (freed_state x) x) ≡ kept x
    go true e = freed_kept x e
    go false e = refl

pub freed_fits : (x n : ℕ) → length_fits (freed_byte x) n ≡ length_fits x n
freed_fits x n = go (is_held x) refl
  where
    go : (t : Bool) → is_held x ≡ t → length_fits (cond t (freed_state x) x) n ≡ length_fits x n
    go true e = States.freed_length x n e
    go false e = refl

-- ---- all of them

pub all_length : (j : List ℕ) (n low m : ℕ) → length (freed_after j n low m) ≡ length j
unfolding freed_after
all_length j n low zero = refl
all_length j n low (suc m) = all_length (freed_at j (place n (low + 1))) n (low + 1) m ∙ freed_length j (place n (low + 1))

-- a byte that is no state byte of theirs stays
pub all_other : (j : List ℕ) (n low m x : ℕ) → ((s : ℕ) → low < s → s ≤ low + m → x ≡ place n s + 15 → ⊥) → get_or (freed_after j n low m) x 0 ≡ get_or j x 0
unfolding freed_after
all_other j n low zero x h = refl
all_other j n low (suc m) x h =
    all_other (freed_at j (place n (low + 1))) n (low + 1) m x (λ s a b. h s (omega arith) (omega arith))
    ∙ freed_other j (place n (low + 1)) x (h (low + 1) (omega arith) (omega arith))

-- two bytes of records of different serials differ in place
pub apart : (n s t i : ℕ) → 1 ≤ s → 1 ≤ t → (s ≡ t → ⊥) → s < t + n → t < s + n → i < 32 → place n s + i ≡ place n t + 15 → ⊥
apart n s t i ls lt ne h k l e =
    let q : place n s ≡ place n t = omega arith in
    go q (dec_lt s t)
  where
    go : place n s ≡ place n t → Dec (s < t) → ⊥
    go q (yes y) = place_apart n s t ls y k q
    go q (no y) = place_apart n t s lt (strict y) h (sym q)
      where
        strict : (s < t → ⊥) → t < s
        strict y = more (dec_le s t)
          where
            more : Dec (s ≤ t) → t < s
            more (yes z) = absurd (ne (omega arith))
            more (no z) = omega arith

-- each of their state bytes is freed
pub all_here : (j : List ℕ) (n low m s : ℕ) → 1 ≤ n → length j ≡ 32 * n → m ≤ n → low < s → s ≤ low + m
    → state_of (freed_after j n low m) n s ≡ freed_byte (state_of j n s)
unfolding freed_after
all_here j n low zero s p e k l h = absurd (omega arith)
all_here j n low (suc m) s p e k l h = go (λ y. all_here (freed_at j (place n (low + 1))) n (low + 1) m s p (freed_length j (place n (low + 1)) ∙ e) (omega arith) y (omega arith)) (dec_le s (low + 1))
  where
    go : (low + 1 < s → state_of (freed_after (freed_at j (place n (low + 1))) n (low + 1) m) n s ≡ freed_byte (state_of (freed_at j (place n (low + 1))) n s))
        → Dec (s ≤ low + 1) → state_of (freed_after (freed_at j (place n (low + 1))) n (low + 1) m) n s ≡ freed_byte (state_of j n s)
    go more (yes y) =
        let q : s ≡ low + 1 = omega arith in
        let a : get_or (freed_after (freed_at j (place n (low + 1))) n (low + 1) m) (place n (low + 1) + 15) 0 ≡ get_or (freed_at j (place n (low + 1))) (place n (low + 1) + 15) 0 =
        all_other (freed_at j (place n (low + 1))) n (low + 1) m (place n (low + 1) + 15)
        (λ t x z. apart n (low + 1) t 15 (omega arith) (omega arith) (λ w. omega arith) (omega arith) (omega arith) (omega arith)) in
        subst⁻¹ (λ (x : ℕ). state_of (freed_after (freed_at j (place n (low + 1))) n (low + 1) m) n x ≡ freed_byte (state_of j n x)) q
        (a ∙ freed_here j (place n (low + 1)) (omega (arith, place_in n (low + 1) p)))
    go more (no y) =
        more (omega arith)
        ∙ ap freed_byte (freed_other j (place n (low + 1)) (place n s + 15)
        (apart n s (low + 1) 15 (omega arith) (omega arith) (λ w. omega arith) (omega arith) (omega arith) (omega arith)))

-- ---- the list of held records

module _ (j : List ℕ) (n low m p : ℕ) (pos : 1 ≤ n) (size : length j ≡ 32 * n) (few : m + p ≤ n) where
  -- the bytes of the serials above stay
  pub above_same : (s i : ℕ) → low + m < s → s ≤ low + m + p → i < 32 → get_or (freed_after j n low m) (place n s + i) 0 ≡ get_or j (place n s + i) 0
  above_same s i a b c = all_other j n low m (place n s + i) (λ t x z. apart n s t i (omega arith) (omega arith) (λ w. omega arith) (omega arith) (omega arith) c)

  -- what was released and what is held after is what was held before
  pub release_held : held_after j n low m ++ held_after (freed_after j n low m) n low (m + p) ≡ held_after j n low (m + p)
  release_held =
      let none : held_after (freed_after j n low m) n low m ≡ [] =
      held_none (freed_after j n low m) n low m (λ s a b. ap is_held (all_here j n low m s pos size (omega arith) a b) ∙ freed_byte_lem (state_of j n s)) in
      let same : held_after (freed_after j n low m) n (low + m) p ≡ held_after j n (low + m) p =
      held_same j (freed_after j n low m) n (low + m) p (all_length j n low m) above_same in
      ap (λ (l : List (List ℕ)). held_after j n low m ++ l)
      (held_append (freed_after j n low m) n low m p ∙ (λ i. none i ++ same i))
      ∙ sym (held_append j n low m p)
