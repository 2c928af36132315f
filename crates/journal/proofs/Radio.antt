-- Laws for the radio: releases repeated, out of order, and what they never do.
use Rattle.std.proofs.Common.{Some}
use Prim.Native.Nat.{ℕ, zero, suc, ◌≤◌, ◌<◌, ◌+◌, ◌-◌, ◌/◌}
use mathlib.Core.Path.{◌≡◌, refl, sym, ap, ◌∙◌}
use mathlib.Core.Bool.{Bool, true, false, cond}
use mathlib.Core.List.{List, []}
use native.Mathlib.Omega.{arith}
use native.Mathlib.Decide.{dec_lt, ℕ_discrete}
use lib.ListN.{length, get_or, set, get_or-eq_default}
use lib.Seq.{set_comm}
use Rattle.reasons.specs.Reasons.{gives}
use Rattle.slots.specs.Record.{is_held, freed_state, state_at}
use Rattle.slots.specs.Journal.{slots_of, state_of, place, Formed}
use Rattle.slots.proofs.Ranges.{differ}
use Rattle.slots.proofs.States.{free_not_held}
use Rattle.held.specs.Held.{low_of, held_after, held_up_to, sum_of}
use Rattle.journal.specs.Rules.{release_rule, release_bytes, freed_at, freed_after}
use Rattle.journal.proofs.Rule.{new_after, release_done}
use Rattle.held.proofs.Lists.{held_none}
use Rattle.journal.proofs.Walks.{freed_not}
use Rattle.journal.proofs.Freed.{freed_other, freed_here, freed_byte_lem, all_length, all_here}

-- ---- one record released twice, two released in either order

freed_twice : (j : List ℕ) (a : ℕ) → freed_at (freed_at j a) a ≡ freed_at j a
freed_twice j a = go (is_held (state_at j a)) refl (dec_lt (a + 15) (length j))
  where
    go : (t : Bool) → is_held (state_at j a) ≡ t → Dec (a + 15 < length j) → freed_at (freed_at j a) a ≡ freed_at j a
    go false e d = ap (λ (k : List ℕ). freed_at k a) (sym (freed_not j a e))
    go true e (yes h) = sym (freed_not (freed_at j a) a (ap is_held (freed_here j a h) ∙ freed_byte_lem (state_at j a)))
    go true e (no h) = absurd (differ (is_held 0) free_not_held (ap is_held (sym (get_or-eq_default j 0 (omega arith))) ∙ e))

freed_swap : (j : List ℕ) (a c : ℕ) → freed_at (freed_at j a) c ≡ freed_at (freed_at j c) a
unfolding freed_at
freed_swap j a c = go (ℕ_discrete a c)
  where
    both : (s t : Bool) (x y : ℕ) → (a + 15 ≡ c + 15 → ⊥)
        → cond t (set (cond s (set j (a + 15) x) j) (c + 15) y) (cond s (set j (a + 15) x) j)
        ≡ cond s (set (cond t (set j (c + 15) y) j) (a + 15) x) (cond t (set j (c + 15) y) j)
    both true true x y ne = set_comm j (a + 15) (c + 15) x y ne
    both true false x y ne = refl
    both false true x y ne = refl
    both false false x y ne = refl

    go : Dec (a ≡ c) → freed_at (freed_at j a) c ≡ freed_at (freed_at j c) a
    go (yes e) = λ i. freed_at (freed_at j (e i)) (sym e i)
    go (no ne) =
        let p : state_at (freed_at j a) c ≡ state_at j c = freed_other j a (c + 15) (λ q. ne (omega arith)) in
        let q : state_at (freed_at j c) a ≡ state_at j a = freed_other j c (a + 15) (λ q. ne (omega arith)) in
        ap (λ (v : ℕ). cond (is_held v) (set (freed_at j a) (c + 15) (freed_state v)) (freed_at j a)) p
        ∙ both (is_held (state_at j a)) (is_held (state_at j c)) (freed_state (state_at j a)) (freed_state (state_at j c)) (λ q. ne (omega arith))
        ∙ sym (ap (λ (v : ℕ). cond (is_held v) (set (freed_at j c) (a + 15) (freed_state v)) (freed_at j c)) q)

-- ---- runs of them

module _ (n : ℕ) where
  one_ahead : (j : List ℕ) (a low m : ℕ) → freed_after (freed_at j a) n low m ≡ freed_at (freed_after j n low m) a
  unfolding freed_after
  one_ahead j a low zero = refl
  one_ahead j a low (suc m) = ap (λ (k : List ℕ). freed_after k n (low + 1) m) (freed_swap j a (place n (low + 1))) ∙ one_ahead (freed_at j (place n (low + 1))) a (low + 1) m

  either_order : (j : List ℕ) (a m c p : ℕ) → freed_after (freed_after j n a m) n c p ≡ freed_after (freed_after j n c p) n a m
  unfolding freed_after
  either_order j a zero c p = refl
  either_order j a (suc m) c p =
      either_order (freed_at j (place n (a + 1))) (a + 1) m c p ∙ ap (λ (k : List ℕ). freed_after k n (a + 1) m) (one_ahead j (place n (a + 1)) c p)

  in_two : (j : List ℕ) (low m p : ℕ) → freed_after j n low (m + p) ≡ freed_after (freed_after j n low m) n (low + m) p
  unfolding freed_after
  in_two j low zero p = let e : low ≡ low + 0 = omega arith in let q : 0 + p ≡ p = omega arith in λ i. freed_after j n (e i) (q i)
  in_two j low (suc m) p =
      let e : low + 1 + m ≡ low + suc m = omega arith in
      let q : suc m + p ≡ suc (m + p) = omega arith in
      ap (freed_after j n low) q ∙ in_two (freed_at j (place n (low + 1))) (low + 1) m p
      ∙ ap (λ (x : ℕ). freed_after (freed_after (freed_at j (place n (low + 1))) n (low + 1) m) n x p) e

  twice : (j : List ℕ) (low m : ℕ) → freed_after (freed_after j n low m) n low m ≡ freed_after j n low m
  unfolding freed_after
  twice j low zero = refl
  twice j low (suc m) =
      ap (λ (k : List ℕ). freed_after k n (low + 1) m) (sym (one_ahead (freed_at j (place n (low + 1))) (place n (low + 1)) (low + 1) m) ∙ ap (λ (k : List ℕ). freed_after k n (low + 1) m) (freed_twice j (place n (low + 1))))
      ∙ twice (freed_at j (place n (low + 1))) (low + 1) m

  -- the longer run alone, whichever came first
  longer_last : (j : List ℕ) (low m p : ℕ) → freed_after (freed_after j n low m) n low (m + p) ≡ freed_after j n low (m + p)
  longer_last j low m p =
      in_two (freed_after j n low m) low m p ∙ ap (λ (k : List ℕ). freed_after k n (low + m) p) (twice j low m) ∙ sym (in_two j low m p)

  longer_first : (j : List ℕ) (low m p : ℕ) → freed_after (freed_after j n low (m + p)) n low m ≡ freed_after j n low (m + p)
  longer_first j low m p = either_order j low (m + p) low m ∙ longer_last j low m p

-- ---- the calls

-- what a release that is not refused leaves
pub freed_bytes : (j : List ℕ) (b s : ℕ) → 1 ≤ s → s ≤ b → release_bytes (Some b) j s ≡ freed_after j (slots_of j) (low_of j b) (s - low_of j b)
unfolding release_bytes
freed_bytes j b s l h = sym (new_after j (λ _. freed_after j (slots_of j) (low_of j b) (s - low_of j b)) (release_done j b s l h))

module _ (j : List ℕ) (b s t : ℕ) (l : 1 ≤ s) (le : s ≤ t) (h : t ≤ b) where
  slots_stay : (u : ℕ) → 1 ≤ u → u ≤ b → slots_of (release_bytes (Some b) j u) ≡ slots_of j
  slots_stay u a c = ap (λ (k : List ℕ). slots_of k) (freed_bytes j b u a c) ∙ ap (λ (x : ℕ). x / 32) (all_length j (slots_of j) (low_of j b) (u - low_of j b))

  -- the one release after the other, over the slots and serials of the first journal
  one_more : (u v : ℕ) → 1 ≤ u → u ≤ b → 1 ≤ v → v ≤ b
      → release_bytes (Some b) (release_bytes (Some b) j u) v ≡ freed_after (freed_after j (slots_of j) (low_of j b) (u - low_of j b)) (slots_of j) (low_of j b) (v - low_of j b)
  one_more u v a c d e =
      freed_bytes (release_bytes (Some b) j u) b v d e
      ∙ (λ i. freed_after (freed_bytes j b u a c i) (slots_stay u a c i) (b - slots_stay u a c i) (v - (b - slots_stay u a c i)))

  -- "releases in any order leave what the highest alone would leave"
  pub lower_then_higher : release_bytes (Some b) (release_bytes (Some b) j s) t ≡ release_bytes (Some b) j t
  lower_then_higher =
      let q : t - low_of j b ≡ s - low_of j b + (t - low_of j b - (s - low_of j b)) = omega arith in
      one_more s t l (omega arith) (omega arith) h
      ∙ ap (freed_after (freed_after j (slots_of j) (low_of j b) (s - low_of j b)) (slots_of j) (low_of j b)) q
      ∙ longer_last (slots_of j) j (low_of j b) (s - low_of j b) (t - low_of j b - (s - low_of j b))
      ∙ ap (freed_after j (slots_of j) (low_of j b)) (sym q) ∙ sym (freed_bytes j b t (omega arith) h)

  pub higher_then_lower : release_bytes (Some b) (release_bytes (Some b) j t) s ≡ release_bytes (Some b) j t
  higher_then_lower =
      let q : t - low_of j b ≡ s - low_of j b + (t - low_of j b - (s - low_of j b)) = omega arith in
      one_more t s (omega arith) h l (omega arith)
      ∙ ap (λ (x : ℕ). freed_after (freed_after j (slots_of j) (low_of j b) x) (slots_of j) (low_of j b) (s - low_of j b)) q
      ∙ longer_first (slots_of j) j (low_of j b) (s - low_of j b) (t - low_of j b - (s - low_of j b))
      ∙ ap (freed_after j (slots_of j) (low_of j b)) (sym q) ∙ sym (freed_bytes j b t (omega arith) h)

-- "a release repeated changes nothing and answers 0 and 0"
pub release_again : (j : List ℕ) (b s : ℕ) → Formed j (slots_of j) b → 1 ≤ s → s ≤ b
    → (release_bytes (Some b) (release_bytes (Some b) j s) s ≡ release_bytes (Some b) j s)
    × (release_rule (Some b) (release_bytes (Some b) j s) s ≡ gives (record { count = 0; sum = 0 }))
unfolding sum_of
release_again j b s f l h =
    let k : List ℕ = release_bytes (Some b) j s in
    let e : k ≡ freed_after j (slots_of j) (low_of j b) (s - low_of j b) = freed_bytes j b s l h in
    let n : slots_of k ≡ slots_of j = slots_stay j b s s l (omega arith) h s l h in
    let none : held_after (freed_after j (slots_of j) (low_of j b) (s - low_of j b)) (slots_of j) (low_of j b) (s - low_of j b) ≡ [] =
    held_none (freed_after j (slots_of j) (low_of j b) (s - low_of j b)) (slots_of j) (low_of j b) (s - low_of j b)
    (λ t x y. ap is_held (all_here j (slots_of j) (low_of j b) (s - low_of j b) t f.least f.size (omega arith) x y) ∙ freed_byte_lem (state_of j (slots_of j) t)) in
    let z : held_up_to k b s ≡ [] = (λ i. held_after (e i) (n i) (b - n i) (s - (b - n i))) ∙ none in (
      lower_then_higher j b s s l (omega arith) h,
      sym (release_done k b s l h) ∙ (λ i. gives (record { count = length (z i); sum = sum_of (z i) })),
    )

-- "a release never makes a held record of a released one": what is held after was held before
freed_never : (j : List ℕ) (a x : ℕ) → is_held (get_or (freed_at j a) x 0) ≡ true → is_held (get_or j x 0) ≡ true
freed_never j a x h = go (ℕ_discrete x (a + 15)) (is_held (state_at j a)) refl
  where
    go : Dec (x ≡ a + 15) → (t : Bool) → is_held (state_at j a) ≡ t → is_held (get_or j x 0) ≡ true
    go (no ne) t e = ap is_held (sym (freed_other j a x ne)) ∙ h
    go (yes q) true e = ap (λ (y : ℕ). is_held (get_or j y 0)) q ∙ e
    go (yes q) false e = ap (λ (k : List ℕ). is_held (get_or k x 0)) (freed_not j a e) ∙ h

after_never : (j : List ℕ) (n low m x : ℕ) → is_held (get_or (freed_after j n low m) x 0) ≡ true → is_held (get_or j x 0) ≡ true
unfolding freed_after
after_never j n low zero x h = h
after_never j n low (suc m) x h = freed_never j (place n (low + 1)) x (after_never (freed_at j (place n (low + 1))) n (low + 1) m x h)

pub never_held_again : (j : List ℕ) (b s at : ℕ) → 1 ≤ s → s ≤ b → is_held (state_at (release_bytes (Some b) j s) at) ≡ true → is_held (state_at j at) ≡ true
never_held_again j b s at l h e =
    after_never j (slots_of j) (low_of j b) (s - low_of j b) (at + 15) (ap (λ (k : List ℕ). is_held (state_at k at)) (sym (freed_bytes j b s l h)) ∙ e)
