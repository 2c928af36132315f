-- What a walker has still to give: nothing, or the record at its serial and what is to come from there on; from its start, the held payments' list.
use Rattle.std.proofs.Common.{◌≡◌, ℕ, zero, suc, ◌+◌, ◌-◌, ◌<◌, Bool, true, false, cond, ◌&&◌, ◌⊎◌, inl, inr, List, [], ◌∷◌, length, take, drop}
use Rattle.std.proofs.Common.{Bor, refl, sym, ap, ◌∙◌, subst, arith, length-take, length-drop}
use mathlib.Core.Bool.{and-false}
use borrow.Author.Tests.{eq-eqb, ne_eqb}
use Rattle.text.proofs.Tests.{both_true}
use Rattle.text.specs.Bytes.{within}
use Rattle.reasons.specs.Reasons.{Outcome, gives}
use Rattle.slots.specs.Journal.{slots_of, place, Formed}
use Rattle.slots.proofs.Ranges.{differ}
use Rattle.slots.proofs.Views.{known}
use Rattle.held.specs.Held.{record_at, held_after, held_list, low_of, first_of}
use Rattle.held.specs.Rules.{Shows, the_record, nothing, tell_rule}
use Rattle.walker.specs.Walk.{held_here, held_rule, next_of, on_from, given, walk, StartsAt}
use Rattle.walker.proofs.Laws.{Begins, empty, begins, first_held, first_serial, first_none, held_here_lem, walk_enough}
use Rattle.walker.proofs.Held.{here, given_in, given_here, refused_here}

module _ (j : List ℕ) where
  pub on_none : (s k : ℕ) → held_here j s ≡ false → on_from j s k ≡ []
  unfolding on_from
  on_none s zero h = refl
  on_none s (suc k) h = simp h

  on_more : (s k : ℕ) → held_here j s ≡ true → on_from j s (suc k) ≡ record_at j (slots_of j) s ∷ on_from j (next_of j s) k
  unfolding on_from
  on_more s k h = simp h

  none_at_zero : held_here j 0 ≡ false
  unfolding held_here
  none_at_zero = and-false (within 1 2048 (slots_of j))

  pub not_zero : (s : ℕ) → held_here j s ≡ true → s ≡ 0 → ⊥
  not_zero s h z = differ (held_here j 0) none_at_zero (subst (λ (x : ℕ). held_here j x ≡ true) z h)

  next_is : (s : ℕ) → (next_of j s ≡ s + 1) ⊎ (next_of j s ≡ 0)
  unfolding next_of
  next_is s =
      elim (within 1 4294967294 s && held_here j (s + 1)) as (λ (t : Bool). (cond t (s + 1) 0 ≡ s + 1) ⊎ (cond t (s + 1) 0 ≡ 0))
      [ true ↦ inl refl | false ↦ inr refl ]

  -- however many steps are left to a walker that is done
  done_so : (n k m : ℕ) → n ≡ 0 → on_from j n k ≡ on_from j n m
  done_so n k m z =
      let h : held_here j n ≡ false = ap (held_here j) z ∙ none_at_zero in
      on_none n k h ∙ sym (on_none n m h)

  pub on_step : (s : ℕ) → s < 4294967296 → held_here j s ≡ true
      → on_from j s (4294967296 - s) ≡ record_at j (slots_of j) s ∷ on_from j (next_of j s) (4294967296 - next_of j s)
  on_step s l h =
      let e : 4294967296 - s ≡ suc (4294967295 - s) = omega arith in
      ap (on_from j s) e ∙ on_more s (4294967295 - s) h ∙ ap (λ (rs : List (List ℕ)). record_at j (slots_of j) s ∷ rs) (rest (next_is s))
    where
      rest : (next_of j s ≡ s + 1) ⊎ (next_of j s ≡ 0) → on_from j (next_of j s) (4294967295 - s) ≡ on_from j (next_of j s) (4294967296 - next_of j s)
      rest (inl e) = let q : 4294967295 - s ≡ 4294967296 - next_of j s = omega arith in ap (on_from j (next_of j s)) q
      rest (inr z) = done_so (next_of j s) (4294967295 - s) (4294967296 - next_of j s) z

  -- the serial after one is that of a held record, or 0
  next_held_or_none : (s : ℕ) → (held_here j (next_of j s) ≡ true) ⊎ (next_of j s ≡ 0)
  unfolding next_of
  next_held_or_none s =
      go (within 1 4294967294 s && held_here j (s + 1)) (λ e. (both_true (within 1 4294967294 s) (held_here j (s + 1)) e).1)
    where
      go : (t : Bool) → (t ≡ true → held_here j (s + 1) ≡ true) → (held_here j (cond t (s + 1) 0) ≡ true) ⊎ (cond t (s + 1) 0 ≡ 0)
      go true h = inl (h refl)
      go false h = inr refl

  -- from a held record, or from done, it is the walk
  same_walk : (k s : ℕ) → (held_here j s ≡ true) ⊎ (s ≡ 0) → on_from j s k ≡ walk j s k
  unfolding walk given on_from
  same_walk zero s w = refl
  same_walk (suc k) s (inl h) =
      simp (h, ne_eqb s 0 (not_zero s h)) (ap (λ (rs : List (List ℕ)). record_at j (slots_of j) s ∷ rs) (same_walk k (next_of j s) (next_held_or_none s)))
  same_walk (suc k) s (inr z) = simp (ap (held_here j) z ∙ none_at_zero, eq-eqb s 0 z)

-- where a walk starts stands a held record, or it is done
start_is : (j : List ℕ) (b s : ℕ) → Formed j (slots_of j) b → b < 4294967296 → StartsAt j s → (held_here j s ≡ true) ⊎ (s ≡ 0)
unfolding tell_rule
start_is j b s f fits w = go (known j b f w) (first_held j (slots_of j) (low_of j b) (b - low_of j b))
  where
    go : s ≡ first_of (held_list j b) → Begins j (slots_of j) (low_of j b) (b - low_of j b) → (held_here j s ≡ true) ⊎ (s ≡ 0)
    go e (empty x) = inr (e ∙ ap first_of x ∙ first_none)
    go e (begins u l k held x) =
        let q : low_of j b + (b - low_of j b) - (u - 1) ≡ b - (u - 1) = omega arith in
        let all : held_list j b ≡ held_after j (slots_of j) (u - 1) (b - (u - 1)) = x ∙ ap (held_after j (slots_of j) (u - 1)) q in
        let su : s ≡ u = e ∙ ap first_of all ∙ first_serial j (slots_of j) b u (b - (u - 1)) f l (omega arith) held (omega arith) in
        inl (ap (held_here j) su ∙ held_here_lem j b f fits u l (omega arith) held)

-- "gives held records .. by rising serial, each once, then says done": what is to come from a walk's start
pub all_to_come : (j : List ℕ) (b s : ℕ) → Formed j (slots_of j) b → b < 4294967296 → s < 4294967296 → StartsAt j s → on_from j s (4294967296 - s) ≡ held_list j b
all_to_come j b s f fits l w = same_walk j (4294967296 - s) s (start_is j b s f fits w) ∙ walk_enough j b s (4294967296 - s) f fits w (λ _. omega arith)

-- ---- the part that is given

module _ (j r : Bor (List ℕ)) (s : ℕ) where
  pub shown_none : (o : Outcome ℕ) → Shows j o r → o ≡ held_rule j.now s → length r.now ≡ 0 → held_here j.now s ≡ false
  shown_none o (the_record {at = a} v) e z =
      let l : length r.now ≡ length (take 32 (drop a j.now)) = ap length v.bytes in
      absurd (omega (arith, length-take 32 (drop a j.now), length-drop a j.now, given_in j.now s a e))
  shown_none o (nothing {n = n} v) e z = refused_here j.now s n e

  pub shown_held : (o : Outcome ℕ) → Shows j o r → o ≡ held_rule j.now s → (length r.now ≡ 0 → ⊥)
      → (held_here j.now s ≡ true) × (record_at j.now (slots_of j.now) s ≡ r.now)
  unfolding record_at
  shown_held o (the_record {at = a} v) e ne =
      let h : held_here j.now s ≡ true = given_here j.now s a e in
      let q : gives (place (slots_of j.now) s) ≡ gives a = here j.now s h ∙ sym e in
      let p : place (slots_of j.now) s ≡ a = cc in
      (h, ap (λ (x : ℕ). take 32 (drop x j.now)) p ∙ sym v.bytes)
  shown_held o (nothing {n = n} v) e ne =
      let l : length r.now ≡ length (take 0 (drop 0 j.now)) = ap length v.bytes in
      absurd (ne (omega (arith, length-take 0 (drop 0 j.now))))
