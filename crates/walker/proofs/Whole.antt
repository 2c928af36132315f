-- Whole walks by steps: on a well-formed journal they give the held list, each record once, then say done.
use Rattle.std.proofs.Common.{Some}
use Prim.Native.Nat.{ℕ, zero, suc, max, ◌≤◌, ◌<◌, ◌+◌, ◌-◌}
use mathlib.Core.Path.{◌≡◌, refl, sym, ap, ◌∙◌, subst, subst⁻¹}
use mathlib.Core.Bool.{Bool, true, cond}
use mathlib.Core.List.{List, ◌∷◌}
use native.Mathlib.Omega.{arith}
use native.Mathlib.Decide.{dec_lt}
use lib.ListN.{take, drop}
use Rattle.reasons.specs.Reasons.{gives}
use Rattle.slots.specs.Record.{is_held}
use Rattle.slots.specs.Journal.{slots_of, place, state_of, Formed}
use Rattle.held.specs.Held.{record_at, held_after, held_list, low_of, first_of}
use Rattle.held.specs.Rules.{tell_rule}
use Rattle.held.proofs.Lists.{held_up}
use Rattle.walker.specs.Walk.{next_of}
use Rattle.walker.specs.Steps.{first_above, walk_rule, start_rule, step_rule, Above, above_done, above_next, Onward, onward_done, onward_next}
use Rattle.walker.proofs.Held.{here, next_held}
use Rattle.walker.proofs.Steps.{place_there, walk-given, step_found}
use Rattle.walker.proofs.Laws.{held_here_lem, last_next, Begins, empty, begins, first_held, first_serial, first_none}

-- ---- any steps

module _ (j : List ℕ) {P Q : ℕ → ℕ × ℕ → Type 0} (to : (s : ℕ) (y : ℕ × ℕ) → P s y → Q s y) where
  pub above_by : {s : ℕ} {rs : List (List ℕ)} → Above j P s rs → Above j Q s rs
  above_by (above_done p) = above_done (to _ _ p)
  above_by (above_next n p w) = above_next n (to _ _ p) (above_by w)

  pub onward_by : {s : ℕ} {rs : List (List ℕ)} → Onward j P s rs → Onward j Q s rs
  onward_by onward_done = onward_done
  onward_by (onward_next n p w) = onward_next n (to _ _ p) (onward_by w)

-- steps with one answer each make one walk
module _ (j : List ℕ) {P : ℕ → ℕ × ℕ → Type 0} (one : (s : ℕ) (y z : ℕ × ℕ) → P s y → P s z → y ≡ z) where
  pub above_one : {s : ℕ} {rs qs : List (List ℕ)} → Above j P s rs → Above j P s qs → rs ≡ qs
  above_one (above_done p) (above_done q) = refl
  above_one (above_done p) (above_next n q w) = absurd (n (ap (λ (y : ℕ × ℕ). y.0) (one _ _ _ q p)))
  above_one (above_next n p v) (above_done q) = absurd (n (ap (λ (y : ℕ × ℕ). y.0) (one _ _ _ p q)))
  above_one (above_next {t = t} {at = a} {rs = rs} n p v) (above_next {rs = qs} m q w) =
      let e = one _ _ _ p q in
      λ i. take 32 (drop (e i).1 j) ∷ above_one v (subst⁻¹ (λ (u : ℕ). Above j P u qs) (ap (λ (y : ℕ × ℕ). y.0) e) w) i

  pub onward_one : {s : ℕ} {rs qs : List (List ℕ)} → Onward j P s rs → Onward j P s qs → rs ≡ qs
  onward_one onward_done onward_done = refl
  onward_one onward_done (onward_next n q w) = absurd (n refl)
  onward_one (onward_next n p v) onward_done = absurd (n refl)
  onward_one (onward_next {rs = rs} n p v) (onward_next {rs = qs} m q w) =
      let e = one _ _ _ p q in
      λ i. take 32 (drop (e i).0 j) ∷ onward_one v (subst⁻¹ (λ (u : ℕ). Onward j P u qs) (ap (λ (y : ℕ × ℕ). y.1) e) w) i

-- ---- the steps of the rules

abbrev pub anew : List ℕ → ℕ → ℕ → ℕ × ℕ → Type 0
anew j b s y = walk_rule (Some b) j s ≡ gives y

abbrev pub steps : List ℕ → ℕ → ℕ × ℕ → Type 0
steps j s y = step_rule j s ≡ gives y

-- the serial of a record that stands among those after `top`
stands_in : (top b u : ℕ) → top < u → u ≤ top + (b - top) → (top + (b - top) - (u - 1) ≡ b - (u - 1)) × (1 ≤ u) × (u ≤ b) × (0 < b - (u - 1)) × (u ≡ 0 → ⊥)
stands_in top b u l h = (omega arith, omega arith, omega arith, omega arith, λ z. omega arith)

over_both : (low s u : ℕ) → max low s < u → (low < u) × (s < u) × (max low u ≡ u)
over_both low s u l = (omega arith, omega arith, omega arith)

fewer : (b s u t : ℕ) → b - s < suc t → s < u → u ≤ b → b - u < t
fewer b s u t h l k = omega arith

module _ (j : List ℕ) (b : ℕ) (f : Formed j (slots_of j) b) where
  -- the held list from a held record on
  head_held : (s : ℕ) → 1 ≤ s → s ≤ b → is_held (state_of j (slots_of j) s) ≡ true
      → held_after j (slots_of j) (s - 1) (b - (s - 1)) ≡ take 32 (drop (place (slots_of j) s) j) ∷ held_after j (slots_of j) s (b - s)
  unfolding held_after record_at
  head_held s l h e =
      let n : ℕ = slots_of j in
      let q : b - (s - 1) ≡ suc (b - s) = omega arith in
      let p : s - 1 + 1 ≡ s = omega arith in
      ap (held_after j n (s - 1)) q
      ∙ ap (λ (x : ℕ). cond (is_held (state_of j n x)) (record_at j n x ∷ held_after j n x (b - s)) (held_after j n x (b - s))) p
      ∙ ap (λ (t : Bool). cond t (record_at j n s ∷ held_after j n s (b - s)) (held_after j n s (b - s))) e

  above_from : (t s : ℕ) → b - s < t → Above j (anew j b) s (held_after j (slots_of j) (max (low_of j b) s) (b - max (low_of j b) s))
  unfolding first_above
  above_from zero s h = absurd (omega arith)
  above_from (suc t) s h = go (λ u l. above_from t u l) (first_held j (slots_of j) (max (low_of j b) s) (b - max (low_of j b) s))
    where
      go : ((u : ℕ) → b - u < t → Above j (anew j b) u (held_after j (slots_of j) (max (low_of j b) u) (b - max (low_of j b) u)))
          → Begins j (slots_of j) (max (low_of j b) s) (b - max (low_of j b) s)
          → Above j (anew j b) s (held_after j (slots_of j) (max (low_of j b) s) (b - max (low_of j b) s))
      go next (empty x) =
          subst⁻¹ (Above j (anew j b) s) x
          (above_done (sym (walk-given j b s 0 0 (sym (ap first_of x ∙ first_none)) refl)))
      go next (begins u l k e x) =
          let n : ℕ = slots_of j in
          let top : ℕ = max (low_of j b) s in
          let i = stands_in top b u l k in
          let o = over_both (low_of j b) s u l in
          let all : held_after j n top (b - top) ≡ held_after j n (u - 1) (b - (u - 1)) = x ∙ ap (held_after j n (u - 1)) i.0 in
          let first : u ≡ first_above j b s = sym (ap first_of all ∙ first_serial j n b u (b - (u - 1)) f o.0 i.2 e i.3) in
          subst⁻¹ (Above j (anew j b) s) (all ∙ head_held u i.1 i.2 e)
          (above_next i.4 (sym (walk-given j b s u (place n u) first (place_there j u (place n u) i.4 refl)))
          (subst (λ (x : ℕ). Above j (anew j b) u (held_after j n x (b - x))) o.2 (next u (fewer b s u t h o.1 i.2))))

  -- "by rising serial, each once, then says done": steps that check the journal anew, from above serial 0
  pub above_all : Above j (anew j b) 0 (held_list j b)
  above_all =
      let m : max (low_of j b) 0 ≡ low_of j b = omega arith in
      subst (λ (x : ℕ). Above j (anew j b) 0 (held_after j (slots_of j) x (b - x))) m (above_from (suc b) 0 (omega arith))

  module _ (fits : b < 4294967296) where
    onward_from : (t s : ℕ) → low_of j b < s → s ≤ b → is_held (state_of j (slots_of j) s) ≡ true → b - s < t
        → Onward j (steps j) s (held_after j (slots_of j) (s - 1) (b - (s - 1)))
    unfolding held_after
    onward_from zero s l h e m = absurd (omega arith)
    onward_from (suc t) s l h e m =
        subst⁻¹ (Onward j (steps j) s) (head_held s (omega arith) h e)
        (onward_next (λ z. omega arith) (sym (step_found j s (gives (place (slots_of j) s)) (here j s (held_here_lem j b f fits s l h e))))
        (rest (λ up x. onward_from t (s + 1) (omega arith) x up (omega arith)) (dec_lt s b)))
      where
        rest : (is_held (state_of j (slots_of j) (s + 1)) ≡ true → s + 1 ≤ b → Onward j (steps j) (s + 1) (held_after j (slots_of j) (s + 1 - 1) (b - (s + 1 - 1))))
            → Dec (s < b) → Onward j (steps j) (next_of j s) (held_after j (slots_of j) s (b - s))
        rest next (yes y) =
            let up : is_held (state_of j (slots_of j) (s + 1)) ≡ true = held_up j (slots_of j) b s (s + 1) f l (omega arith) (omega arith) e in
            let q : s + 1 - 1 ≡ s = omega arith in
            subst (λ (x : ℕ). Onward j (steps j) x (held_after j (slots_of j) s (b - s)))
            (next_held j s (omega arith) (omega arith) (held_here_lem j b f fits (s + 1) (omega arith) (omega arith) up))
            (subst (λ (x : ℕ). Onward j (steps j) (s + 1) (held_after j (slots_of j) x (b - x))) q (next up (omega arith)))
        rest next (no y) =
            let z : b ≡ s = omega arith in
            let o : 0 ≡ b - s = omega arith in
            subst (λ (x : ℕ). Onward j (steps j) (next_of j x) (held_after j (slots_of j) s (b - s))) z
            (subst (λ (x : ℕ). Onward j (steps j) x (held_after j (slots_of j) s (b - s))) (last_next j b f fits (omega arith))
            (subst (λ (x : ℕ). Onward j (steps j) 0 (held_after j (slots_of j) s x)) o onward_done))

    -- the same of a start that checks the journal, and steps that don't
    pub onward_all : (s : ℕ) → start_rule (Some b) j ≡ gives s → Onward j (steps j) s (held_list j b)
    unfolding start_rule tell_rule
    onward_all s e = go (cc e) (first_held j (slots_of j) (low_of j b) (b - low_of j b))
      where
        go : first_of (held_list j b) ≡ s → Begins j (slots_of j) (low_of j b) (b - low_of j b) → Onward j (steps j) s (held_list j b)
        go e (empty x) =
            subst (λ (u : ℕ). Onward j (steps j) u (held_list j b)) (sym (ap first_of x ∙ first_none) ∙ e)
            (subst⁻¹ (Onward j (steps j) 0) x onward_done)
        go e (begins u l k held x) =
            let q : low_of j b + (b - low_of j b) - (u - 1) ≡ b - (u - 1) = omega arith in
            let all : held_list j b ≡ held_after j (slots_of j) (u - 1) (b - (u - 1)) = x ∙ ap (held_after j (slots_of j) (u - 1)) q in
            let us : u ≡ s = sym (ap first_of all ∙ first_serial j (slots_of j) b u (b - (u - 1)) f l (omega arith) held (omega arith)) ∙ e in
            subst (λ (x : ℕ). Onward j (steps j) x (held_list j b)) us
            (subst⁻¹ (Onward j (steps j) u) all (onward_from (suc b) u l (omega arith) held (omega arith)))
