-- One turn of the walk over the held records.
use Prim.Native.Nat.{ℕ, suc, ◌≤◌, ◌<◌, ◌+◌, ◌-◌}
use mathlib.Core.Path.{◌≡◌, sym, ap, ◌∙◌, subst⁻¹}
use mathlib.Core.Bool.{Bool, true, false, cond}
use mathlib.Core.List.{List, ◌∷◌}
use native.Mathlib.Omega.{arith}
use lib.ListN.{get_or, take, drop}
use lib.Seq.{get_or-take, get_or-drop}
use Rattle.text.specs.Numbers.{u32_at}
use Rattle.slots.specs.Journal.{place, state_of}
use Rattle.slots.specs.Record.{is_held, state_at}
use Rattle.held.specs.Held.{record_at, held_after, sum_of, first_of, Tallies}
use Rattle.held.specs.declared.Tallied.{Tallied}

-- a number in a part of the bytes
u32_part : (j : List ℕ) (at i : ℕ) → i + 4 ≤ 32 → u32_at (take 32 (drop at j)) i ≡ u32_at j (at + i)
unfolding u32_at
u32_part j at i h =
    let a0 : get_or (take 32 (drop at j)) i 0 ≡ get_or j (at + i) 0 = get_or-take 32 (drop at j) i 0 (omega arith) ∙ get_or-drop at j i 0 in
    let a1 : get_or (take 32 (drop at j)) (i + 1) 0 ≡ get_or j (at + i + 1) 0 = one 1 (omega arith) in
    let a2 : get_or (take 32 (drop at j)) (i + 2) 0 ≡ get_or j (at + i + 2) 0 = one 2 (omega arith) in
    let a3 : get_or (take 32 (drop at j)) (i + 3) 0 ≡ get_or j (at + i + 3) 0 = one 3 (omega arith) in
    omega arith
  where
    one : (k : ℕ) → k < 4 → get_or (take 32 (drop at j)) (i + k) 0 ≡ get_or j (at + i + k) 0
    one k l =
        let e : at + (i + k) ≡ at + i + k = omega arith in
        get_or-take 32 (drop at j) (i + k) 0 (omega arith) ∙ get_or-drop at j (i + k) 0 ∙ ap (λ (x : ℕ). get_or j x 0) e

-- one record more, where it is held
pub more_held : (j : List ℕ) (at : ℕ) (t r : Tallied) (rs : List (List ℕ)) → is_held (state_at j at) ≡ true
    → r.count ≡ t.count + 1 → r.sum ≡ t.sum + u32_at j (at + 8) → r.first ≡ u32_at j at → Tallies t rs
    → Tallies r (cond (is_held (state_at j at)) (take 32 (drop at j) ∷ rs) rs)
unfolding sum_of first_of
more_held j at t r rs h ec es ef a =
    let p : u32_at (take 32 (drop at j)) 8 ≡ u32_at j (at + 8) = u32_part j at 8 (omega arith) in
    let z : at + 0 ≡ at = omega arith in
    let q : u32_at (take 32 (drop at j)) 0 ≡ u32_at j at = u32_part j at 0 (omega arith) ∙ ap (u32_at j) z in
    subst⁻¹ (λ (b : Bool). Tallies r (cond b (take 32 (drop at j) ∷ rs) rs)) h
    (record { count = omega (arith, a.count); sum = omega (arith, a.sum); first = ef ∙ sym q })

pub not_held : (j : List ℕ) (at : ℕ) (t : Tallied) (rs : List (List ℕ)) → is_held (state_at j at) ≡ false → Tallies t rs
    → Tallies t (cond (is_held (state_at j at)) (take 32 (drop at j) ∷ rs) rs)
not_held j at t rs h a = subst⁻¹ (λ (b : Bool). Tallies t (cond b (take 32 (drop at j) ∷ rs) rs)) h a

-- the walk down from serial top: nothing passed, one serial more, all
pub held_none : (j : List ℕ) (n top : ℕ) (t : Tallied) → t.count ≡ 0 → t.sum ≡ 0 → t.first ≡ 0 → Tallies t (held_after j n top (top - top))
unfolding held_after sum_of first_of
held_none j n top t ec es ef =
    let z : top - top ≡ 0 = omega arith in
    subst⁻¹ (λ (m : ℕ). Tallies t (held_after j n top m)) z (record { count = ec; sum = es; first = ef })

pub held_more : (j : List ℕ) (n s top at : ℕ) → 0 < s → s ≤ top → at ≡ place n s
    → cond (is_held (state_at j at)) (take 32 (drop at j) ∷ held_after j n s (top - s)) (held_after j n s (top - s)) ≡ held_after j n (s - 1) (top - (s - 1))
unfolding held_after record_at
held_more j n s top at pos h e =
    let q : suc (top - s) ≡ top - (s - 1) = omega arith in
    let p : s ≡ s - 1 + 1 = omega arith in
    ap (λ (a : ℕ). cond (is_held (state_at j a)) (take 32 (drop a j) ∷ held_after j n s (top - s)) (held_after j n s (top - s))) e
    ∙ ap (λ (x : ℕ). cond (is_held (state_of j n x)) (record_at j n x ∷ held_after j n x (top - s)) (held_after j n x (top - s))) p
    ∙ ap (held_after j n (s - 1)) q
