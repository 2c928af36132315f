-- One turn of the walk that releases.
use Prim.Native.Nat.{ℕ, zero, suc, ◌≤◌, ◌+◌, ◌-◌}
use mathlib.Core.Path.{◌≡◌, sym, ap, ◌∙◌}
use mathlib.Core.Bool.{Bool, true, false, cond}
use mathlib.Core.List.{List}
use native.Mathlib.Omega.{arith}
use lib.ListN.{set}
use Rattle.slots.specs.Journal.{place}
use Rattle.slots.specs.Record.{is_held, freed_state, state_at}
use Rattle.journal.specs.Rules.{freed_at, freed_after}

-- the walk up from low: one serial more
pub free_next : (j : List ℕ) (n low m : ℕ) → freed_after j n low (suc m) ≡ freed_at (freed_after j n low m) (place n (low + m + 1))
unfolding freed_after
free_next j n low zero = let e : low + 1 ≡ low + 0 + 1 = omega arith in ap (λ (x : ℕ). freed_at j (place n x)) e
free_next j n low (suc m) =
    let e : low + 1 + m + 1 ≡ low + suc m + 1 = omega arith in
    free_next (freed_at j (place n (low + 1))) n (low + 1) m ∙ ap (λ (x : ℕ). freed_at (freed_after (freed_at j (place n (low + 1))) n (low + 1) m) (place n x)) e

pub free_none : (j : List ℕ) (n low : ℕ) → j ≡ freed_after j n low (low - low)
unfolding freed_after
free_none j n low = let z : 0 ≡ low - low = omega arith in ap (freed_after j n low) z

pub free_more : (j₀ j k : List ℕ) (n low s at : ℕ) → low ≤ s → at ≡ place n (s + 1) → j ≡ freed_after j₀ n low (s - low) → k ≡ freed_at j at
    → k ≡ freed_after j₀ n low (s + 1 - low)
free_more j₀ j k n low s at h e w f =
    let q : suc (s - low) ≡ s + 1 - low = omega arith in
    let p : low + (s - low) + 1 ≡ s + 1 = omega arith in
    f ∙ (λ i. freed_at (w i) (e i)) ∙ ap (λ (x : ℕ). freed_at (freed_after j₀ n low (s - low)) (place n x)) (sym p)
    ∙ sym (free_next j₀ n low (s - low)) ∙ ap (freed_after j₀ n low) q

-- one state byte
pub freed_held : (j : List ℕ) (at v : ℕ) → is_held (state_at j at) ≡ true → v ≡ freed_state (state_at j at) → set j (at + 15) v ≡ freed_at j at
unfolding freed_at
freed_held j at v h e = ap (set j (at + 15)) e ∙ sym (ap (λ (t : Bool). cond t (set j (at + 15) (freed_state (state_at j at))) j) h)

pub freed_not : (j : List ℕ) (at : ℕ) → is_held (state_at j at) ≡ false → j ≡ freed_at j at
unfolding freed_at
freed_not j at h = sym (ap (λ (t : Bool). cond t (set j (at + 15) (freed_state (state_at j at))) j) h)
