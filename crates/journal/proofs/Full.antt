-- The journal is full exactly where the slot of the next serial is held.
use Prim.Native.Nat.{ℕ, zero, suc, ◌≤◌, ◌<◌, ◌+◌, ◌-◌, ◌*◌, ◌%◌}
use mathlib.Core.Path.{◌≡◌, refl, sym, ap, ◌∙◌, subst}
use mathlib.Core.Bool.{Bool, true, false, ◌&&◌, and-false}
use mathlib.Core.List.{List}
use native.Mathlib.Decide.{dec_le, dec_lt}
use native.Mathlib.Nat.{mod-lt, mod-eq_of_lt, mod-eq-sub-mod}
use native.Mathlib.Omega.{arith}
use Rattle.slots.specs.Record.{is_held, state_at}
use Rattle.slots.specs.Journal.{Formed, place, state_of}
use Rattle.slots.proofs.Ring.{kept_at}
use Rattle.slots.proofs.Ranges.{differ}
use Rattle.slots.proofs.Passed.{good_released}
use Rattle.slots.proofs.States.{free_not_held}
use Rattle.journal.specs.Rules.{held_slots}

-- every one of the first k slots held
all_held : (j : List ℕ) (k : ℕ) → ((i : ℕ) → i < k → is_held (state_at j (32 * i)) ≡ true) → held_slots j k ≡ true
unfolding held_slots
all_held j zero h = refl
all_held j (suc k) h =
    ap (λ (t : Bool). t && is_held (state_at j (32 * k))) (all_held j k (λ i l. h i (omega arith))) ∙ h k (omega arith)

-- one of them not held
one_free : (j : List ℕ) (k i : ℕ) → i < k → is_held (state_at j (32 * i)) ≡ false → held_slots j k ≡ false
unfolding held_slots
one_free j zero i l e = absurd (omega arith)
one_free j (suc k) i l e = go (λ q. one_free j k i q e) (dec_lt i k)
  where
    go : (i < k → held_slots j k ≡ false) → Dec (i < k) → (held_slots j k && is_held (state_at j (32 * k))) ≡ false
    go below (yes q) = ap (λ (t : Bool). t && is_held (state_at j (32 * k))) (below q)
    go below (no q) =
        let z : i ≡ k = omega arith in
        ap (λ (t : Bool). held_slots j k && t) (subst (λ (x : ℕ). is_held (state_at j (32 * x)) ≡ false) z e) ∙ and-false (held_slots j k)

module _ (j : List ℕ) (n b : ℕ) (f : Formed j n b) where
  pub next_in : b % n < n
  next_in = let l = f.least in mod-lt b (omega arith)

  -- where the slot of the next serial is held, every slot is
  held_full : is_held (state_at j (32 * (b % n))) ≡ true → (k : ℕ) → k < n → is_held (state_at j (32 * k)) ≡ true
  held_full next k hk = go (dec_le n b)
    where
      -- then that slot has the oldest serial
      oldest : n ≤ b → is_held (state_of j n (b - n + 1)) ≡ true
      oldest h =
          let e : b - n + 1 - 1 ≡ b - n = omega arith in
          ap (λ (m : ℕ). is_held (state_at j (32 * (m % n)))) e ∙ ap (λ (m : ℕ). is_held (state_at j (32 * m))) (sym (mod-eq-sub-mod h)) ∙ next

      kept : n ≤ b → (s : ℕ) → b - n < s → s ≤ b → (t : Bool) → is_held (state_of j n s) ≡ t → is_held (state_of j n s) ≡ true
      kept h s l m true e = e
      kept h s l m false e =
          let p = f.least in
          let z : s < b - n + 1 = f.order s (b - n + 1) l m (omega arith) (omega arith) (good_released j (place n s) s (f.stands s l m) e) (oldest h) in
          absurd (omega arith)

      at_kept : n ≤ b → (s : ℕ) × (b - n < s) × (s ≤ b) × ((s - 1) % n ≡ k) → is_held (state_at j (32 * k)) ≡ true
      at_kept h w = subst (λ (m : ℕ). is_held (state_at j (32 * m)) ≡ true) w.3 (kept h w.0 w.1 w.2 (is_held (state_of j n w.0)) refl)

      empty : b < n → is_held (state_at j (32 * k)) ≡ true
      empty h =
          let z : is_held (state_at j (32 * b)) ≡ true = subst (λ (m : ℕ). is_held (state_at j (32 * m)) ≡ true) (mod-eq_of_lt h) next in
          let s = f.size in
          absurd (differ (is_held 0) free_not_held (ap is_held (sym (f.rest (32 * b + 15) (omega arith) (omega arith))) ∙ z))

      go : Dec (n ≤ b) → is_held (state_at j (32 * k)) ≡ true
      go (yes h) = at_kept h (kept_at n b k hk (omega arith))
      go (no h) = empty (omega arith)

  tells_full : (t : Bool) → is_held (state_at j (32 * (b % n))) ≡ t → t ≡ held_slots j n
  tells_full true e = sym (all_held j n (held_full e))
  tells_full false e = sym (one_free j n (b % n) next_in e)

  pub next_full : is_held (state_at j (32 * (b % n))) ≡ held_slots j n
  next_full = tells_full (is_held (state_at j (32 * (b % n)))) refl
