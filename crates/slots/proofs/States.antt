-- What the state bytes say: the laws behind the names held, released, free.
use Prim.Native.Nat.{ℕ, ◌≤◌, ◌+◌}
use mathlib.Core.Path.{◌≡◌, refl, subst}
use mathlib.Core.Bool.{Bool, true, false, ◌||◌}
use native.Mathlib.Omega.{arith}
use borrow.Author.Tests.{eqb-true, eq-eqb, ne_eqb}
use Rattle.pan.specs.Pan.{pan_length, front_shown, back_shown}
use Rattle.slots.specs.Record.{is_held, is_released, is_record, held_state, freed_state, length_fits, front_kept, back_kept, kept}

-- a state is not both
pub not_both : (x : ℕ) → is_held x ≡ true → is_released x ≡ true → ⊥
unfolding is_held is_released
not_both x h r = let a = eqb-true x 1 h in let b = eqb-true x 2 r in omega arith

-- a free slot is not held
pub free_not_held : is_held 0 ≡ false
unfolding is_held
free_not_held = refl

-- what was held and is released is released and not held, and it keeps what it kept
pub freed_released : (x : ℕ) → is_held x ≡ true → is_released (freed_state x) ≡ true
unfolding is_held is_released freed_state
freed_released x h = let a = eqb-true x 1 h in eq-eqb (x + 1) 2 (omega arith)

pub freed_not_held : (x : ℕ) → is_held x ≡ true → is_held (freed_state x) ≡ false
unfolding is_held freed_state
freed_not_held x h = let a = eqb-true x 1 h in ne_eqb (x + 1) 1 (λ e. omega arith)

pub freed_kept : (x : ℕ) → is_held x ≡ true → kept (freed_state x) ≡ kept x
unfolding front_kept back_kept
freed_kept x h = refl

pub freed_length : (x n : ℕ) → is_held x ≡ true → length_fits (freed_state x) n ≡ length_fits x n
unfolding length_fits
freed_length x n h = refl

-- the digits kept leave room
pub kept-fits : (x : ℕ) → kept x ≤ 16
unfolding front_kept back_kept
kept-fits x = omega arith

-- a booking writes a held record, which keeps the digits that are shown
pub booked_held : (n : ℕ) → is_held (held_state n) ≡ true
unfolding is_held held_state
booked_held n = refl

pub booked-length : (n : ℕ) → pan_length n ≡ true → length_fits (held_state n) n ≡ true
unfolding length_fits
booked-length n h = h

pub booked-front : (n : ℕ) → front_kept (held_state n) ≡ front_shown n
unfolding front_kept front_shown
booked-front n = refl

pub booked-back : (n : ℕ) → back_kept (held_state n) ≡ back_shown n
unfolding back_kept back_shown
booked-back n = refl

-- a record that is not held is released
pub state_released : (x : ℕ) → is_record x ≡ true → is_held x ≡ false → is_released x ≡ true
state_released x h e = subst (λ (t : Bool). (t || is_released x) ≡ true) e h

pub free_no_record : is_record 0 ≡ false
unfolding is_held is_released
free_no_record = refl
