-- The ring of slots: where serials stand, neighbours, serials in different slots.
use Prim.Native.Nat.{ℕ, ◌≤◌, ◌<◌, ◌+◌, ◌-◌, ◌*◌, ◌/◌, ◌%◌}
use mathlib.Core.Path.{◌≡◌, sym, ap, ◌∙◌}
use native.Mathlib.Omega.{arith}
use native.Mathlib.Decide.{dec_lt}
use native.Mathlib.Nat.{mod-lt, mod-le, div-add-mod, add-mul-mod_self_left, mod-eq_of_lt, mod_self, mod-add-mod, mod-eq-sub-mod}
use Rattle.slots.specs.Journal.{place}

-- every slot below b is the slot of a kept serial
pub kept_at : (n b k : ℕ) → k < n → k < b → (s : ℕ) × (b - n < s) × (s ≤ b) × ((s - 1) % n ≡ k)
kept_at n b k hk hb =
    let d : ℕ = b - 1 - k in
    let r : ℕ = d % n in
    let lt : r < n = mod-lt d (omega arith) in
    let le : r ≤ d = mod-le d n in
    let e : n * (d / n) + r ≡ d = div-add-mod d n in
    let f : b - r - 1 ≡ k + n * (d / n) = omega arith in
    (b - r, omega arith, omega arith, ap (λ (x : ℕ). x % n) f ∙ add-mul-mod_self_left k n (d / n) ∙ mod-eq_of_lt hk)

-- ---- the places of neighbouring serials

-- the remainder of the next number: one more, or 0
pub mod-next : (n k : ℕ) → 1 ≤ n → (k % n + 1 < n → (k + 1) % n ≡ k % n + 1) × (k % n + 1 ≡ n → (k + 1) % n ≡ 0)
mod-next n k h =
    let e : n * (k / n) + k % n ≡ k = div-add-mod k n in
    let f : k + 1 ≡ (k % n + 1) + n * (k / n) = omega arith in
    let g : (k + 1) % n ≡ (k % n + 1) % n = ap (λ (x : ℕ). x % n) f ∙ add-mul-mod_self_left (k % n + 1) n (k / n) in
    ((λ l. g ∙ mod-eq_of_lt l), λ q. g ∙ ap (λ (x : ℕ). x % n) q ∙ mod_self n)

-- one place back
pub back_wrap : (n s at : ℕ) → 1 ≤ n → 2 ≤ s → at < 32 → at ≡ place n s → 32 * n - 32 ≡ place n (s - 1)
back_wrap n s at h l a e =
    let q : s - 1 - 1 + 1 ≡ s - 1 = omega arith in
    let lt : (s - 1 - 1) % n < n = mod-lt (s - 1 - 1) (omega arith) in
    go q lt (dec_lt ((s - 1 - 1) % n + 1) n)
  where
    go : s - 1 - 1 + 1 ≡ s - 1 → (s - 1 - 1) % n < n → Dec ((s - 1 - 1) % n + 1 < n) → 32 * n - 32 ≡ place n (s - 1)
    go q lt (yes y) =
        let z : (s - 1) % n ≡ (s - 1 - 1) % n + 1 = sym (ap (λ (x : ℕ). x % n) q) ∙ (mod-next n (s - 1 - 1) h).0 y in
        absurd (omega arith)
    go q lt (no y) = omega arith

pub back_step : (n s at : ℕ) → 1 ≤ n → 2 ≤ s → 32 ≤ at → at ≡ place n s → at - 32 ≡ place n (s - 1)
back_step n s at h l nz e =
    let q : s - 1 - 1 + 1 ≡ s - 1 = omega arith in
    let lt : (s - 1 - 1) % n < n = mod-lt (s - 1 - 1) (omega arith) in
    go q lt (dec_lt ((s - 1 - 1) % n + 1) n)
  where
    go : s - 1 - 1 + 1 ≡ s - 1 → (s - 1 - 1) % n < n → Dec ((s - 1 - 1) % n + 1 < n) → at - 32 ≡ place n (s - 1)
    go q lt (yes y) =
        let z : (s - 1) % n ≡ (s - 1 - 1) % n + 1 = sym (ap (λ (x : ℕ). x % n) q) ∙ (mod-next n (s - 1 - 1) h).0 y in
        omega arith
    go q lt (no y) =
        let z : (s - 1) % n ≡ 0 = sym (ap (λ (x : ℕ). x % n) q) ∙ (mod-next n (s - 1 - 1) h).1 (omega arith) in
        absurd (omega arith)

-- one place on
pub on_wrap : (n s at : ℕ) → 1 ≤ n → 1 ≤ s → 32 * n < at + 64 → at ≡ place n s → 0 ≡ place n (s + 1)
on_wrap n s at h l w e =
    let q : s - 1 + 1 ≡ s + 1 - 1 = omega arith in
    let lt : (s - 1) % n < n = mod-lt (s - 1) (omega arith) in
    let z : (s + 1 - 1) % n ≡ 0 = sym (ap (λ (x : ℕ). x % n) q) ∙ (mod-next n (s - 1) h).1 (omega arith) in
    omega arith

pub on_step : (n s at : ℕ) → 1 ≤ n → 1 ≤ s → at + 64 ≤ 32 * n → at ≡ place n s → at + 32 ≡ place n (s + 1)
on_step n s at h l w e =
    let q : s - 1 + 1 ≡ s + 1 - 1 = omega arith in
    let lt : (s - 1) % n < n = mod-lt (s - 1) (omega arith) in
    go q lt (dec_lt ((s - 1) % n + 1) n)
  where
    go : s - 1 + 1 ≡ s + 1 - 1 → (s - 1) % n < n → Dec ((s - 1) % n + 1 < n) → at + 32 ≡ place n (s + 1)
    go q lt (yes y) =
        let z : (s + 1 - 1) % n ≡ (s - 1) % n + 1 = sym (ap (λ (x : ℕ). x % n) q) ∙ (mod-next n (s - 1) h).0 y in
        omega arith
    go q lt (no y) = absurd (omega arith)

-- two serials less than n apart stand in two slots
mod_differs : (n a d : ℕ) → 0 < d → d < n → (a + d) % n ≡ a % n → ⊥
mod_differs n a d pos small e = go (dec_lt (a % n + d) n)
  where
    m<n : a % n < n
    m<n = mod-lt a (omega arith)

    e2 : (a % n + d) % n ≡ a % n
    e2 = mod-add-mod a n d ∙ e

    go : Dec (a % n + d < n) → ⊥
    go (yes q) = omega (arith, sym (mod-eq_of_lt q) ∙ e2)
    go (no q) =
        let s : (a % n + d) % n ≡ (a % n + d - n) % n = mod-eq-sub-mod (omega arith) in
        let t : (a % n + d - n) % n ≡ a % n + d - n = mod-eq_of_lt (omega (arith, m<n)) in
        omega (arith, m<n, sym t ∙ sym s ∙ e2)

pub place_apart : (n s t : ℕ) → 1 ≤ s → s < t → t < s + n → place n s ≡ place n t → ⊥
place_apart n s t l h k e =
    let q : s - 1 + (t - s) ≡ t - 1 = omega arith in
    mod_differs n (s - 1) (t - s) (omega arith) (omega arith) (ap (λ (x : ℕ). x % n) q ∙ omega arith)

-- a place lies in the journal
pub place_in : (n s : ℕ) → 1 ≤ n → place n s + 32 ≤ 32 * n
place_in n s h = omega (arith, mod-lt (s - 1) {m = n} (omega arith))
