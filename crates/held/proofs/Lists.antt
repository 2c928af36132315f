-- The list of held records: its order, its parts, how many there are and what they add up to.
use Prim.Native.Nat.{ℕ, zero, suc, ◌≤◌, ◌<◌, ◌+◌, ◌-◌}
use mathlib.Core.Path.{◌≡◌, refl, sym, ap, ◌∙◌}
use mathlib.Core.Bool.{Bool, true, false, cond}
use mathlib.Core.List.{List, [], ◌∷◌, ◌++◌}
use native.Mathlib.Omega.{arith}
use native.Mathlib.Decide.{dec_lt}
use native.Mathlib.Nat.{add-zero}
use lib.ListN.{length, get_or, length-append}
use Rattle.slots.specs.Record.{is_held, is_released}
use Rattle.slots.specs.Journal.{place, state_of, Formed}
use Rattle.slots.proofs.Passed.{good_released}
use Rattle.text.proofs.Put.{part_same}
use Rattle.held.specs.Held.{record_at, held_after, sum_of}

-- ---- order: above a held record all are held

pub held_up : (j : List ℕ) (n b s t : ℕ) → Formed j n b → b - n < s → s ≤ t → t ≤ b → is_held (state_of j n s) ≡ true → is_held (state_of j n t) ≡ true
held_up j n b s t f l h k e = go (is_held (state_of j n t)) refl
  where
    go : (x : Bool) → is_held (state_of j n t) ≡ x → is_held (state_of j n t) ≡ true
    go true q = q
    go false q =
        let r : is_released (state_of j n t) ≡ true = good_released j (place n t) t (f.stands t (omega arith) k) q in
        let z : t < s = f.order t s (omega arith) k l (omega arith) r e in
        absurd (omega arith)

-- ---- the list in two parts

pub held_append : (j : List ℕ) (n low m p : ℕ) → held_after j n low (m + p) ≡ held_after j n low m ++ held_after j n (low + m) p
unfolding held_after
held_append j n low zero p = λ i. held_after j n (sym (add-zero low) i) (zero_left i)
  where
    zero_left : 0 + p ≡ p
    zero_left = omega arith
held_append j n low (suc m) p =
    let e : suc m + p ≡ suc (m + p) = omega arith in
    let w : low + 1 + m ≡ low + suc m = omega arith in
    let ih : held_after j n (low + 1) (m + p) ≡ held_after j n (low + 1) m ++ held_after j n (low + suc m) p =
    held_append j n (low + 1) m p ∙ ap (λ (x : ℕ). held_after j n (low + 1) m ++ held_after j n x p) w in
    ap (held_after j n low) e ∙ split (is_held (state_of j n (low + 1))) ih
  where
    split : (t : Bool) → held_after j n (low + 1) (m + p) ≡ held_after j n (low + 1) m ++ held_after j n (low + suc m) p
        → cond t (record_at j n (low + 1) ∷ held_after j n (low + 1) (m + p)) (held_after j n (low + 1) (m + p))
        ≡ cond t (record_at j n (low + 1) ∷ held_after j n (low + 1) m) (held_after j n (low + 1) m) ++ held_after j n (low + suc m) p
    split true ih = ap (λ (l : List (List ℕ)). record_at j n (low + 1) ∷ l) ih
    split false ih = ih

-- ---- the list is told by the records' own bytes

pub held_same : (j k : List ℕ) (n low m : ℕ) → length k ≡ length j
    → ((s i : ℕ) → low < s → s ≤ low + m → i < 32 → get_or k (place n s + i) 0 ≡ get_or j (place n s + i) 0) → held_after k n low m ≡ held_after j n low m
unfolding held_after record_at
held_same j k n low zero e h = refl
held_same j k n low (suc m) e h =
    let ih : held_after k n (low + 1) m ≡ held_after j n (low + 1) m = held_same j k n (low + 1) m e (λ s i a b c. h s i (omega arith) (omega arith) c) in
    let st : state_of k n (low + 1) ≡ state_of j n (low + 1) = h (low + 1) 15 (omega arith) (omega arith) (omega arith) in
    let rc : record_at k n (low + 1) ≡ record_at j n (low + 1) = part_same j k (place n (low + 1)) 32 e (λ i l. h (low + 1) i (omega arith) (omega arith) l) in
    λ i. cond (is_held (st i)) (rc i ∷ ih i) (ih i)

-- serials none of which is held
pub held_none : (j : List ℕ) (n low m : ℕ) → ((s : ℕ) → low < s → s ≤ low + m → is_held (state_of j n s) ≡ false) → held_after j n low m ≡ []
unfolding held_after
held_none j n low zero h = refl
held_none j n low (suc m) h =
    ap (λ (t : Bool). cond t (record_at j n (low + 1) ∷ held_after j n (low + 1) m) (held_after j n (low + 1) m)) (h (low + 1) (omega arith) (omega arith))
    ∙ held_none j n (low + 1) m (λ s a b. h s (omega arith) (omega arith))

-- one serial that is held
pub held_single : (j : List ℕ) (n low : ℕ) → is_held (state_of j n (low + 1)) ≡ true → held_after j n low 1 ≡ record_at j n (low + 1) ∷ []
unfolding held_after
held_single j n low h = ap (λ (t : Bool). cond t (record_at j n (low + 1) ∷ held_after j n (low + 1) 0) (held_after j n (low + 1) 0)) h

-- ---- how many are held: the newest ones

pub held_at_most : (j : List ℕ) (n low m : ℕ) → length (held_after j n low m) ≤ m
unfolding held_after
held_at_most j n low zero = omega arith
held_at_most j n low (suc m) = go (is_held (state_of j n (low + 1))) (held_at_most j n (low + 1) m)
  where
    go : (t : Bool) → length (held_after j n (low + 1) m) ≤ m
        → length (cond t (record_at j n (low + 1) ∷ held_after j n (low + 1) m) (held_after j n (low + 1) m)) ≤ suc m
    go true h = omega arith
    go false h = omega arith

pub held_all : (j : List ℕ) (n low m : ℕ) → ((s : ℕ) → low < s → s ≤ low + m → is_held (state_of j n s) ≡ true) → length (held_after j n low m) ≡ m
unfolding held_after
held_all j n low zero h = refl
held_all j n low (suc m) h =
    let ih : length (held_after j n (low + 1) m) ≡ m = held_all j n (low + 1) m (λ s a b. h s (omega arith) (omega arith)) in
    ap (λ (t : Bool). length (cond t (record_at j n (low + 1) ∷ held_after j n (low + 1) m) (held_after j n (low + 1) m)))
    (h (low + 1) (omega arith) (omega arith)) ∙ ap suc ih

pub held_some : (j : List ℕ) (n low m : ℕ) → 0 < length (held_after j n low m) → (s : ℕ) × (low < s) × (s ≤ low + m) × (is_held (state_of j n s) ≡ true)
unfolding held_after
held_some j n low zero h = absurd (omega arith)
held_some j n low (suc m) h = go (is_held (state_of j n (low + 1))) refl h (λ q. held_some j n (low + 1) m q)
  where
    go : (t : Bool) → is_held (state_of j n (low + 1)) ≡ t
        → 0 < length (cond t (record_at j n (low + 1) ∷ held_after j n (low + 1) m) (held_after j n (low + 1) m))
        → (0 < length (held_after j n (low + 1) m) → (s : ℕ) × (low + 1 < s) × (s ≤ low + 1 + m) × (is_held (state_of j n s) ≡ true))
        → (s : ℕ) × (low < s) × (s ≤ low + suc m) × (is_held (state_of j n s) ≡ true)
    go true e q more = (low + 1, omega arith, omega arith, e)
    go false e q more = let w = more q in (w.0, omega (arith, w.1), omega (arith, w.2), w.3)

-- of the serials up to low + m as many are held as lie above the released ones
pub held_count : (j : List ℕ) (n b m p r : ℕ) → Formed j n b → b - n + m + p ≡ b → length (held_after j n (b - n) (m + p)) + r ≡ b
    → length (held_after j n (b - n) m) ≡ b - n + m - r
held_count j n b m p r f e h =
    let x : ℕ = length (held_after j n (b - n) m) in
    let y : ℕ = length (held_after j n (b - n + m) p) in
    let xy : length (held_after j n (b - n) (m + p)) ≡ x + y =
    ap length (held_append j n (b - n) m p) ∙ length-append (held_after j n (b - n) m) (held_after j n (b - n + m) p) in
    let ly : y ≤ p = held_at_most j n (b - n + m) p in
    let lx : x ≤ m = held_at_most j n (b - n) m in
    go xy ly lx (dec_lt 0 x)
  where
    go : length (held_after j n (b - n) (m + p)) ≡ length (held_after j n (b - n) m) + length (held_after j n (b - n + m) p)
        → length (held_after j n (b - n + m) p) ≤ p → length (held_after j n (b - n) m) ≤ m → Dec (0 < length (held_after j n (b - n) m))
        → length (held_after j n (b - n) m) ≡ b - n + m - r
    go xy ly lx (yes q) =
        let w = held_some j n (b - n) m q in
        let all : length (held_after j n (b - n + m) p) ≡ p =
        held_all j n (b - n + m) p (λ t a c. held_up j n b w.0 t f w.1 (omega (arith, w.2)) (omega arith) w.3) in
        omega arith
    go xy ly lx (no q) = omega arith

-- ---- sums of lists

pub sum-append : (a b : List (List ℕ)) → sum_of (a ++ b) ≡ sum_of a + sum_of b
unfolding sum_of
sum-append [] b = omega arith
sum-append (r ∷ a) b = let ih = sum-append a b in omega arith
