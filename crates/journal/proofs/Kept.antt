-- Booking and releasing keep a journal well formed.
use Prim.Native.Nat.{ℕ, ◌≤◌, ◌<◌, ◌+◌, ◌-◌, ◌*◌, ◌%◌}
use mathlib.Core.Path.{◌≡◌, sym, ap, ◌∙◌, subst⁻¹}
use mathlib.Core.Bool.{Bool, true, ◌||◌, or-true}
use mathlib.Core.List.{List}
use native.Mathlib.Omega.{arith}
use native.Mathlib.Decide.{dec_le}
use native.Mathlib.Nat.{mod-eq_of_lt}
use lib.ListN.{length, get_or}
use Rattle.text.specs.Numbers.{put}
use Rattle.text.proofs.Put.{put_in, put_after}
use Rattle.slots.specs.Record.{is_held, is_released, length_fits, kept, length_at, Good, record32}
use Rattle.slots.specs.Journal.{place, state_of, Formed}
use Rattle.slots.proofs.Ranges.{differ}
use Rattle.slots.proofs.States.{not_both}
use Rattle.slots.proofs.Records.{record_held, record_long, good_same, good_new}
use Rattle.journal.specs.Rules.{freed_after}
use Rattle.journal.proofs.Rule.{Fine}
use Rattle.journal.proofs.Lists.{fits, after_length, after_kept, after_state}
use Rattle.journal.proofs.Freed.{all_length, all_other, all_here, above_same, freed_byte, freed_byte_lem, freed_state_lem, freed_keeps, freed_fits}

-- ---- booking

-- the journal after booking, newest serial b + 1
pub book_formed : (j : List ℕ) (n b clock amount label : ℕ) (pan : List ℕ) → Formed j n b → Fine pan → 0 < amount → amount < 4294967296 → b < 4294967295
    → Formed (put j (place n (b + 1)) (record32 (b + 1) clock amount label pan)) n (b + 1)
book_formed j n b clock amount label pan f p a c l =
    record {
      size = after_length j n b clock amount label pan f p.count ∙ f.size;
      least = f.least;
      most = f.most;
      stands = λ s x y. stands_one s x y (dec_le s b);
      rest = λ i x y. rest_one i x y;
      order = λ s t x y z w r h. order_one s t x y z w r h (dec_le s b) (dec_le t b);
    }
  where
    k : List ℕ
    k = put j (place n (b + 1)) (record32 (b + 1) clock amount label pan)

    old : (s i : ℕ) → b + 1 - n < s → s ≤ b → i < 32 → get_or (put j (place n (b + 1)) (record32 (b + 1) clock amount label pan)) (place n s + i) 0 ≡ get_or j (place n s + i) 0
    old = after_kept j n b clock amount label pan f p.count

    new : (i : ℕ) → i < 32 → get_or (put j (place n (b + 1)) (record32 (b + 1) clock amount label pan)) (place n (b + 1) + i) 0 ≡ get_or (record32 (b + 1) clock amount label pan) i 0
    new i h = put_in j (record32 (b + 1) clock amount label pan) (place n (b + 1)) (fits j n b clock amount label pan f p.count) i (omega (arith, record_long (b + 1) clock amount label pan p.count))

    stands_one : (s : ℕ) → b + 1 - n < s → s ≤ b + 1 → Dec (s ≤ b) → Good (put j (place n (b + 1)) (record32 (b + 1) clock amount label pan)) (place n s) s
    stands_one s x y (yes q) =
        let g : Good j (place n s) s = f.stands s (omega arith) q in
        let o : state_of (put j (place n (b + 1)) (record32 (b + 1) clock amount label pan)) n s ≡ state_of j n s = old s 15 x q (omega arith) in
        good_same j (put j (place n (b + 1)) (record32 (b + 1) clock amount label pan)) (place n s) (place n s) s (λ i h _ _. old s i x q h)
        (ap (λ (v : ℕ). is_held v || is_released v) o ∙ g.state) (ap kept o) (ap (λ (v : ℕ). length_fits v (length_at j (place n s))) o) g
    stands_one s x y (no q) =
        let e : s ≡ b + 1 = omega arith in
        let g : Good (record32 (b + 1) clock amount label pan) 0 (b + 1) = good_new (b + 1) clock amount label pan p.count p.digits (omega arith) a c in
        let st = after_state j n b clock amount label pan f p.count in
        subst⁻¹ (λ (m : ℕ). Good (put j (place n (b + 1)) (record32 (b + 1) clock amount label pan)) (place n m) m) e
        (good_same (record32 (b + 1) clock amount label pan) (put j (place n (b + 1)) (record32 (b + 1) clock amount label pan)) 0 (place n (b + 1)) (b + 1)
        (λ i h _ _. let z : i ≡ 0 + i = omega arith in new i h ∙ ap (λ (m : ℕ). get_or (record32 (b + 1) clock amount label pan) m 0) z)
        (ap (λ (v : ℕ). is_held v || is_released v) st ∙ g.state) (ap kept st) (ap (λ (v : ℕ). length_fits v (length_at (record32 (b + 1) clock amount label pan) 0)) st) g)

    rest_one : (i : ℕ) → 32 * (b + 1) ≤ i → i < length (put j (place n (b + 1)) (record32 (b + 1) clock amount label pan)) → get_or (put j (place n (b + 1)) (record32 (b + 1) clock amount label pan)) i 0 ≡ 0
    rest_one i x y =
        let z = f.size in
        let al = after_length j n b clock amount label pan f p.count in
        let u : b + 1 - 1 ≡ b = omega arith in
        let v : (b + 1 - 1) % n ≡ b = ap (λ (m : ℕ). m % n) u ∙ mod-eq_of_lt (omega arith) in
        put_after j (record32 (b + 1) clock amount label pan) (place n (b + 1)) (fits j n b clock amount label pan f p.count) i (omega (arith, record_long (b + 1) clock amount label pan p.count))
        ∙ f.rest i (omega arith) (omega arith)

    order_one : (s t : ℕ) → b + 1 - n < s → s ≤ b + 1 → b + 1 - n < t → t ≤ b + 1
        → is_released (state_of (put j (place n (b + 1)) (record32 (b + 1) clock amount label pan)) n s) ≡ true
        → is_held (state_of (put j (place n (b + 1)) (record32 (b + 1) clock amount label pan)) n t) ≡ true → Dec (s ≤ b) → Dec (t ≤ b) → s < t
    order_one s t x y z w r h (yes q) (yes u) =
        f.order s t (omega arith) q (omega arith) u (sym (ap is_released (old s 15 x q (omega arith))) ∙ r) (sym (ap is_held (old t 15 z u (omega arith))) ∙ h)
    order_one s t x y z w r h (yes q) (no u) = omega arith
    order_one s t x y z w r h (no q) d =
        let e : s ≡ b + 1 = omega arith in
        let st : is_held (state_of (put j (place n (b + 1)) (record32 (b + 1) clock amount label pan)) n (b + 1)) ≡ true =
        ap is_held (after_state j n b clock amount label pan f p.count) ∙ record_held (b + 1) clock amount label pan in
        absurd (not_both (state_of (put j (place n (b + 1)) (record32 (b + 1) clock amount label pan)) n s)
        (subst⁻¹ (λ (m : ℕ). is_held (state_of (put j (place n (b + 1)) (record32 (b + 1) clock amount label pan)) n m) ≡ true) e st) r)

-- ---- releasing

-- the journal after the release of m serials from the oldest kept on
pub release_formed : (j : List ℕ) (n b m : ℕ) → Formed j n b → b - n + m ≤ b → Formed (freed_after j n (b - n) m) n b
release_formed j n b m f h =
    record {
      size = all_length j n (b - n) m ∙ f.size;
      least = f.least;
      most = f.most;
      stands = λ s x y. stands_one s x y (dec_le s (b - n + m));
      rest = λ i x y. rest_one i x y;
      order = λ s t x y z w r k. order_one s t x y z w r k (dec_le s (b - n + m)) (dec_le t (b - n + m));
    }
  where
    -- a byte that is no state byte
    plain : (s i : ℕ) → b - n < s → s ≤ b → i < 32 → (i ≡ 15 → ⊥) → get_or (freed_after j n (b - n) m) (place n s + i) 0 ≡ get_or j (place n s + i) 0
    plain s i x y l ne = all_other j n (b - n) m (place n s + i) (λ t u v e. ne (omega arith))

    up : (s : ℕ) → s ≤ b → b - n + m < s → state_of (freed_after j n (b - n) m) n s ≡ state_of j n s
    up s y q = above_same j n (b - n) m (b - (b - n + m)) f.least f.size (omega arith) s 15 q (omega arith) (omega arith)

    down : (s : ℕ) → b - n < s → s ≤ b - n + m → state_of (freed_after j n (b - n) m) n s ≡ freed_byte (state_of j n s)
    down s x q = all_here j n (b - n) m s f.least f.size (omega arith) x q

    stands_one : (s : ℕ) → b - n < s → s ≤ b → Dec (s ≤ b - n + m) → Good (freed_after j n (b - n) m) (place n s) s
    stands_one s x y (yes q) =
        let g : Good j (place n s) s = f.stands s x y in
        let o : state_of (freed_after j n (b - n) m) n s ≡ freed_byte (state_of j n s) = down s x q in
        good_same j (freed_after j n (b - n) m) (place n s) (place n s) s (λ i l ne _. plain s i x y l ne)
        (ap (λ (v : ℕ). is_held v || is_released v) o
        ∙ ap (λ (t : Bool). is_held (freed_byte (state_of j n s)) || t) (freed_state_lem (state_of j n s) g.state) ∙ or-true (is_held (freed_byte (state_of j n s))))
        (ap kept o ∙ freed_keeps (state_of j n s)) (ap (λ (v : ℕ). length_fits v (length_at j (place n s))) o ∙ freed_fits (state_of j n s) (length_at j (place n s))) g
    stands_one s x y (no q) =
        let g : Good j (place n s) s = f.stands s x y in
        let o : state_of (freed_after j n (b - n) m) n s ≡ state_of j n s = up s y (omega arith) in
        good_same j (freed_after j n (b - n) m) (place n s) (place n s) s (λ i l ne _. plain s i x y l ne)
        (ap (λ (v : ℕ). is_held v || is_released v) o ∙ g.state) (ap kept o) (ap (λ (v : ℕ). length_fits v (length_at j (place n s))) o) g

    rest_one : (i : ℕ) → 32 * b ≤ i → i < length (freed_after j n (b - n) m) → get_or (freed_after j n (b - n) m) i 0 ≡ 0
    rest_one i x y =
        let z = f.size in
        let al = all_length j n (b - n) m in
        all_other j n (b - n) m i (λ t u v e.
        let lt : t - 1 < n = omega arith in
        let w : (t - 1) % n ≡ t - 1 = mod-eq_of_lt lt in
        omega arith)
        ∙ f.rest i x (omega arith)

    order_one : (s t : ℕ) → b - n < s → s ≤ b → b - n < t → t ≤ b → is_released (state_of (freed_after j n (b - n) m) n s) ≡ true
        → is_held (state_of (freed_after j n (b - n) m) n t) ≡ true → Dec (s ≤ b - n + m) → Dec (t ≤ b - n + m) → s < t
    order_one s t x y z w r k d (yes u) =
        absurd (differ (is_held (state_of (freed_after j n (b - n) m) n t)) (ap is_held (down t z u) ∙ freed_byte_lem (state_of j n t)) k)
    order_one s t x y z w r k (yes q) (no u) = omega arith
    order_one s t x y z w r k (no q) (no u) =
        f.order s t x y z w (sym (ap is_released (up s y (omega arith))) ∙ r) (sym (ap is_held (up t w (omega arith))) ∙ k)
