-- A journal is well formed exactly when every slot is fine, for the newest serial that most records agree with.
use Prim.Native.Nat.{ℕ, ◌≤◌, ◌<◌, ◌+◌, ◌-◌, ◌*◌, ◌/◌, ◌%◌}
use mathlib.Core.Path.{◌≡◌, refl, sym, ap, ◌∙◌, subst, subst⁻¹}
use mathlib.Core.Bool.{Bool, true, false, cond, ◌&&◌}
use mathlib.Core.List.{List}
use native.Mathlib.Omega.{arith}
use native.Mathlib.Decide.{dec_lt}
use native.Mathlib.Nat.{mod-lt, div-add-mod, add-mul-mod_self_left, mod-eq_of_lt, le_antisymm}
use borrow.Author.Tests.{eqb-true, lt-ltb}
use lib.Dec.{eqb, ltb}
use lib.ListN.{length}
use Rattle.slots.specs.Record.{is_held, is_released, serial_at, state_at, Zeros, Good}
use Rattle.slots.specs.Journal.{slots_of, sized, place, state_of, Formed}
use Rattle.slots.proofs.Form.{is_sized}
use Rattle.slots.proofs.Ring.{kept_at}
use Rattle.slots.proofs.States.{not_both}
use Rattle.surveys.specs.Survey.{Belongs}
use Rattle.surveys.proofs.Surveys.{not_zero}
use Rattle.remains.specs.Slot.{told_at}
use Rattle.remains.specs.declared.Fields.{Fields}
use Rattle.remains.specs.declared.Slot.{Slot}
use Rattle.remains.specs.declared.Slot.TheVariants.{Free, Held, Released}
use Rattle.remains.proofs.Slots.{Stands, stands_free, stands_held, stands_released, stands_damaged, stands, zeros_told}
use Rattle.salvage.specs.Whole.{serial_in, held_in, agrees, votes, newest_of, oldest_of, due, free_verdict, held_verdict, released_verdict, verdict_of, verdict_at}
use Rattle.salvage.specs.declared.Verdict.{Verdict}
use Rattle.salvage.specs.declared.Verdict.TheVariants as verdict
use Rattle.salvage.proofs.Rule.{due-none, due_some, free_fine, held_fine, released_none, released_below}
use Rattle.salvage.proofs.Polls.{agrees_is, agrees-kept, votes_all, leader_among, leader_votes, leader_most, lowest_among, lowest_le}

-- ---- a slot of a record that belongs there tells its serial

serial_in_lem : (j : List ℕ) (k : ℕ) (s : Slot) → Stands j k s → Belongs j k → serial_in s ≡ serial_at j (32 * k)
serial_in_lem j k s (stands_free z) b = absurd (not_zero j k b z)
serial_in_lem j k s (stands_held a h q) b = q
serial_in_lem j k s (stands_released a h q) b = q
serial_in_lem j k s (stands_damaged z a) b = absurd (a b)

held_in_lem : (j : List ℕ) (k : ℕ) (s : Slot) → Stands j k s → Belongs j k → is_held (state_at j (32 * k)) ≡ true → held_in s ≡ serial_at j (32 * k)
held_in_lem j k s (stands_free z) b x = absurd (not_zero j k b z)
held_in_lem j k s (stands_held a h q) b x = q
held_in_lem j k s (stands_released a h q) b x = absurd (not_both (state_at j (32 * k)) x h)
held_in_lem j k s (stands_damaged z a) b x = absurd (a b)

-- ---- the serial that is due

pub due_is : (n b k s : ℕ) → 1 ≤ n → b - n < s → s ≤ b → (s - 1) % n ≡ k → due n b k ≡ s
due_is n b k s one l h e =
    let q : n * ((s - 1) / n) + (s - 1) % n ≡ s - 1 = div-add-mod (s - 1) n in
    let f : b - 1 - k ≡ b - s + n * ((s - 1) / n) = omega arith in
    let r : (b - 1 - k) % n ≡ b - s = ap (λ (x : ℕ). x % n) f ∙ add-mul-mod_self_left (b - s) n ((s - 1) / n) ∙ mod-eq_of_lt (omega arith) in
    sym (due_some n b k (omega (arith, q))) ∙ omega arith

-- ---- what is fine

fine_test : (t : Bool) (v : Verdict) → (v ≡ verdict.Fine → ⊥) → cond t verdict.Fine v ≡ verdict.Fine → t ≡ true
fine_test true v n e = refl
fine_test false v n e = absurd (n e)

fine_free : (d : ℕ) → free_verdict d ≡ verdict.Fine → d ≡ 0
fine_free d e = eqb-true d 0 (fine_test (eqb d 0) (verdict.Missing d) (λ q. let z : ◌≡◌ {A = ℕ} 0 1 = cc in omega arith) e)

fine_held : (s d : ℕ) → held_verdict s d ≡ verdict.Fine → s ≡ d
fine_held s d e = eqb-true s d (fine_test (eqb s d) (verdict.Disagrees s) (λ q. let z : ◌≡◌ {A = ℕ} 0 1 = cc in omega arith) e)

fine_released : (s d h : ℕ) → released_verdict s d h ≡ verdict.Fine → (s ≡ d) × (0 < h → d ≤ h)
fine_released s d h e = go (eqb s d) (ltb 0 h && ltb h d) refl refl e
  where
    go : (t u : Bool) → eqb s d ≡ t → (ltb 0 h && ltb h d) ≡ u
        → cond t (cond u (verdict.Above d h) verdict.Fine) (verdict.Disagrees s) ≡ verdict.Fine → (s ≡ d) × (0 < h → d ≤ h)
    go true true a b q = absurd (let z : ◌≡◌ {A = ℕ} 0 1 = cc in omega arith)
    go true false a b q = (eqb-true s d a, λ l. below l (dec_lt h d))
      where
        below : 0 < h → Dec (h < d) → d ≤ h
        below l (yes y) = absurd (let z : ◌≡◌ {A = ℕ} 0 1 = cc (lt-ltb 0 h l, lt-ltb h d y) in omega arith)
        below l (no y) = omega arith
    go false u a b q = absurd (let z : ◌≡◌ {A = ℕ} 0 1 = cc in omega arith)

-- ---- a journal whose slots are all fine

-- a slot that is fine has the record that is due, or is free where none is
record Kept (j : List ℕ) (k d h : ℕ) : Type 0 where
  belongs : Belongs j k
  serial : serial_at j (32 * k) ≡ d
  above : is_released (state_at j (32 * k)) ≡ true → 0 < h → d ≤ h

data Fine (j : List ℕ) (k d h : ℕ) : Slot → Type 0 where
  no_record : d ≡ 0 → Zeros j (32 * k) (32 * k + 32) → Fine j k d h Free
  held_record : {f : Fields} → Kept j k d h → f.serial ≡ d → Fine j k d h (Held f)
  released_record : {f : Fields} → Kept j k d h → Fine j k d h (Released f)

fine : (j : List ℕ) (k d h : ℕ) (s : Slot) → Stands j k s → verdict_of s d h ≡ verdict.Fine → Fine j k d h s
fine j k d h s (stands_free z) e = no_record (fine_free d e) z
fine j k d h s (stands_held {f = f} b x q) e =
    let w = fine_held f.serial d e in
    held_record (record { belongs = b; serial = sym q ∙ w; above = λ r. absurd (not_both (state_at j (32 * k)) x r) }) w
fine j k d h s (stands_released {f = f} b x q) e =
    let w = fine_released f.serial d h e in
    released_record (record { belongs = b; serial = sym q ∙ w.0; above = λ r. w.1 })
fine j k d h s (stands_damaged z b) e = absurd (let y : ◌≡◌ {A = ℕ} 0 1 = cc in omega arith)

module _ (j : List ℕ) (size : sized (length j) ≡ true) where
  there : (k : ℕ) → k < slots_of j → 32 * k + 32 ≤ length j
  there k h = let z = is_sized (length j) size in omega arith

  module _ (b : ℕ) (all : (k : ℕ) → k < slots_of j → verdict_at j b (oldest_of j b) k ≡ verdict.Fine) where
    fine_at : (k : ℕ) → k < slots_of j → Fine j k (due (slots_of j) b k) (oldest_of j b) (told_at j k)
    fine_at k l = fine j k (due (slots_of j) b k) (oldest_of j b) (told_at j k) (stands j k (there k l)) (all k l)

    slot_of : (s : ℕ) → (s - 1) % slots_of j < slots_of j
    slot_of s = let z = is_sized (length j) size in mod-lt (s - 1) (omega arith)

    -- the record of a serial that is due stands in its slot
    kept : (s : ℕ) → b - slots_of j < s → s ≤ b → Kept j ((s - 1) % slots_of j) s (oldest_of j b)
    kept s l h = go (told_at j ((s - 1) % slots_of j)) (fine_at ((s - 1) % slots_of j) (slot_of s))
      where
        is_due : due (slots_of j) b ((s - 1) % slots_of j) ≡ s
        is_due = let z = is_sized (length j) size in due_is (slots_of j) b ((s - 1) % slots_of j) s z.1 l h refl

        go : (t : Slot) → Fine j ((s - 1) % slots_of j) (due (slots_of j) b ((s - 1) % slots_of j)) (oldest_of j b) t
            → Kept j ((s - 1) % slots_of j) s (oldest_of j b)
        go t (no_record z y) = absurd (omega (arith, is_due))
        go t (held_record w y) = subst (λ (d : ℕ). Kept j ((s - 1) % slots_of j) d (oldest_of j b)) is_due w
        go t (released_record w) = subst (λ (d : ℕ). Kept j ((s - 1) % slots_of j) d (oldest_of j b)) is_due w

    -- a held record that is due is no lower than the oldest held one
    oldest_le : (s : ℕ) → b - slots_of j < s → s ≤ b → is_held (state_of j (slots_of j) s) ≡ true → (0 < oldest_of j b) × (oldest_of j b ≤ s)
    oldest_le s l h x =
        let k : ℕ = (s - 1) % slots_of j in
        let w = kept s l h in
        let e : held_in (told_at j k) ≡ s = held_in_lem j k (told_at j k) (stands j k (there k (slot_of s))) w.belongs x ∙ w.serial in
        let a = ap (agrees (slots_of j) b) e ∙ agrees-kept (slots_of j) b s l h in
        let o = lowest_le (λ (i : ℕ). held_in (told_at j i)) (slots_of j) b (slots_of j) k (slot_of s) a in
        (o.0, omega (arith, o.1, e))

    free_at : (k : ℕ) → k < slots_of j → b ≤ k → Zeros j (32 * k) (32 * k + 32)
    free_at k l h = go (told_at j k) (fine_at k l)
      where
        go : (t : Slot) → Fine j k (due (slots_of j) b k) (oldest_of j b) t → Zeros j (32 * k) (32 * k + 32)
        go t (no_record z y) = y
        go t (held_record w y) = absurd (omega (arith, w.serial, w.belongs.some, due-none (slots_of j) b k h))
        go t (released_record w) = absurd (omega (arith, w.serial, w.belongs.some, due-none (slots_of j) b k h))

    pub fine_formed : Formed j (slots_of j) b
    fine_formed =
        let z = is_sized (length j) size in
        record {
          size = z.0;
          least = z.1;
          most = z.2;
          stands = λ s l h. let w = kept s l h in subst (Good j (place (slots_of j) s)) w.serial w.belongs.good;
          rest = λ i l h. free_at (i / 32) (omega arith) (omega arith) i (omega arith) (omega arith);
          order = λ s t l h m q r x.
              let o = oldest_le t m q x in
              let a = (kept s l h).above r o.0 in
              apart s t r x (omega (arith, o.1, a)) (dec_lt s t);
        }
      where
        apart : (s t : ℕ) → is_released (state_of j (slots_of j) s) ≡ true → is_held (state_of j (slots_of j) t) ≡ true → s ≤ t → Dec (s < t) → s < t
        apart s t r x le (yes y) = y
        apart s t r x le (no y) =
            let e : s ≡ t = omega arith in
            absurd (not_both (state_of j (slots_of j) t) x (subst (λ (u : ℕ). is_released (state_of j (slots_of j) u) ≡ true) e r))

-- ---- a journal that is well formed

module _ (j : List ℕ) (b : ℕ) (form : Formed j (slots_of j) b) where
  told_in : (k : ℕ) → k < slots_of j → Stands j k (told_at j k)
  told_in k h = let e = form.size in stands j k (omega arith)

  -- the record of each serial that is kept stands in its slot
  record Stood (k s : ℕ) : Type 0 where
    serial : serial_at j (32 * k) ≡ s
    belongs : Belongs j k

  stood : (k s : ℕ) → b - slots_of j < s → s ≤ b → (s - 1) % slots_of j ≡ k → Stood k s
  stood k s l h e =
      let g : Good j (32 * k) s = subst (λ (m : ℕ). Good j (32 * m) s) e (form.stands s l h) in
      let q = g.serial in
      record {
        serial = q;
        belongs = record {
          some = omega arith;
          slot = ap (place (slots_of j)) q ∙ ap (λ (m : ℕ). 32 * m) e;
          good = subst⁻¹ (Good j (32 * k)) q g;
        };
      }

  -- so that a slot below b has the serial that is due, and the others are free
  due_in : (k : ℕ) → k < slots_of j → k < b → Stood k (due (slots_of j) b k) × (b - slots_of j < due (slots_of j) b k) × (due (slots_of j) b k ≤ b)
  due_in k l h =
      let w = kept_at (slots_of j) b k l h in
      let d = sym (due_is (slots_of j) b k w.0 form.least w.1 w.2 w.3) in
      subst (λ (s : ℕ). Stood k s × (b - slots_of j < s) × (s ≤ b)) d (stood k w.0 w.1 w.2 w.3, w.1, w.2)

  free_in : (k : ℕ) → k < slots_of j → b ≤ k → told_at j k ≡ Free
  free_in k l h = let e = form.size in zeros_told j k (told_at j k) (told_in k l) (λ i m q. form.rest i (omega arith) (omega arith))

  -- every whole record agrees with b
  serial_agrees : (k : ℕ) → k < slots_of j → 0 < serial_in (told_at j k) → agrees (slots_of j) b (serial_in (told_at j k)) ≡ true
  serial_agrees k l p = go (dec_lt k b)
    where
      go : Dec (k < b) → agrees (slots_of j) b (serial_in (told_at j k)) ≡ true
      go (yes h) =
          let w = due_in k l h in
          let e = serial_in_lem j k (told_at j k) (told_in k l) w.0.belongs ∙ w.0.serial in
          ap (agrees (slots_of j) b) e ∙ agrees-kept (slots_of j) b (due (slots_of j) b k) w.1 w.2
      go (no h) = let e : serial_in (told_at j k) ≡ 0 = ap (λ (s : Slot). serial_in s) (free_in k l (omega arith)) in absurd (omega arith)

  newest_le : newest_of j ≤ b
  newest_le = leader_among serial (slots_of j) (λ (s : ℕ). s ≤ b) (slots_of j) (omega arith) (λ k l. go k l (dec_lt 0 (serial k)))
    where
      serial : ℕ → ℕ
      serial k = serial_in (told_at j k)

      go : (k : ℕ) → k < slots_of j → Dec (0 < serial k) → serial k ≤ b
      go k l (yes h) = (agrees_is (slots_of j) b (serial k) (serial_agrees k l h)).1
      go k l (no h) = omega arith

  -- whoever most agree with, all agree with, and so does b
  le_newest : 0 < b → b ≤ newest_of j
  le_newest h =
      let serial : ℕ → ℕ = λ (k : ℕ). serial_in (told_at j k) in
      let n : ℕ = slots_of j in
      let one = form.least in
      let k : ℕ = (b - 1) % n in
      let l : k < n = mod-lt (b - 1) (omega arith) in
      let w = stood k b (omega arith) (omega arith) refl in
      let e : serial k ≡ b = serial_in_lem j k (told_at j k) (told_in k l) w.belongs ∙ w.serial in
      let most : votes serial n b n ≤ votes serial n (newest_of j) n =
      subst (λ (x : ℕ). votes serial n x n ≤ votes serial n (newest_of j) n) e (omega (arith, leader_most serial n n k l, leader_votes serial n n)) in
      let own = serial_agrees k l (omega arith) in
      let a = votes_all serial n b (newest_of j) n (λ i q x. serial_agrees i q (omega (arith, (agrees_is n (newest_of j) (serial i) x).0))) most k l own in
      omega (arith, e, (agrees_is n (newest_of j) (serial k) a).1)

  pub newest_is : newest_of j ≡ b
  newest_is = go (dec_lt 0 b)
    where
      go : Dec (0 < b) → newest_of j ≡ b
      go (yes h) = le_antisymm newest_le (le_newest h)
      go (no h) = let l = newest_le in omega arith

  -- the oldest held serial is that of a held record
  Oldest : ℕ → Type 0
  Oldest s = 0 < s → (b - slots_of j < s) × (s ≤ b) × (is_held (state_of j (slots_of j) s) ≡ true)

  oldest_held : Oldest (oldest_of j b)
  unfolding Oldest
  oldest_held =
      lowest_among (λ (k : ℕ). held_in (told_at j k)) (slots_of j) b Oldest (slots_of j) (λ h. absurd (omega arith))
      (λ k l a h. go k (told_at j k) (told_in k l) a h)
    where
      go : (k : ℕ) (s : Slot) → Stands j k s → agrees (slots_of j) b (held_in s) ≡ true → 0 < held_in s
          → (b - slots_of j < held_in s) × (held_in s ≤ b) × (is_held (state_of j (slots_of j) (held_in s)) ≡ true)
      go k s (stands_free z) a h = absurd (omega arith)
      go k s (stands_held {f = f} w x q) a h =
          let u = agrees_is (slots_of j) b f.serial a in
          (u.0, u.1, ap (λ (y : ℕ). is_held (state_at j y)) (ap (place (slots_of j)) q ∙ w.slot) ∙ x)
      go k s (stands_released w x q) a h = absurd (omega arith)
      go k s (stands_damaged z w) a h = absurd (omega arith)

  pub formed_fine : (k : ℕ) → k < slots_of j → verdict_at j b (oldest_of j b) k ≡ verdict.Fine
  unfolding Oldest
  formed_fine k l = go (dec_lt k b)
    where
      d : ℕ
      d = due (slots_of j) b k

      below : Stood k d → is_released (state_at j (32 * k)) ≡ true → b - slots_of j < d → d ≤ b → 0 < oldest_of j b → d ≤ oldest_of j b
      below w x low high h =
          let o = oldest_held h in
          let e : place (slots_of j) d ≡ 32 * k = sym (ap (place (slots_of j)) w.serial) ∙ w.belongs.slot in
          let r = form.order d (oldest_of j b) low high o.0 o.1 (ap (λ (y : ℕ). is_released (state_at j y)) e ∙ x) o.2 in
          omega arith

      of_released : (s : ℕ) → s ≡ d → (0 < oldest_of j b → d ≤ oldest_of j b) → Dec (0 < oldest_of j b) → released_verdict s d (oldest_of j b) ≡ verdict.Fine
      of_released s e u (yes h) = sym (released_below s d (oldest_of j b) e (λ z. omega arith) (u h))
      of_released s e u (no h) = sym (released_none s d (oldest_of j b) e (omega arith))

      told_fine : (s : Slot) → Stands j k s → Stood k d → b - slots_of j < d → d ≤ b → verdict_of s d (oldest_of j b) ≡ verdict.Fine
      told_fine s (stands_free z) w low high = absurd (not_zero j k w.belongs z)
      told_fine s (stands_held a x q) w low high = sym (held_fine _ d (q ∙ w.serial))
      told_fine s (stands_released {f = f} a x q) w low high = of_released f.serial (q ∙ w.serial) (below w x low high) (dec_lt 0 (oldest_of j b))
      told_fine s (stands_damaged z a) w low high = absurd (a w.belongs)

      go : Dec (k < b) → verdict_at j b (oldest_of j b) k ≡ verdict.Fine
      go (yes h) = let w = due_in k l h in told_fine (told_at j k) (told_in k l) w.0 w.1 w.2
      go (no h) =
          ap (λ (s : Slot). verdict_of s (due (slots_of j) b k) (oldest_of j b)) (free_in k l (omega arith))
          ∙ sym (free_fine (due (slots_of j) b k) (sym (due-none (slots_of j) b k (omega arith))))
