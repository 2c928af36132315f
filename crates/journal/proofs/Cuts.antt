-- A power cut while a call's changed bytes are copied, in the order of its writes, to memory that outlives the power: after any number of them.
use Rattle.std.proofs.Common.{Option, Some, None}
use Prim.Native.Nat.{ℕ, zero, suc, ◌≤◌, ◌<◌, ◌+◌, ◌-◌, ◌*◌, ◌/◌, ◌%◌}
use mathlib.Core.Path.{◌≡◌, refl, sym, ap, ◌∙◌, subst, subst⁻¹}
use mathlib.Core.Bool.{Bool, true, false, cond}
use mathlib.Core.List.{List, [], ◌∷◌}
use native.Mathlib.Omega.{arith}
use native.Mathlib.Decide.{dec_lt, ℕ_discrete}
use native.Mathlib.Nat.{mod-lt, mod-le, le_antisymm}
use lib.ListN.{length, get_or, set, take}
use Rattle.text.specs.Numbers.{put, u32_at}
use Rattle.text.proofs.Put.{part_same}
use Rattle.reasons.specs.Reasons.{Outcome, gives, refuses, after}
use Rattle.reasons.proofs.Laws.{gives_refuses, passed}
use Rattle.text.specs.Bytes.{within}
use Rattle.text.proofs.Tests.{under, inside_is}
use Rattle.slots.specs.Record.{is_held, freed_state, state_at, record32}
use Rattle.slots.specs.Journal.{slots_of, place, state_of, Formed, NewestIs}
use Rattle.slots.specs.Views.{newest}
use Rattle.slots.specs.Writes.{Write, wrote, writes_from, record_writes}
use Rattle.slots.proofs.Ranges.{differ}
use Rattle.slots.proofs.Ring.{kept_at, place_in}
use Rattle.slots.proofs.Form.{serial_le}
use Rattle.slots.proofs.Records.{record_long, u32_in}
use Rattle.slots.proofs.Writes.{wrote-length, first_writes, outside, state_last, wrote_put}
use Rattle.held.specs.Held.{low_of, record_at, held_after, held_list}
use Rattle.journal.specs.declared.Released.{Released}
use Rattle.journal.specs.Rules.{held_slots, book_rule, book_bytes, book_writes, release_rule, release_bytes, release_writes, freed_at, freed_after, free_writes}
use Rattle.journal.proofs.Rule.{same_after, new_after, release_none, release_done, release_bad, book_bad}
use Rattle.journal.proofs.Full.{next_full}
use Rattle.held.proofs.Lists.{held_up, held_none}
use Rattle.journal.proofs.Freed.{freed_other, apart}
use Rattle.journal.proofs.Calls.{booking_of}

-- ---- two well-formed journals whose held slots are the same have the same held payments

-- the held slots of k are those of j, each with the bytes that it has there
pub record SameHeld (j k : List ℕ) (n : ℕ) : Type 0 where
  pub states : (x : ℕ) → x < n → is_held (state_at k (32 * x)) ≡ is_held (state_at j (32 * x))
  pub bytes : (x i : ℕ) → x < n → is_held (state_at j (32 * x)) ≡ true → i < 32 → get_or k (32 * x + i) 0 ≡ get_or j (32 * x + i) 0

turned : (j k : List ℕ) (n : ℕ) → SameHeld j k n → SameHeld k j n
turned j k n w = record {
  states = λ x l. sym (w.states x l);
  bytes = λ x i l h m. sym (w.bytes x i l (sym (w.states x l) ∙ h) m);
}

-- where the newest serial of j is held, it is kept in k too, and so k's newest is held
top_held : (j k : List ℕ) (n b c : ℕ) → SameHeld j k n → Formed j n b → Formed k n c → 0 < b → is_held (state_of j n b) ≡ true
    → (b ≤ c) × (is_held (state_of k n c) ≡ true)
top_held j k n b c w f g pos h =
    let l = f.least in
    let x : ℕ = (b - 1) % n in
    let lt : x < n = mod-lt (b - 1) (omega arith) in
    let z : 32 * x + 0 ≡ 32 * x = omega arith in
    let e : u32_at k (32 * x + 0) ≡ u32_at j (32 * x + 0) = u32_in k j (32 * x) (32 * x) 0 (λ y m. w.bytes x (0 + y) lt h (omega arith)) in
    let s : u32_at k (32 * x) ≡ b = subst (λ (y : ℕ). u32_at k y ≡ u32_at j y) z e ∙ (f.stands b (omega arith) (omega arith)).serial in
    let up : b ≤ c = omega (arith, serial_le k n c g x lt, s) in
    let small : x < c = omega (arith, mod-le (b - 1) n) in
    (up, held_up k n c b c g (kept s (kept_at n c x lt small)) up (omega arith) (w.states x lt ∙ h))
  where
    kept : u32_at k (32 * ((b - 1) % n)) ≡ b → (s : ℕ) × (c - n < s) × (s ≤ c) × ((s - 1) % n ≡ (b - 1) % n) → c - n < b
    kept s v =
        let q : u32_at k (32 * ((b - 1) % n)) ≡ v.0 = subst (λ (m : ℕ). u32_at k (32 * m) ≡ v.0) v.3 (g.stands v.0 v.1 v.2).serial in
        omega (arith, q, s, v.1)

-- where it is not held, nothing is
none_held : (j : List ℕ) (n b : ℕ) → Formed j n b → (0 < b → is_held (state_of j n b) ≡ false) → held_after j n (b - n) (b - (b - n)) ≡ []
none_held j n b f h = held_none j n (b - n) (b - (b - n)) (λ s l m. go s l (omega arith) (is_held (state_of j n s)) refl)
  where
    go : (s : ℕ) → b - n < s → s ≤ b → (t : Bool) → is_held (state_of j n s) ≡ t → is_held (state_of j n s) ≡ false
    go s l m false e = e
    go s l m true e = absurd (differ (is_held (state_of j n b)) (h (omega arith)) (held_up j n b s b f l m (omega arith) e))

-- the list is told by the held records alone
held_alike : (j k : List ℕ) (n low m : ℕ) → 1 ≤ n → length k ≡ length j → SameHeld j k n → held_after k n low m ≡ held_after j n low m
unfolding held_after record_at
held_alike j k n low zero p e w = refl
held_alike j k n low (suc m) p e w = go (is_held (state_of j n (low + 1))) refl (held_alike j k n (low + 1) m p e w)
  where
    x : ℕ
    x = (low + 1 - 1) % n

    lt : (low + 1 - 1) % n < n
    lt = mod-lt (low + 1 - 1) (omega arith)

    go : (t : Bool) → is_held (state_of j n (low + 1)) ≡ t → held_after k n (low + 1) m ≡ held_after j n (low + 1) m
        → cond (is_held (state_of k n (low + 1))) (record_at k n (low + 1) ∷ held_after k n (low + 1) m) (held_after k n (low + 1) m)
        ≡ cond (is_held (state_of j n (low + 1))) (record_at j n (low + 1) ∷ held_after j n (low + 1) m) (held_after j n (low + 1) m)
    go false h ih =
        let q : is_held (state_of k n (low + 1)) ≡ false = w.states ((low + 1 - 1) % n) lt ∙ h in
        simp (q, h) ih
    go true h ih =
        let q : is_held (state_of k n (low + 1)) ≡ true = w.states ((low + 1 - 1) % n) lt ∙ h in
        let r : record_at k n (low + 1) ≡ record_at j n (low + 1) = part_same j k (place n (low + 1)) 32 e (λ i l. w.bytes ((low + 1 - 1) % n) i lt h l) in
        simp (q, h) (λ i. r i ∷ ih i)

pub same_held : (j k : List ℕ) (n b c : ℕ) → SameHeld j k n → Formed j n b → Formed k n c
    → held_after k n (c - n) (c - (c - n)) ≡ held_after j n (b - n) (b - (b - n))
same_held j k n b c w f g = go (dec_lt 0 b) (is_held (state_of j n b)) refl
  where
    el : length k ≡ length j
    el = g.size ∙ sym f.size

    nothing : (0 < b → is_held (state_of j n b) ≡ false) → held_after k n (c - n) (c - (c - n)) ≡ held_after j n (b - n) (b - (b - n))
    nothing h = none_held k n c g (λ pos. other pos (is_held (state_of k n c)) refl) ∙ sym (none_held j n b f h)
      where
        other : 0 < c → (t : Bool) → is_held (state_of k n c) ≡ t → is_held (state_of k n c) ≡ false
        other pos false e = e
        other pos true e =
            let v = top_held k j n c b (turned j k n w) g f pos e in
            absurd (differ (is_held (state_of j n b)) (h (omega (arith, v.0))) v.1)

    go : Dec (0 < b) → (t : Bool) → is_held (state_of j n b) ≡ t → held_after k n (c - n) (c - (c - n)) ≡ held_after j n (b - n) (b - (b - n))
    go (no q) t e = nothing (λ pos. absurd (q pos))
    go (yes q) false e = nothing (λ pos. e)
    go (yes q) true e =
        let u = top_held j k n b c w f g q e in
        let v = top_held k j n c b (turned j k n w) g f (omega (arith, u.0)) u.1 in
        let eb : c ≡ b = le_antisymm v.0 u.0 in
        held_alike j k n (c - n) (c - (c - n)) f.least el w ∙ ap (λ (x : ℕ). held_after j n (x - n) (x - (x - n))) eb

-- ---- a booking cut short

take_none : (k : ℕ) → take {A = Write} k [] ≡ []
take_none zero = refl
take_none (suc k) = refl

-- the slot of the next serial is not held: what is written there, but for the state byte, touches no held record
slot_cut : (j r : List ℕ) (n b k : ℕ) → Formed j n b → held_slots j n ≡ false → k < 32 → SameHeld j (wrote j (take k (record_writes r (place n (b + 1))))) n
slot_cut j r n b k f room h =
    subst⁻¹ (λ (ws : List Write). SameHeld j (wrote j ws) n) (first_writes r (place n (b + 1)) 0 k 32 (omega arith))
    (record {
      states = λ x l. ap is_held (state x (ℕ_discrete x (b % n)));
      bytes = λ x i l e m. outside r (place n (b + 1)) j k (32 * x + i) (omega arith) (λ a c. other x e (omega (arith, here)));
    })
  where
    here : (b + 1 - 1) % n ≡ b % n
    here = let q : b + 1 - 1 ≡ b = omega arith in ap (λ (m : ℕ). m % n) q

    state : (x : ℕ) → Dec (x ≡ b % n) → state_at (wrote j (writes_from r (place n (b + 1)) 0 k)) (32 * x) ≡ state_at j (32 * x)
    state x (yes e) =
        let q : 32 * x + 15 ≡ place n (b + 1) + 15 = omega (arith, here) in
        subst⁻¹ (λ (y : ℕ). get_or (wrote j (writes_from r (place n (b + 1)) 0 k)) y 0 ≡ get_or j y 0) q (state_last r (place n (b + 1)) j k h)
    state x (no e) = outside r (place n (b + 1)) j k (32 * x + 15) (omega arith) (λ a c. e (omega (arith, here)))

    other : (x : ℕ) → is_held (state_at j (32 * x)) ≡ true → x ≡ b % n → ⊥
    other x e q = differ (is_held (state_at j (32 * (b % n)))) (next_full j n b f ∙ room) (subst (λ (y : ℕ). is_held (state_at j (32 * y)) ≡ true) q e)

untouched : (j : List ℕ) (n : ℕ) → SameHeld j j n
untouched j n = record { states = λ x l. refl; bytes = λ x i l h m. refl }

module _ (j pan : List ℕ) (label amount clock : ℕ) (m : Option ℕ) (is : NewestIs j m) where
  cut_of : (k : ℕ) (o : Outcome ℕ) → o ≡ book_rule m j pan label amount → k < 32
      → SameHeld j (wrote j (take k (after o [] (λ s. record_writes (record32 s clock amount label pan) (place (slots_of j) s))))) (slots_of j)
  unfolding wrote
  cut_of k (refuses x) e h = subst⁻¹ (λ (ws : List Write). SameHeld j (wrote j ws) (slots_of j)) (take_none k) (untouched j (slots_of j))
  cut_of k (gives s) e h = granted m is e
    where
      granted : (m : Option ℕ) → NewestIs j m → gives s ≡ book_rule m j pan label amount
          → SameHeld j (wrote j (take k (record_writes (record32 s clock amount label pan) (place (slots_of j) s)))) (slots_of j)
      granted None i q = gives_refuses s 16 (q ∙ sym (book_bad j pan label amount))
      granted (Some b) f q =
          let g = booking_of j pan label amount b s q in
          subst⁻¹ (λ (x : ℕ). SameHeld j (wrote j (take k (record_writes (record32 s clock amount label pan) (place (slots_of j) x)))) (slots_of j)) g.serial
          (slot_cut j (record32 s clock amount label pan) (slots_of j) b k f g.room h)

  -- "never a held record of mixed contents": a booking cut short of its last write leaves every held slot as it was, and holds no other
  pub book_cut : (k : ℕ) → k < 32 → SameHeld j (wrote j (take k (book_writes m j pan label amount clock))) (slots_of j)
  unfolding book_writes
  book_cut k h = cut_of k (book_rule m j pan label amount) refl h

  -- the writes, all of them, are what the booking leaves
  wrote_all : (o : Outcome ℕ) → o ≡ book_rule m j pan label amount
      → wrote j (after o [] (λ s. record_writes (record32 s clock amount label pan) (place (slots_of j) s))) ≡ after o j (λ s. put j (place (slots_of j) s) (record32 s clock amount label pan))
  unfolding wrote
  wrote_all (refuses x) e = refl
  wrote_all (gives s) e = granted m is e
    where
      granted : (m : Option ℕ) → NewestIs j m → gives s ≡ book_rule m j pan label amount
          → wrote j (record_writes (record32 s clock amount label pan) (place (slots_of j) s)) ≡ put j (place (slots_of j) s) (record32 s clock amount label pan)
      granted None i q = gives_refuses s 16 (q ∙ sym (book_bad j pan label amount))
      granted (Some b) f q =
          let g = booking_of j pan label amount b s q in
          wrote_put (record32 s clock amount label pan) (place (slots_of j) s) j (record_long s clock amount label pan g.pan_fine.count)
          (omega (arith, f.size, place_in (slots_of j) s f.least))

  pub book_writes_lem : wrote j (book_writes m j pan label amount clock) ≡ book_bytes m j pan label amount clock
  unfolding book_writes book_bytes
  book_writes_lem = wrote_all (book_rule m j pan label amount) refl

-- "leaves a malformed journal or the held payments as they were"
pub book_cut_held : (j pan : List ℕ) (label amount clock b c k : ℕ) → NewestIs j (Some b) → k < 32
    → NewestIs (wrote j (take k (book_writes (Some b) j pan label amount clock))) (Some c)
    → held_list (wrote j (take k (book_writes (Some b) j pan label amount clock))) c ≡ held_list j b
book_cut_held j pan label amount clock b c k f h g =
    let v : List ℕ = wrote j (take k (book_writes (Some b) j pan label amount clock)) in
    let en : slots_of v ≡ slots_of j = ap (λ (x : ℕ). x / 32) (wrote-length j (take k (book_writes (Some b) j pan label amount clock))) in
    ap (λ (n : ℕ). held_after v n (c - n) (c - (c - n))) en
    ∙ same_held j v (slots_of j) b c (book_cut j pan label amount clock (Some b) f k h) f (subst (λ (n : ℕ). Formed v n c) en g)

-- ---- a release cut short

-- the first writes of a release are the writes of a release of fewer serials
first_frees : (j : List ℕ) (n low m k : ℕ) → (p : ℕ) × (p ≤ m) × (take k (free_writes j n low m) ≡ free_writes j n low p)
unfolding free_writes
first_frees j n low zero k = (0, omega arith, take_none k)
first_frees j n low (suc m) zero = (0, omega arith, refl)
first_frees j n low (suc m) (suc k) = go (is_held (state_of j n (low + 1))) refl (first_frees j n (low + 1) m k) (first_frees j n (low + 1) m (suc k))
  where
    w : Write
    w = record { place = place n (low + 1) + 15; byte = freed_state (state_of j n (low + 1)) }

    go : (t : Bool) → is_held (state_of j n (low + 1)) ≡ t
        → (p : ℕ) × (p ≤ m) × (take k (free_writes j n (low + 1) m) ≡ free_writes j n (low + 1) p)
        → (p : ℕ) × (p ≤ m) × (take (suc k) (free_writes j n (low + 1) m) ≡ free_writes j n (low + 1) p)
        → (p : ℕ) × (p ≤ suc m) × (take (suc k) (cond (is_held (state_of j n (low + 1))) (record { place = place n (low + 1) + 15; byte = freed_state (state_of j n (low + 1)) } ∷ free_writes j n (low + 1) m) (free_writes j n (low + 1) m)) ≡ free_writes j n low p)
    go true e a b = (
      suc a.0,
      omega (arith, a.1),
      ap (λ (t : Bool). take (suc k) (cond t (record { place = place n (low + 1) + 15; byte = freed_state (state_of j n (low + 1)) } ∷ free_writes j n (low + 1) m) (free_writes j n (low + 1) m))) e
          ∙ ap (λ (ws : List Write). record { place = place n (low + 1) + 15; byte = freed_state (state_of j n (low + 1)) } ∷ ws) a.2
          ∙ sym (ap (λ (t : Bool). cond t (record { place = place n (low + 1) + 15; byte = freed_state (state_of j n (low + 1)) } ∷ free_writes j n (low + 1) a.0) (free_writes j n (low + 1) a.0)) e),
    )
    go false e a b = (
      suc b.0,
      omega (arith, b.1),
      ap (λ (t : Bool). take (suc k) (cond t (record { place = place n (low + 1) + 15; byte = freed_state (state_of j n (low + 1)) } ∷ free_writes j n (low + 1) m) (free_writes j n (low + 1) m))) e
          ∙ b.2
          ∙ sym (ap (λ (t : Bool). cond t (record { place = place n (low + 1) + 15; byte = freed_state (state_of j n (low + 1)) } ∷ free_writes j n (low + 1) b.0) (free_writes j n (low + 1) b.0)) e),
    )

-- the writes are told by the states of their own records
frees_same : (j k : List ℕ) (n low m : ℕ) → ((s : ℕ) → low < s → s ≤ low + m → state_of k n s ≡ state_of j n s) → free_writes k n low m ≡ free_writes j n low m
unfolding free_writes
frees_same j k n low zero h = refl
frees_same j k n low (suc m) h =
    let ih : free_writes k n (low + 1) m ≡ free_writes j n (low + 1) m = frees_same j k n (low + 1) m (λ s a b. h s (omega arith) (omega arith)) in
    let e : state_of k n (low + 1) ≡ state_of j n (low + 1) = h (low + 1) (omega arith) (omega arith) in
    λ i. cond (is_held (e i)) (record { place = place n (low + 1) + 15; byte = freed_state (e i) } ∷ ih i) (ih i)

-- the first write is the first release
freed_first : (j : List ℕ) (n low : ℕ) (ws : List Write)
    → wrote j (cond (is_held (state_of j n (low + 1))) (record { place = place n (low + 1) + 15; byte = freed_state (state_of j n (low + 1)) } ∷ ws) ws)
    ≡ wrote (freed_at j (place n (low + 1))) ws
unfolding wrote freed_at
freed_first j n low ws = go (is_held (state_of j n (low + 1)))
  where
    go : (t : Bool) → wrote j (cond t (record { place = place n (low + 1) + 15; byte = freed_state (state_of j n (low + 1)) } ∷ ws) ws)
        ≡ wrote (cond t (set j (place n (low + 1) + 15) (freed_state (state_of j n (low + 1)))) j) ws
    go true = refl
    go false = refl

-- the writes of a release, all of them, are what it leaves
free_writes_lem : (j : List ℕ) (n low m : ℕ) → m ≤ n → wrote j (free_writes j n low m) ≡ freed_after j n low m
unfolding freed_after free_writes wrote
free_writes_lem j n low zero h = refl
free_writes_lem j n low (suc m) h =
    freed_first j n low (free_writes j n (low + 1) m)
    ∙ ap (wrote (freed_at j (place n (low + 1)))) (sym (frees_same j (freed_at j (place n (low + 1))) n (low + 1) m same))
    ∙ free_writes_lem (freed_at j (place n (low + 1))) n (low + 1) m (omega arith)
  where
    same : (s : ℕ) → low + 1 < s → s ≤ low + 1 + m → state_of (freed_at j (place n (low + 1))) n s ≡ state_of j n s
    same s a b = freed_other j (place n (low + 1)) (place n s + 15) (apart n s (low + 1) 15 (omega arith) (omega arith) (λ q. omega arith) (omega arith) (omega arith) (omega arith))

freed_none : (j : List ℕ) (n low : ℕ) → freed_after j n low 0 ≡ j
unfolding freed_after
freed_none j n low = refl

-- a release that is not refused is of a serial that is there
release_there : (j : List ℕ) (b s : ℕ) (v : Released) → gives v ≡ release_rule (Some b) j s → s ≤ b
unfolding release_rule
release_there j b s v e = (inside_is 1 b s (passed (within 1 b s) 20 _ v (sym e)).0).1

-- the release of serial 0 is refused
release_zero : (m : Option ℕ) (j : List ℕ) → j ≡ release_bytes m j 0
unfolding release_bytes
release_zero None j = same_after j (λ _. freed_after j (slots_of j) (low_of j 0) (0 - low_of j 0)) (release_bad j 0)
release_zero (Some b) j = same_after j (λ _. freed_after j (slots_of j) (low_of j b) (0 - low_of j b)) (release_none j b 0 (under 1 b 0 (omega arith)))

-- the release of p serials, in a journal that keeps those after low, is the release of one of them
fewer : (j : List ℕ) (b s p : ℕ) → s ≤ b → p ≤ s - low_of j b → (t : ℕ) × (t ≤ s) × (wrote j (free_writes j (slots_of j) (low_of j b) p) ≡ release_bytes (Some b) j t)
unfolding release_bytes
fewer j b s zero h l = (0, omega arith, free_writes_lem j (slots_of j) (low_of j b) 0 (omega arith) ∙ freed_none j (slots_of j) (low_of j b) ∙ release_zero (Some b) j)
fewer j b s (suc p) h l =
    let t : ℕ = low_of j b + suc p in
    let q : suc p ≡ t - low_of j b = omega arith in (
      t,
      omega arith,
      free_writes_lem j (slots_of j) (low_of j b) (suc p) (omega arith) ∙ ap (freed_after j (slots_of j) (low_of j b)) q
          ∙ new_after j (λ _. freed_after j (slots_of j) (low_of j b) (t - low_of j b)) (release_done j b t (omega arith) (omega arith)),
    )

module _ (m : Option ℕ) (j : List ℕ) (s k : ℕ) where
  cut_of_release : (o : Outcome Released) → o ≡ release_rule m j s
      → (t : ℕ) × (t ≤ s) × (wrote j (take k (after o [] (λ _. free_writes j (slots_of j) (low_of j (newest m)) (s - low_of j (newest m))))) ≡ release_bytes m j t)
  unfolding wrote
  cut_of_release (refuses x) e = (0, omega arith, ap (wrote j) (take_none k) ∙ release_zero m j)
  cut_of_release (gives v) e = granted m e
    where
      granted : (m : Option ℕ) → gives v ≡ release_rule m j s
          → (t : ℕ) × (t ≤ s) × (wrote j (take k (free_writes j (slots_of j) (low_of j (newest m)) (s - low_of j (newest m)))) ≡ release_bytes m j t)
      granted None q = gives_refuses v 16 (q ∙ sym (release_bad j s))
      granted (Some b) q =
          let w = first_frees j (slots_of j) (low_of j b) (s - low_of j b) k in
          let x = fewer j b s w.0 (release_there j b s v q) w.1 in
          (x.0, x.1, ap (wrote j) w.2 ∙ x.2)

  -- "a release cut short is the release of a lower serial"
  pub release_cut : (t : ℕ) × (t ≤ s) × (wrote j (take k (release_writes m j s)) ≡ release_bytes m j t)
  unfolding release_writes
  release_cut = cut_of_release (release_rule m j s) refl

-- the writes, all of them, are what the release leaves
pub release_writes_lem : (m : Option ℕ) (j : List ℕ) (s : ℕ) → NewestIs j m → wrote j (release_writes m j s) ≡ release_bytes m j s
unfolding release_writes release_bytes wrote
release_writes_lem m j s is = go m is (release_rule m j s) refl
  where
    go : (m : Option ℕ) → NewestIs j m → (o : Outcome Released) → o ≡ release_rule m j s
        → wrote j (after o [] (λ _. free_writes j (slots_of j) (low_of j (newest m)) (s - low_of j (newest m)))) ≡ after o j (λ _. freed_after j (slots_of j) (low_of j (newest m)) (s - low_of j (newest m)))
    go m i (refuses x) e = refl
    go None i (gives v) e = gives_refuses v 16 (e ∙ sym (release_bad j s))
    go (Some b) f (gives v) e = let h = release_there j b s v e in free_writes_lem j (slots_of j) (low_of j b) (s - low_of j b) (omega arith)
