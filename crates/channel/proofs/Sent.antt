-- A record that the box sends is a held record, and the record of a booked payment.
use Prim.Native.Nat.{ℕ, zero, suc, ◌≤◌, ◌<◌, ◌+◌, ◌-◌}
use mathlib.Core.Path.{◌≡◌, refl, sym, ap, ◌∙◌, subst, subst⁻¹}
use mathlib.Core.Bool.{Bool, true, false, cond}
use mathlib.Core.List.Memᴰ
use mathlib.Core.List.{List, [], ◌∷◌, ◌++◌, map, append_assoc, Memᴰ as Among}
use mathlib.Core.Logic.{⊎_elim}
use native.Mathlib.Omega.{arith}
use lib.ListN.{length, get_or, take, drop, length-append, length-drop, take-append-drop}
use lib.Seq.{length-take-le, get_or-take, get_or-drop}
use Rattle.slots.specs.Record.{is_held, is_record, kept, length_fits, state_at, length_at, amount_at, serial_at, Good}
use Rattle.slots.specs.Journal.{slots_of, place, state_of, Formed}
use Rattle.slots.proofs.Ring.{place_in}
use Rattle.slots.proofs.Records.{good_same, serial_of_lem, amount_of_lem}
use Rattle.held.specs.Held.{record_at, held_after, held_list, low_of}
use Rattle.held.proofs.Laws.{record_serial}
use Rattle.history.specs.History.{Done, Payment, record_of, booked, highest, Demand3}
use Rattle.history.proofs.Account.{Smalls}
use Rattle.ledger.specs.Ledger.{HeldRecord}
use Rattle.channel.proofs.Lists.{Serials, serial_at_lem}

-- ---- the journal's held records are held records on their own

module _ (j : List ℕ) (n b : ℕ) (f : Formed j n b) where
  one_held : (s : ℕ) → b - n < s → s ≤ b → is_held (state_of j n s) ≡ true → HeldRecord (record_at j n s)
  unfolding record_at
  one_held s l h e =
      let r : List ℕ = record_at j n s in
      let byte : (i : ℕ) → i < 32 → get_or (record_at j n s) (0 + i) 0 ≡ get_or j (place n s + i) 0 =
      λ i k. get_or-take 32 (drop (place n s) j) (0 + i) 0 (omega arith) ∙ get_or-drop (place n s) j (0 + i) 0
      ∙ (let z : place n s + (0 + i) ≡ place n s + i = omega arith in ap (λ (x : ℕ). get_or j x 0) z) in
      let st : state_at (record_at j n s) 0 ≡ state_of j n s = byte 15 (omega arith) in
      let serial : serial_at (record_at j n s) 0 ≡ s = record_serial j n b s f l h in
      let g : Good j (place n s) s = f.stands s l h in
      record {
        size = length-take-le 32 (drop (place n s) j) (omega (arith, length-drop (place n s) j, place_in n s f.least, f.size));
        some = omega arith;
        good = subst⁻¹ (Good (record_at j n s) 0) serial
            (good_same j (record_at j n s) (place n s) 0 s (λ i k x y. byte i k) (ap is_record st ∙ g.state) (ap kept st)
            (ap (λ (x : ℕ). length_fits x (length_at j (place n s))) st) g);
        held = ap is_held st ∙ e;
      }

  among_held : (low m : ℕ) (r : List ℕ) → b - n ≤ low → low + m ≤ b → Among r (held_after j n low m) → HeldRecord r
  unfolding held_after
  among_held low zero r l h a = absurd (Memᴰ.not-nil a)
  among_held low (suc m) r l h a =
      go (is_held (state_of j n (low + 1))) refl a (λ (q : Among r (held_after j n (low + 1) m)). among_held (low + 1) m r (omega arith) (omega arith) q)
    where
      go : (t : Bool) → is_held (state_of j n (low + 1)) ≡ t
          → Among r (cond t (record_at j n (low + 1) ∷ held_after j n (low + 1) m) (held_after j n (low + 1) m))
          → (Among r (held_after j n (low + 1) m) → HeldRecord r) → HeldRecord r
      go true e a more = ⊎_elim (λ q. subst⁻¹ HeldRecord q (one_held (low + 1) (omega arith) (omega arith) e)) more (Memᴰ.cases_cons a)
      go false e a more = more a

pub held_record : (j : List ℕ) (b : ℕ) (r : List ℕ) → Formed j (slots_of j) b → Among r (held_list j b) → HeldRecord r
held_record j b r f a = among_held j (slots_of j) b f (low_of j b) (b - low_of j b) r (omega arith) (omega arith) a

-- ---- which payment's record it is

small_at : (before : List Payment) (p : Payment) (later : List Payment) → Smalls (before ++ (p ∷ later)) → p.amount < 4294967296
small_at [] p later s = s.0
small_at (q ∷ before) p later s = small_at before p later s.1

-- the payment whose record r is, in its place among the payments
pub record Place (ps : List Payment) (r : List ℕ) : Type 0 where
  pub before : List Payment
  pub payment : Payment
  pub later : List Payment
  pub split : ps ≡ before ++ (payment ∷ later)
  pub is : r ≡ record_of payment

place_among : (r : List ℕ) (ps : List Payment) → Among r (map record_of ps) → Place ps r
place_among r [] a = absurd (Memᴰ.not-nil a)
place_among r (p ∷ ps) a =
    ⊎_elim
    (λ e. record { before = []; payment = p; later = ps; split = refl; is = e })
    (λ m. let w = place_among r ps m in
    record { before = p ∷ w.before; payment = w.payment; later = w.later; split = ap (λ (l : List Payment). p ∷ l) w.split; is = w.is })
    (Memᴰ.cases_cons a)

-- a record that was sent: held, of the payment in the place that its serial says, with its amount
pub record Sent (ps : List Payment) (r : List ℕ) : Type 0 where
  pub held : HeldRecord r
  pub place : Place ps r
  pub serial : serial_at r 0 ≡ length place.before + 1
  pub amount : amount_at r 0 ≡ place.payment.amount
  pub small : place.payment.amount < 4294967296

-- payments booked later change nothing of that
pub sent_still : (ps qs : List Payment) (r : List ℕ) → Sent ps r → Sent (ps ++ qs) r
sent_still ps qs r s =
    let p : Place ps r = s.place in
    record {
      held = s.held;
      place = record {
        before = p.before;
        payment = p.payment;
        later = p.later ++ qs;
        split = ap (λ (l : List Payment). l ++ qs) p.split ∙ append_assoc p.before (p.payment ∷ p.later) qs;
        is = p.is;
      };
      serial = s.serial;
      amount = s.amount;
      small = s.small;
    }

-- the held records of a journal that the calls ds led to
pub sent_now : (ds : List Done) (j r : List ℕ) → Demand3 ds j → Smalls (booked ds) → length (booked ds) < 4294967296
    → Among r (held_list j (length (booked ds))) → Sent (booked ds) r
sent_now ds j r d small fits a =
    let ps : List Payment = booked ds in
    let w : Place (drop (highest ds) ps) r = place_among r (drop (highest ds) ps) (subst (Among r) d.held a) in
    let p : Payment = w.payment in
    let front : List Payment = take (highest ds) ps ++ w.before in
    let split : ps ≡ front ++ (p ∷ w.later) =
    sym (take-append-drop (highest ds) ps) ∙ ap (λ (l : List Payment). take (highest ds) ps ++ l) w.split
    ∙ sym (append_assoc (take (highest ds) ps) w.before (p ∷ w.later)) in
    let serial : p.serial ≡ 0 + length front + 1 = serial_at_lem 0 front p w.later (subst (Serials 0) split d.serials) in
    let amount : p.amount < 4294967296 = small_at front p w.later (subst Smalls split small) in
    let long : length ps ≡ length front + length (p ∷ w.later) = ap length split ∙ length-append front (p ∷ w.later) in
    record {
      held = held_record j (length ps) r d.formed a;
      place = record { before = front; payment = p; later = w.later; split = split; is = w.is };
      serial = ap (λ (x : List ℕ). serial_at x 0) w.is ∙ serial_of_lem p.serial p.clock p.amount p.label p.pan (omega arith) ∙ omega arith;
      amount = ap (λ (x : List ℕ). amount_at x 0) w.is ∙ amount_of_lem p.serial p.clock p.amount p.label p.pan amount;
      small = amount;
    }
