-- The paper's sentences on the host's ledger, and that its promise determines the outcome.
use Prim.Native.Nat.{ℕ, ◌<◌, ◌+◌}
use mathlib.Core.Path.{◌≡◌, refl, sym, ap, ◌∙◌, subst, subst⁻¹}
use mathlib.Core.Bool.{Bool, true, false, cond}
use mathlib.Core.List.{List}
use native.Mathlib.Omega.{arith}
use lib.ListN.{get_or, length}
use Rattle.text.specs.Bytes.{within}
use Rattle.text.proofs.Tests.{under, over}
use Rattle.reasons.specs.Reasons.{gives, demand}
use Rattle.reasons.specs.declared.Reason.{Reason}
use Rattle.reasons.proofs.Laws.{said_one, passed}
use Rattle.reasons.specs.declared.Reason.TheVariants.{WrongLayout}
use Rattle.slots.specs.Record.{is_held, is_record, length_fits, kept, serial_at, amount_at, length_at, state_at, Good}
use Rattle.slots.specs.Journal.{Tells}
use Rattle.slots.proofs.Ranges.{tells_yes, tells_no}
use Rattle.slots.proofs.Records.{u32_in, good_same}
use Rattle.ledger.specs.Ledger.{HeldRecord, sound, opened, is_next, wants, moved, take_rule, Takes}
use Rattle.ledger.specs.declared.Ledger.{Ledger}
use Rattle.std.proofs.Common.{Result, Ok, Err}
use Rattle.ledger.proofs.Rule.{sound_is, is_sound, next-none, is_next_lem, foreign, unmoved, moves_on}

-- ---- any two outcomes that a call allows are equal

pub fresh_one : (r q : Ledger) → r ≡ opened → q ≡ opened → r ≡ q
fresh_one r q a b = a ∙ sym b

-- a question has one answer
tells_one : {P : Type 0} (t u : Bool) → Tells t P → Tells u P → t ≡ u
tells_one true true a b = refl
tells_one true false a b = absurd (b.1 refl (a.0 refl))
tells_one false true a b = absurd (a.1 refl (b.0 refl))
tells_one false false a b = refl

pub take_one : (l : Ledger) (message : List ℕ) (r q : Result Ledger Reason) → Takes l message r → Takes l message q → r ≡ q
take_one l message r q a b =
    said_one r q (a.says ∙ ap (λ (t : Bool). take_rule t l message) (tells_one a.held b.held a.tells b.tells) ∙ sym b.says)

-- ---- what a message does

-- what it did where it isn't refused: "It takes a record whose serial is the wanted one, adds its amount and moves on; other records change nothing"
pub data Did (l : Ledger) (message : List ℕ) (k : Ledger) : Type 0 where
  took : wants l message ≡ true → serial_at message 0 ≡ l.taken + 1 → k ≡ moved l message → Did l message k
  left_alone : wants l message ≡ false → k ≡ l → Did l message k

-- and what it was: a held record
pub record Heard (l : Ledger) (message : List ℕ) (k : Ledger) : Type 0 where
  pub record_held : HeldRecord message
  pub fine : sound l.taken l.total ≡ true
  pub is : cond (wants l message) (moved l message) l ≡ k
  pub did : Did l message k

pub heard : (l : Ledger) (message : List ℕ) (k : Ledger) → Takes l message (Ok k) → Heard l message k
unfolding take_rule
heard l message k w =
    let a = passed w.held 6 _ k (sym w.says) in
    let b = passed (sound l.taken l.total) 6 _ k a.1 in
    let e : cond (wants l message) (moved l message) l ≡ k = cc b.1 in
    record { record_held = w.tells.0 a.0; fine = b.0; is = e; did = go (wants l message) refl e }
  where
    go : (t : Bool) → wants l message ≡ t → cond t (moved l message) l ≡ k → Did l message k
    go true q e = took q (is_next_lem l.taken (serial_at message 0) q).1 (sym e)
    go false q e = left_alone q (sym e)

-- "A message that isn't a held record by the journal's rules is refused with 6 and changes nothing"
pub not_held_refused : (l : Ledger) (message : List ℕ) (r : Result Ledger Reason) → (HeldRecord message → ⊥) → Takes l message r → r ≡ Err WrongLayout
not_held_refused l message r h w = take_one l message r (Err WrongLayout) w (foreign l message false (tells_no h) refl)

-- a held record is not refused by a ledger that messages led to
pub held_taken : (l : Ledger) (message : List ℕ) (r : Result Ledger Reason) → HeldRecord message → sound l.taken l.total ≡ true → Takes l message r
    → r ≡ Ok (cond (wants l message) (moved l message) l)
held_taken l message r h fine w = take_one l message r _ w (by (wants l message) refl)
  where
    by : (t : Bool) → wants l message ≡ t → Takes l message (Ok (cond t (moved l message) l))
    by true q = moves_on l message true (tells_yes h) refl fine (l.taken + 1) (amount_at message 0) (sym (is_next_lem l.taken (serial_at message 0) q).1) refl q
    by false q = unmoved l message true (tells_yes h) refl fine q

-- "After the last serial it wants nothing and takes nothing more"
pub last_takes_nothing : (l : Ledger) (message : List ℕ) (k : Ledger) → l.taken ≡ 4294967295 → Takes l message (Ok k) → k ≡ l
last_takes_nothing l message k h w =
    sym (heard l message k w).is ∙ ap (λ (t : Bool). cond t (moved l message) l) (next-none l.taken (serial_at message 0) (omega arith))

-- ---- the ledgers that messages lead to are sound: no sum overflows

pub opened-sound : sound opened.taken opened.total ≡ true
opened-sound = is_sound 0 0 (omega arith) (omega arith)

pub stays_sound : (l : Ledger) (message : List ℕ) (k : Ledger) → amount_at message 0 < 4294967296 → Takes l message (Ok k) → sound k.taken k.total ≡ true
stays_sound l message k small w = go (heard l message k w).did
  where
    go : Did l message k → sound k.taken k.total ≡ true
    go (left_alone q e) = subst⁻¹ (λ (x : Ledger). sound x.taken x.total ≡ true) e (heard l message k w).fine
    go (took q s e) =
        let h = sound_is l.taken l.total (heard l message k w).fine in
        let some = (heard l message k w).record_held.good.amount in
        subst⁻¹ (λ (x : Ledger). sound x.taken x.total ≡ true) e
        (is_sound (l.taken + 1) (l.total + amount_at message 0) (omega (arith, h.0)) (omega (arith, h.1)))

-- ---- clocks

-- two messages that are the same but for a record's clock field have one answer
module _ (m q : List ℕ) (size : length m ≡ length q) (same : (i : ℕ) → i < 32 → within 4 7 i ≡ false → get_or m i 0 ≡ get_or q i 0) where
  same_serial : serial_at m 0 ≡ serial_at q 0
  same_serial = u32_in m q 0 0 0 (λ x l. same (0 + (0 + x)) (omega arith) (under 4 7 (0 + (0 + x)) (omega arith)))

  same_amount : amount_at m 0 ≡ amount_at q 0
  same_amount = u32_in m q 0 0 8 (λ x l. same (0 + (8 + x)) (omega arith) (over 4 7 (0 + (8 + x)) (omega arith)))

  clock_held : HeldRecord m → HeldRecord q
  clock_held h =
      let state : state_at q 0 ≡ state_at m 0 = sym (same 15 (omega arith) refl) in
      let byte : (i : ℕ) → i < 32 → within 4 7 i ≡ false → get_or q (0 + i) 0 ≡ get_or m (0 + i) 0 =
      λ i k c. let z : 0 + i ≡ i = omega arith in subst⁻¹ (λ (x : ℕ). get_or q x 0 ≡ get_or m x 0) z (sym (same i k c)) in
      record {
        size = sym size ∙ h.size;
        some = omega (arith, same_serial, h.some);
        good = subst (Good q 0) same_serial
            (good_same m q 0 0 (serial_at m 0) (λ i k x c. byte i k c) (ap is_record state ∙ h.good.state) (ap kept state)
            (ap (λ (x : ℕ). length_fits x (length_at m 0)) state) h.good);
        held = ap is_held state ∙ h.held;
      }

  pub clock_wants : (l : Ledger) → wants l m ≡ wants l q
  clock_wants l = ap (is_next l.taken) same_serial

  clock_rule : (held : Bool) (l : Ledger) → take_rule held l m ≡ take_rule held l q
  unfolding take_rule
  clock_rule held l = λ i.
      demand held 6
      (demand (sound l.taken l.total) 6
      (gives (cond (clock_wants l i) (record { taken = l.taken + 1; total = l.total + same_amount i }) l)))

-- so a message's clock decides nothing
pub clock_take : (m q : List ℕ) → length m ≡ length q → ((i : ℕ) → i < 32 → within 4 7 i ≡ false → get_or m i 0 ≡ get_or q i 0)
    → (l : Ledger) (r : Result Ledger Reason) → Takes l m r → Takes l q r
clock_take m q size same l r w = record {
  held = w.held;
  tells = (
    (λ e. clock_held m q size same (w.tells.0 e)),
    λ e h. w.tells.1 e (clock_held q m (sym size) (λ i k c. sym (same i k c)) h),
  );
  says = w.says ∙ clock_rule m q size same w.held l;
}
