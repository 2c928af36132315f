-- What every event keeps.
use Prim.Native.Nat.{ℕ, ◌≤◌, ◌+◌, ◌*◌}
use mathlib.Core.Path.{◌≡◌, refl, sym, ap, ◌∙◌, subst, subst⁻¹}
use mathlib.Core.Bool.{Bool, true, false, cond}
use mathlib.Core.List.Memᴰ
use mathlib.Core.List.{List, [], ◌∷◌, ◌++◌, map, append-nil, Memᴰ as Among}
use mathlib.Core.Logic.{⊎_elim}
use native.Mathlib.Omega.{arith}
use lib.ListN.{length, take, replicate, length-append}
use lib.Seq.{take-append-le}
use Rattle.reasons.specs.Reasons.{Outcome, gives, refuses}
use Rattle.slots.specs.Record.{amount_at}
use Rattle.slots.specs.Journal.{slots_of, NewestIs}
use Rattle.slots.proofs.Form.{formed_one}
use Rattle.held.specs.Held.{held_list}
use Rattle.journal.specs.declared.Released.{Released}
use Rattle.payer.specs.Payer.{Payer, card_rule}
use Rattle.swipe.specs.declared.Receipt.{Receipt}
use Rattle.history.specs.History.{Call, book, swipe, release, reads, aside, AnswerTo, Done, Does, Run, no_more, next, Payment, record_of}
use Rattle.history.specs.History.{effect, effect_of, serial_in, of_booking, of_swipe, of_release, booked, highest, takings, freed_count, freed_sum, Demand3}
use Rattle.history.proofs.Account.{Account, account, map-append}
use Rattle.history.proofs.Demand.{zeros_open}
use Rattle.history.proofs.Laws.{demand_3}
use Rattle.history.proofs.Runs.{run_append, booked-append, highest-append}
use Rattle.ledger.specs.Ledger.{HeldRecord, sound, wants, Takes}
use Rattle.ledger.specs.declared.Ledger.{Ledger}
use Rattle.reasons.specs.declared.Reason.{Reason}
use Rattle.std.proofs.Common.{Some, Result, Ok, Err}
use Rattle.ledger.proofs.Laws.{Did, took, left_alone, heard, not_held_refused, opened-sound, stays_sound}
use Rattle.channel.specs.Channel.{World, start, leaving, sending, answering, Act, Own, made}
use Rattle.channel.specs.Channel.{Event, box_calls, box_sends, host_hears, host_hears_noise, box_hears, Course, nothing_yet, and_then}
use Rattle.channel.proofs.Lists.{nth_among, take_next, takings_more}
use Rattle.channel.proofs.Sent.{Place, Sent, sent_still, sent_now}

-- the last answer is the last serial taken, and where there was none nothing was taken
pub data LastAnswer (taken : ℕ) : List ℕ → Type 0 where
  none_yet : taken ≡ 0 → LastAnswer taken []
  the_last : {s : ℕ} {older : List ℕ} → s ≡ taken → LastAnswer taken (s ∷ older)

-- the calls ds from the journal j on, and the world w
pub record Kept (j : List ℕ) (ds : List Done) (w : World) : Type 0 where
  pub run : Run j ds w.journal
  pub sent : (r : List ℕ) → Among r w.records → Sent (booked ds) r
  pub reach : w.ledger.taken ≤ length (booked ds)
  pub total : w.ledger.total ≡ takings (take w.ledger.taken (booked ds))
  pub as_booked : w.took ≡ map record_of (take w.ledger.taken (booked ds))
  pub fine : sound w.ledger.taken w.ledger.total ≡ true
  -- no answer lies above the last serial taken
  pub told : (s : ℕ) → Among s w.answers → s ≤ w.ledger.taken
  pub last : LastAnswer w.ledger.taken w.answers
  pub past : highest ds ≤ w.ledger.taken

-- ---- calls

-- only a release has a serial to release up to
own_serial : (clock : ℕ) (c : Call) (a : AnswerTo c) → Own c → serial_in (effect clock c a) ≡ 0
own_serial clock (book pan label amount) a o = by a
  where
    by : (r : Result ℕ Reason) → serial_in (of_booking r clock amount label pan) ≡ 0
    by (Ok s) = refl
    by (Err x) = refl
own_serial clock (swipe card amount scratch) a o = by a.says (card_rule card)
  where
    by : (r : Result Receipt Reason) (p : Outcome Payer) → serial_in (of_swipe r p clock amount) ≡ 0
    by (Ok y) (gives p) = refl
    by (Ok y) (refuses x) = refl
    by (Err x) (gives p) = refl
    by (Err x) (refuses z) = refl
own_serial clock (release s) a o = absurd o
own_serial clock (reads q) a o = refl
own_serial clock aside a o = refl

release_serial : (r : Result Released Reason) (s : ℕ) → serial_in (of_release r s) ≤ s
release_serial (Ok y) s = omega arith
release_serial (Err x) s = omega arith

pub one_highest : (d : Done) → highest (d ∷ []) ≡ serial_in (effect_of d)
unfolding highest
one_highest d = omega arith

-- one call more, which releases nothing that the host hasn't taken
call_kept : (j : List ℕ) (ds : List Done) (w : World) (d : Done) → Kept j ds w → Does w.journal d.clock d.call d.answer d.after
    → serial_in (effect_of d) ≤ w.ledger.taken → Kept j (ds ++ (d ∷ [])) (leaving w d.after)
call_kept j ds w d k does h =
    let more : booked (ds ++ (d ∷ [])) ≡ booked ds ++ booked (d ∷ []) = booked-append ds (d ∷ []) in
    let up = highest-append ds (d ∷ []) in
    let one = one_highest d in
    let reach = k.reach in
    let past = k.past in
    let same : take w.ledger.taken (booked ds) ≡ take w.ledger.taken (booked (ds ++ (d ∷ []))) =
    sym (take-append-le w.ledger.taken (booked ds) (booked (d ∷ [])) reach) ∙ ap (take w.ledger.taken) (sym more) in
    record {
      run = run_append k.run (next d does no_more);
      sent = λ r a. subst⁻¹ (λ (ps : List Payment). Sent ps r) more (sent_still (booked ds) (booked (d ∷ [])) r (k.sent r a));
      reach = omega (arith, ap length more, length-append (booked ds) (booked (d ∷ [])));
      total = k.total ∙ ap takings same;
      as_booked = k.as_booked ∙ ap (map record_of) same;
      fine = k.fine;
      told = k.told;
      last = k.last;
      past = omega arith;
    }

-- ---- messages

module _ (j : List ℕ) (ds : List Done) (w : World) (k : Kept j ds w) where
  -- the host took a message so
  hears_kept : (message : List ℕ) (l : Ledger) → Among message w.records → Takes w.ledger message (Ok l) → Kept j ds (answering w message (Ok l))
  hears_kept message l a t = go (heard w.ledger message l t).did
    where
      s : Sent (booked ds) message
      s = k.sent message a

      -- what the ledger has come to
      so : w.ledger.taken ≤ l.taken → l.taken ≤ length (booked ds) → l.total ≡ takings (take l.taken (booked ds))
          → (answering w message (Ok l)).took ≡ map record_of (take l.taken (booked ds)) → Kept j ds (answering w message (Ok l))
      so up reach total as_booked = record {
        run = k.run;
        sent = k.sent;
        reach = reach;
        total = total;
        as_booked = as_booked;
        fine = stays_sound w.ledger message l (omega (arith, s.amount, s.small)) t;
        told = λ x b. ⊎_elim (λ (e : x ≡ l.taken). omega arith) (λ m. omega (arith, k.told x m)) (Memᴰ.cases_cons b);
        last = the_last refl;
        past = omega (arith, k.past);
      }

      -- the records that it took, where it wants the message or not
      took_so : (b : Bool) → wants w.ledger message ≡ b → (answering w message (Ok l)).took ≡ cond b (w.took ++ (message ∷ [])) w.took
      took_so b e = ap (λ (x : Bool). cond x (w.took ++ (message ∷ [])) w.took) e

      go : Did w.ledger message l → Kept j ds (answering w message (Ok l))
      go (left_alone q e) =
          let x : l.taken ≡ w.ledger.taken = ap (λ (m : Ledger). m.taken) e in
          let y : l.total ≡ w.ledger.total = ap (λ (m : Ledger). m.total) e in
          so (omega arith) (omega (arith, k.reach)) (y ∙ k.total ∙ ap (λ (t : ℕ). takings (take t (booked ds))) (sym x))
          (took_so false q ∙ k.as_booked ∙ ap (λ (t : ℕ). map record_of (take t (booked ds))) (sym x))
      go (took q serial e) =
          let p : Place (booked ds) message = s.place in
          let x : l.taken ≡ w.ledger.taken + 1 = ap (λ (m : Ledger). m.taken) e in
          let y : l.total ≡ w.ledger.total + amount_at message 0 = ap (λ (m : Ledger). m.total) e in
          let n : length p.before ≡ w.ledger.taken = omega (arith, s.serial) in
          let long : length (booked ds) ≡ length p.before + length (p.payment ∷ p.later) =
          ap length p.split ∙ length-append p.before (p.payment ∷ p.later) in
          let grown : take l.taken (booked ds) ≡ take w.ledger.taken (booked ds) ++ (p.payment ∷ []) =
          ap (λ (t : ℕ). take t (booked ds)) x
          ∙ subst⁻¹ (λ (ps : List Payment). take (w.ledger.taken + 1) ps ≡ take w.ledger.taken ps ++ (p.payment ∷ [])) p.split
          (take_next p.before p.payment p.later w.ledger.taken n) in
          so (omega arith) (omega arith)
          (y ∙ (λ i. k.total i + s.amount i) ∙ sym (takings_more (take w.ledger.taken (booked ds)) p.payment) ∙ ap takings (sym grown))
          (took_so true q ∙ (λ i. k.as_booked i ++ (p.is i ∷ [])) ∙ sym (map-append record_of (take w.ledger.taken (booked ds)) (p.payment ∷ []))
          ∙ ap (map record_of) (sym grown))

  -- a refusal changes nothing
  taken_kept : (message : List ℕ) (r : Result Ledger Reason) → Among message w.records → Takes w.ledger message r → Kept j ds (answering w message r)
  taken_kept message (Ok l) a t = hears_kept message l a t
  taken_kept message (Err x) a t = k

  noise_kept : (message : List ℕ) (r : Result Ledger Reason) → (HeldRecord message → ⊥) → Takes w.ledger message r → Kept j ds (answering w message r)
  noise_kept message r h t = subst⁻¹ (λ (q : Result Ledger Reason). Kept j ds (answering w message q)) (not_held_refused w.ledger message r h t) k

-- ---- any course of events, from an empty journal of n slots and a fresh ledger

module _ (n : ℕ) (least : 1 ≤ n) (most : n ≤ 2048) where
  -- a record is sent
  sends_kept : (ds : List Done) (w : World) (b : ℕ) (r : List ℕ) → Kept (replicate (32 * n) 0) ds w → NewestIs w.journal (Some b)
      → Among r (held_list w.journal b) → Kept (replicate (32 * n) 0) ds (sending w r)
  sends_kept ds w b r k f a =
      let d : Demand3 ds w.journal = demand_3 n least most ds w.journal k.run in
      let c : Account (replicate (32 * n) 0) 0 0 (booked ds) (highest ds) (freed_count ds) (freed_sum ds) w.journal =
      account 0 0 (zeros_open n least most) k.run in
      let e : b ≡ length (booked ds) = formed_one w.journal (slots_of w.journal) b (length (booked ds)) f d.formed in
      let new : Sent (booked ds) r =
      sent_now ds w.journal r d c.small (omega (arith, c.fits)) (subst (λ (x : ℕ). Among r (held_list w.journal x)) e a) in
      record {
        run = k.run;
        sent = λ q m. ⊎_elim (λ z. subst⁻¹ (Sent (booked ds)) z new) (k.sent q) (Memᴰ.cases_cons m);
        reach = k.reach;
        total = k.total;
        as_booked = k.as_booked;
        fine = k.fine;
        told = k.told;
        last = k.last;
        past = k.past;
      }

  -- the calls that the box makes at an event, none here
  still : (ds : List Done) (w : World) → Kept (replicate (32 * n) 0) ds w → Kept (replicate (32 * n) 0) (ds ++ []) w
  still ds w k = subst⁻¹ (λ (l : List Done). Kept (replicate (32 * n) 0) l w) (append-nil ds) k

  event_kept : (a : Act) (ds es : List Done) (w x : World) → Kept (replicate (32 * n) 0) ds w → Event w a es x → Kept (replicate (32 * n) 0) (ds ++ es) x
  event_kept a ds es w x k (box_calls {c = c} {k = l} clock b o does) =
      call_kept (replicate (32 * n) 0) ds w (made clock c b l) k does (omega (arith, own_serial clock c b o))
  event_kept a ds es w x k (box_sends {r = r} b f m) = still ds (sending w r) (sends_kept ds w b r k f (nth_among m))
  event_kept a ds es w x k (host_hears {message = m} r i t) = still ds (answering w m r) (taken_kept (replicate (32 * n) 0) ds w k m r (nth_among i) t)
  event_kept a ds es w x k (host_hears_noise {message = m} r h t) = still ds (answering w m r) (noise_kept (replicate (32 * n) 0) ds w k m r h t)
  event_kept a ds es w x k (box_hears {s = s} {k = l} clock r i does) =
      call_kept (replicate (32 * n) 0) ds w (made clock (release s) r l) k does (omega (arith, release_serial r s, k.told s (nth_among i)))

  pub course_kept : {acts : List Act} {ds : List Done} {w : World} → Course (start n) acts ds w → Kept (replicate (32 * n) 0) ds w
  unfolding booked highest takings
  course_kept nothing_yet = record {
    run = no_more;
    sent = λ r a. absurd (Memᴰ.not-nil a);
    reach = omega arith;
    total = refl;
    as_booked = refl;
    fine = opened-sound;
    told = λ s a. absurd (Memᴰ.not-nil a);
    last = none_yet refl;
    past = omega arith;
  }
  course_kept (and_then c e) = event_kept _ _ _ _ _ (course_kept c) e
