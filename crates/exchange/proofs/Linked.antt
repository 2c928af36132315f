-- What a script makes happen is a course of events between box and host: every message in the air was sent or isn't a held record, and every answer
-- that arrives was given.
use Rattle.std.proofs.Common.{Option, Some, None}
use Prim.Native.Nat.{ℕ, zero, suc, ◌≤◌, ◌<◌, ◌+◌, ◌-◌, ◌*◌, ◌/◌}
use mathlib.Core.Path.{◌≡◌, refl, sym, ap, ◌∙◌, subst, subst⁻¹}
use mathlib.Core.Bool.{Bool, true, false, cond, ◌||◌}
use mathlib.Core.List.{List, [], ◌∷◌, ◌++◌, append_assoc, Memᴰ as Among}
use mathlib.Core.Logic.{◌⊎◌, inl, inr, ⊎_elim}
use native.Mathlib.Omega.{arith}
use native.Mathlib.Decide.{ℕ_discrete, dec_lt}
use lib.Dec.{eqb, leb, ltb}
use lib.ListN.{length, get_or, take, drop, length-drop}
use lib.Seq.{length-take-le, take_at, drop_at}
use borrow.Author.Tests.{eq-eqb, ne_eqb, eqb-true, leb-true, ltb-true, le-leb}
use Rattle.text.specs.Numbers.{put}
use Rattle.text.specs.Bytes.{within}
use Rattle.text.proofs.Tests.{inside_is, both_true}
use Rattle.text.proofs.Put.{part_same, put_before, put_after, length_put}
use Rattle.reasons.specs.Reasons.{Outcome, gives, refuses, after}
use Rattle.reasons.proofs.Laws.{passed}
use Rattle.slots.specs.Record.{is_held}
use Rattle.slots.specs.Journal.{slots_of, place, state_of, NewestIs}
use Rattle.slots.proofs.Ranges.{differ}
use Rattle.held.specs.Held.{record_at, held_after, held_list, low_of}
use Rattle.held.specs.Rules.{show_rule, held_in}
use Rattle.held.proofs.Rule.{shown_in}
use Rattle.payer.specs.Payer.{Terms}
use Rattle.history.specs.History.{Call, book, release, aside, Done}
use Rattle.plays.specs.Script.{kind_at, pan_at, label_at, amount_at, serial_at, swipe_at, call_at}
use Rattle.layout.specs.declared.Track.TheVariants.{Two, One}
use Rattle.ledger.specs.Ledger.{HeldRecord, wants, Takes}
use Rattle.ledger.specs.declared.Ledger.{Ledger}
use Rattle.reasons.specs.declared.Reason.{Reason}
use Rattle.std.proofs.Common.{Result, Ok, Err}
use Rattle.ledger.proofs.Laws.{Did, took, left_alone, heard}
use Rattle.channel.specs.Channel.{World, answering, Act, Own, Event, box_calls, box_sends, host_hears, host_hears_noise, box_hears}
use Rattle.channel.specs.Channel.{Course, nothing_yet, and_then}
use Rattle.channel.proofs.Lists.{among_nth}
use Rattle.exchange.specs.Exchange.{State, message_at, posted, was_sent, hearing, sending, Turn, makes, send, deliver, answer, place_at, own_at, turn_at}
use Rattle.exchange.specs.Exchange.{Makes, Quiet, Hears, Answered, Turns}

-- ---- the world of a state

-- with the records that the host took, those sent and the answers given
abbrev pub world_of : State → List (List ℕ) → List (List ℕ) → List ℕ → World
world_of v k r a = record { journal = v.journal; ledger = v.ledger; took = k; records = r; answers = a }

pub record Linked (v : State) (records : List (List ℕ)) (answers : List ℕ) : Type 0 where
  pub air : (p : ℕ) → Among (message_at v.air p) records ⊎ (HeldRecord (message_at v.air p) → ⊥)
  pub told : (s : ℕ) → was_sent v s ≡ true → Among s answers

-- a course from the one to the other, at which the box makes the calls ds
pub record Follows (v : State) (k r : List (List ℕ)) (a : List ℕ) (ds : List Done) (x : State) : Type 0 where
  pub acts : List Act
  pub taken : List (List ℕ)
  pub records : List (List ℕ)
  pub answers : List ℕ
  pub course : Course (world_of v k r a) acts ds (world_of x taken records answers)
  pub linked : Linked x records answers

as_left : {v x y : State} {k r : List (List ℕ)} {a : List ℕ} {ds es : List Done} → ds ≡ es → x ≡ y → Follows v k r a es y → Follows v k r a ds x
as_left {v} {x} {y} {k} {r} {a} {ds} {es} e f w = subst⁻¹ (λ (l : List Done). Follows v k r a l x) e (subst⁻¹ (λ (u : State). Follows v k r a es u) f w)

-- nothing happens
stays : (v : State) (k r : List (List ℕ)) (a : List ℕ) → Linked v r a → Follows v k r a [] v
stays v k r a w = record { acts = []; taken = k; records = r; answers = a; course = nothing_yet; linked = w }

-- ---- the box's own calls: a turn is never a release

abbrev OwnTurn : Turn → Type 0
OwnTurn (makes c) = Own c
OwnTurn (send s place) = Unit {0}
OwnTurn (deliver place) = Unit {0}
OwnTurn (answer s) = Unit {0}

pub own_turn : (s : List ℕ) (terms : Terms) (t : List ℕ) (at : ℕ) → OwnTurn (turn_at s terms t at)
unfolding turn_at own_at call_at
own_turn s terms t at = turn (eqb k 5) (eqb k 6) (eqb k 7)
  where
    k : ℕ
    k = kind_at s at

    -- of a record that isn't a release
    call : (b1 b3 b4 : Bool)
        → Own (cond b1 (book (pan_at s at) (label_at s at) (amount_at s at))
        (cond false (release (serial_at s at)) (cond b3 (swipe_at Two s terms t at) (cond b4 (swipe_at One s terms t at) aside))))
    call true b3 b4 = tt
    call false true b4 = tt
    call false false true = tt
    call false false false = tt

    own : (b2 : Bool)
        → Own (cond b2 aside (cond (eqb k 1) (book (pan_at s at) (label_at s at) (amount_at s at))
        (cond b2 (release (serial_at s at))
        (cond (eqb k 3) (swipe_at Two s terms t at) (cond (eqb k 4) (swipe_at One s terms t at) aside)))))
    own true = tt
    own false = call (eqb k 1) (eqb k 3) (eqb k 4)

    turn : (b5 b6 b7 : Bool)
        → OwnTurn (cond b5 (send (serial_at s at) (place_at s at))
        (cond b6 (deliver (place_at s at)) (cond b7 (answer (serial_at s at)) (makes (own_at s terms t at)))))
    turn true b6 b7 = tt
    turn false true b7 = tt
    turn false false true = tt
    turn false false false = own (eqb k 2)

-- ---- a record is sent

among_after : (j : List ℕ) (n low m s : ℕ) → low < s → s ≤ low + m → is_held (state_of j n s) ≡ true → Among (record_at j n s) (held_after j n low m)
unfolding held_after
among_after j n low zero s l h e = absurd (omega arith)
among_after j n low (suc m) s l h e =
    by (ℕ_discrete s (low + 1)) (is_held (state_of j n (low + 1))) refl (λ (q : low + 1 < s). among_after j n (low + 1) m s q (omega arith) e)
  where
    by : Dec (s ≡ low + 1) → (t : Bool) → is_held (state_of j n (low + 1)) ≡ t → (low + 1 < s → Among (record_at j n s) (held_after j n (low + 1) m))
        → Among (record_at j n s) (cond t (record_at j n (low + 1) ∷ held_after j n (low + 1) m) (held_after j n (low + 1) m))
    by (yes q) true f more = Among.head (ap (record_at j n) q)
    by (yes q) false f more = absurd (differ (is_held (state_of j n s)) (ap (λ (x : ℕ). is_held (state_of j n x)) q ∙ f) e)
    by (no q) true f more = Among.tail (more (omega arith))
    by (no q) false f more = more (omega arith)

-- what a serial that is found says: a journal in form, and the record of it among the held ones
record Found (j : List ℕ) (at : ℕ) : Type 0 where
  pub newest : ℕ
  pub is : NewestIs j (Some newest)
  pub among : Among (take 32 (drop at j)) (held_list j newest)

found : (j : List ℕ) (m : Option ℕ) (s at : ℕ) → NewestIs j m → gives at ≡ show_rule m j s → Found j at
unfolding show_rule held_in record_at
found j None s at i e = let z : ◌≡◌ {A = ℕ} 0 1 = cc in absurd (omega arith)
found j (Some b) s at f e =
    let a = passed (held_in j b s) 20 (gives (place (slots_of j) s)) at (sym e) in
    let both = both_true (within (low_of j b + 1) b s) (is_held (state_of j (slots_of j) s)) a.0 in
    let r = inside_is (low_of j b + 1) b s both.0 in
    let q : place (slots_of j) s ≡ at = cc a.1 in
    record {
      newest = b;
      is = f;
      among = subst (λ (x : ℕ). Among (take 32 (drop x j)) (held_list j b)) q
          (among_after j (slots_of j) (low_of j b) (b - low_of j b) s (omega (arith, r.0)) (omega (arith, r.1)) both.1);
    }

-- what stands in a place of the air after a record was put into one
module _ (a : List ℕ) (place : ℕ) (r : List ℕ) (long : length r ≡ 32) where
  module _ (h : place < length a / 32) where
    in_air : 32 * place + length r ≤ length a
    in_air = omega arith

    put_here : message_at (put a (32 * place) r) place ≡ r
    unfolding put
    put_here =
        let front : List ℕ = take (32 * place) a in
        let rest : List ℕ = drop (32 * place + length r) a in
        ap (λ (l : List ℕ). take 32 (drop (32 * place) l)) (append_assoc front r rest)
        ∙ ap (take 32) (drop_at front (r ++ rest) (32 * place) (length-take-le (32 * place) a (omega arith))) ∙ take_at r rest 32 long

    put_elsewhere : (p : ℕ) → (p ≡ place → ⊥) → message_at (put a (32 * place) r) p ≡ message_at a p
    put_elsewhere p q = part_same a (put a (32 * place) r) (32 * p) 32 (length_put a r (32 * place) in_air) (λ i l. by i l (dec_lt p place))
      where
        by : (i : ℕ) → i < 32 → Dec (p < place) → get_or (put a (32 * place) r) (32 * p + i) 0 ≡ get_or a (32 * p + i) 0
        by i l (yes d) = put_before a r (32 * place) in_air (32 * p + i) (omega arith)
        by i l (no d) = put_after a r (32 * place) in_air (32 * p + i) (omega (arith, q))

  posted_at : (p : ℕ) → (message_at (posted a place r) p ≡ r) ⊎ (message_at (posted a place r) p ≡ message_at a p)
  posted_at p = by (ltb place (length a / 32)) refl (ℕ_discrete p place)
    where
      by : (t : Bool) → ltb place (length a / 32) ≡ t → Dec (p ≡ place)
          → (message_at (cond t (put a (32 * place) r) a) p ≡ r) ⊎ (message_at (cond t (put a (32 * place) r) a) p ≡ message_at a p)
      by false e d = inr refl
      by true e (yes q) = inl (ap (message_at (put a (32 * place) r)) q ∙ put_here (ltb-true place (length a / 32) e))
      by true e (no q) = inr (put_elsewhere (ltb-true place (length a / 32) e) p q)

-- ---- turns

module _ (v : State) (k r : List (List ℕ)) (a : List ℕ) (w : Linked v r a) where
  -- the box makes a call of its own, or releases by an answer: the air and the host stay as they are
  call_follows : (t : ℕ) (c : Call) (ds : List Done) (x : State) → Own c → Makes v t c ds x → Follows v k r a ds x
  call_follows t c ds x o m =
      as_left m.done m.is
      (record {
        acts = _;
        taken = k;
        records = r;
        answers = a;
        course = and_then nothing_yet (box_calls t m.answer o m.does);
        linked = record { air = w.air; told = w.told };
      })

  answer_follows : (t s : ℕ) (ds : List Done) (x : State) (sent : Bool) → was_sent v s ≡ sent → Answered sent v t s ds x → Follows v k r a ds x
  answer_follows t s ds x true e m =
      let i = among_nth s a (w.told s e) in
      as_left m.done m.is
      (record {
        acts = _;
        taken = k;
        records = r;
        answers = a;
        course = and_then nothing_yet (box_hears t m.answer i.1 m.does);
        linked = record { air = w.air; told = w.told };
      })
  answer_follows t s ds x false e m = as_left m.none m.is (stays v k r a w)

  -- a record is sent into the air, or lost at once
  posted_follows : (b place : ℕ) (q : List ℕ) → length q ≡ 32 → NewestIs v.journal (Some b) → Among q (held_list v.journal b)
      → Follows v k r a [] (sending v (posted v.air place q))
  posted_follows b place q long is among =
      let i = among_nth q (held_list v.journal b) among in
      record {
        acts = _;
        taken = k;
        records = q ∷ r;
        answers = a;
        course = and_then nothing_yet (box_sends b is i.1);
        linked = record {
          air = λ p. ⊎_elim (λ e. inl (Among.head e))
              (λ e. subst⁻¹ (λ (m : List ℕ). Among m (q ∷ r) ⊎ (HeldRecord m → ⊥)) e (⊎_elim (λ m. inl (Among.tail m)) inr (w.air p)))
              (posted_at v.air place q long p);
          told = w.told;
        };
      }

  send_follows : (s place : ℕ) (ds : List Done) (x : State) (m : Option ℕ) → NewestIs v.journal m
      → Quiet ds x (sending v (after (show_rule m v.journal s) v.air (λ at. posted v.air place (take 32 (drop at v.journal)))))
      → Follows v k r a ds x
  send_follows s place ds x m is q = as_left q.none q.is (by (show_rule m v.journal s) refl)
    where
      by : (o : Outcome ℕ) → show_rule m v.journal s ≡ o
          → Follows v k r a [] (sending v (after o v.air (λ at. posted v.air place (take 32 (drop at v.journal)))))
      by (refuses n) e = stays v k r a w
      by (gives at) e =
          let f = found v.journal m s at is (sym e) in
          let long : length (take 32 (drop at v.journal)) ≡ 32 =
          length-take-le 32 (drop at v.journal) (omega (arith, length-drop at v.journal, shown_in v.journal m s at is (sym e))) in
          posted_follows f.newest place (take 32 (drop at v.journal)) long f.is f.among

  -- an answer that was given before
  told_before : (s : ℕ) → (s ≡ 0 → ⊥) → s ≤ v.ledger.taken → Among s a
  told_before s n h = w.told s (ap (λ (t : Bool). cond t v.zero_sent (leb s v.ledger.taken)) (ne_eqb s 0 n) ∙ le-leb s v.ledger.taken h)

  -- the answers given once the host heard a message so: those given before, and the last serial taken
  told_now : (message : List ℕ) (l : Ledger) → Takes v.ledger message (Ok l) → (s : ℕ) → was_sent (hearing v (Ok l)) s ≡ true → Among s (l.taken ∷ a)
  told_now message l t s e = by (ℕ_discrete s 0)
    where
      -- of 0
      zero_too : s ≡ 0 → (z : Bool) → v.zero_sent ≡ z → (z || eqb l.taken 0) ≡ true → Among s (l.taken ∷ a)
      zero_too is true q f = Among.tail (w.told s (ap (λ (t : Bool). cond t v.zero_sent (leb s v.ledger.taken)) (eq-eqb s 0 is) ∙ q))
      zero_too is false q f = Among.head (is ∙ sym (eqb-true l.taken 0 f))

      -- of another serial
      another : (s ≡ 0 → ⊥) → s ≤ l.taken → Did v.ledger message l → Dec (s ≡ l.taken) → Among s (l.taken ∷ a)
      another n h d (yes q) = Among.head q
      another n h (took x y q) (no z) =
          let r : l.taken ≡ v.ledger.taken + 1 = ap (λ (m : Ledger). m.taken) q in
          Among.tail (told_before s n (omega arith))
      another n h (left_alone x q) (no z) =
          let r : l.taken ≡ v.ledger.taken = ap (λ (m : Ledger). m.taken) q in
          Among.tail (told_before s n (omega arith))

      by : Dec (s ≡ 0) → Among s (l.taken ∷ a)
      by (yes q) =
          zero_too q v.zero_sent refl
          (sym (ap (λ (t : Bool). cond t (v.zero_sent || eqb l.taken 0) (leb s l.taken)) (eq-eqb s 0 q)) ∙ e)
      by (no n) =
          let h : leb s l.taken ≡ true = sym (ap (λ (t : Bool). cond t (v.zero_sent || eqb l.taken 0) (leb s l.taken)) (ne_eqb s 0 n)) ∙ e in
          another n (leb-true s l.taken h) (heard v.ledger message l t).did (ℕ_discrete s l.taken)

  -- the host hears what stands in a place
  hear_follows : (place : ℕ) (ds : List Done) (x : State) → Hears v (message_at v.air place) ds x → Follows v k r a ds x
  hear_follows place ds x h = as_left h.quiet.none h.quiet.is (by h.answer h.takes)
    where
      message : List ℕ
      message = message_at v.air place

      -- what was sent, or noise
      event : (q : Result Ledger Reason) → Takes v.ledger message q → (b : Act) × Event (world_of v k r a) b [] (answering (world_of v k r a) message q)
      event q t = ⊎_elim (λ m. (_, host_hears q (among_nth message r m).1 t)) (λ n. (_, host_hears_noise q n t)) (w.air place)

      by : (q : Result Ledger Reason) → Takes v.ledger message q → Follows v k r a [] (hearing v q)
      by (Ok l) t = record {
        acts = (event (Ok l) t).0 ∷ [];
        taken = cond (wants v.ledger message) (k ++ (message ∷ [])) k;
        records = r;
        answers = l.taken ∷ a;
        course = and_then nothing_yet (event (Ok l) t).1;
        linked = record { air = w.air; told = told_now message l t };
      }
      by (Err y) t = stays v k r a w

  pub turn_follows : (t : ℕ) (n : Turn) (ds : List Done) (x : State) → OwnTurn n → Turns v t n ds x → Follows v k r a ds x
  turn_follows t (makes c) ds x o m = call_follows t c ds x o m
  turn_follows t (send s place) ds x o m = send_follows s place ds x m.view m.is m.so
  turn_follows t (deliver place) ds x o m = hear_follows place ds x m
  turn_follows t (answer s) ds x o m = answer_follows t s ds x (was_sent v s) refl m
