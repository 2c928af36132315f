-- What one record's turn comes to.
use Prim.Native.Nat.{ℕ, ◌*◌, ◌/◌, ◌≤◌, ◌<◌}
use mathlib.Core.Path.{◌≡◌, refl, sym, ap, ◌∙◌, subst, subst⁻¹}
use mathlib.Core.Bool.{Bool, true, false, cond}
use mathlib.Core.List.{List, [], ◌∷◌}
use native.Mathlib.Omega.{arith}
use lib.Dec.{eqb, leb}
use lib.ListN.{length, take, drop}
use borrow.Author.Tests.{lt-ltb, le-ltb, eq-eqb, ne_eqb}
use Rattle.text.specs.Numbers.{put}
use Rattle.reasons.specs.Reasons.{after}
use Rattle.reasons.specs.declared.Reason.{Reason}
use Rattle.slots.specs.Views.{Seen}
use Rattle.held.specs.Rules.{show_rule}
use Rattle.payer.specs.Payer.{Terms}
use Rattle.history.specs.History.{Call, release, aside, takings, booked, freed_count, freed_sum}
use Rattle.plays.specs.Script.{kind_at, serial_at, call_at, refused_count, skipped_count, TotalsOf, Nothing, Bounded, PlaysOne}
use Rattle.plays.specs.declared.Totals.{Totals}
use Rattle.ledger.specs.Ledger.{Takes}
use Rattle.ledger.specs.declared.Ledger.{Ledger}
use Rattle.std.proofs.Common.{Result, Ok, Err}
use Rattle.channel.specs.Channel.{made}
use Rattle.exchange.specs.Exchange.{State, was_sent, message_at, posted, hearing, sending, calling, Makes, Answered}
use Rattle.exchange.specs.Exchange.{Turn, makes, send, deliver, answer, place_at, own_at, turn_at}
use Rattle.exchange.specs.Inner.{state, hearing_so, Heard, Took}
use Rattle.exchange.specs.declared.Host.{Host}

-- ---- places in the air, and answers

pub into_air : (a : List ℕ) (place : ℕ) (r : List ℕ) → place < length a / 32 → put a (32 * place) r ≡ posted a place r
into_air a place r h = sym (ap (λ (t : Bool). cond t (put a (32 * place) r) a) (lt-ltb place (length a / 32) h))

pub no_air : (a : List ℕ) (place : ℕ) (r : List ℕ) → length a / 32 ≤ place → a ≡ posted a place r
no_air a place r h = sym (ap (λ (t : Bool). cond t (put a (32 * place) r) a) (le-ltb place (length a / 32) h))

pub of_zero : (s : ℕ) (zero : Bool) (taken : ℕ) → s ≡ 0 → zero ≡ cond (eqb s 0) zero (leb s taken)
of_zero s zero taken e = sym (ap (λ (t : Bool). cond t zero (leb s taken)) (eq-eqb s 0 e))

pub of_another : (s : ℕ) (zero : Bool) (taken : ℕ) → (s ≡ 0 → ⊥) → leb s taken ≡ cond (eqb s 0) zero (leb s taken)
of_another s zero taken n = sym (ap (λ (t : Bool). cond t zero (leb s taken)) (ne_eqb s 0 n))

-- whether an answer was sent, by the serial that the script says
pub sent_as : (zero : Bool) (taken s u : ℕ) (t b : Bool) → u ≡ s → t ≡ cond (eqb u 0) zero (leb u taken) → t ≡ b
    → cond (eqb s 0) zero (leb s taken) ≡ b
sent_as zero taken s u t b e w f = (λ i. cond (eqb (sym e i) 0) zero (leb (sym e i) taken)) ∙ sym w ∙ f

-- ---- no call

pub none_came : (r : Totals) → Nothing 0 0 r → TotalsOf [] r
unfolding booked takings freed_count freed_sum refused_count skipped_count
none_came r n = record { booked_is = n.0; takings_is = n.1; released_is = n.2; remitted_is = n.3; refused_is = n.4; skipped_is = n.5 }

-- totals of zeros
pub nothing_yet : (r : Totals)
    → (r.booked ≡ 0) × ((r.takings ≡ 0) × ((r.released ≡ 0) × ((r.remitted ≡ 0) × ((r.refused ≡ 0) × (r.skipped ≡ 0))))) → Nothing 0 0 r
nothing_yet r e = (e.0, e.1.0, e.1.1.0, e.1.1.1.0, e.1.1.1.1.0, e.1.1.1.1.1)

none_small : (r : Totals) → Nothing 0 0 r → Bounded 1 r
none_small r n = (omega (arith, n.0), omega (arith, n.1), omega (arith, n.2), omega (arith, n.3), omega (arith, n.4), omega (arith, n.5))

module _ (v : State) (clock : ℕ) (r : Totals) (n : Nothing 0 0 r) where
  pub took_sent : (s place : ℕ) (b : List ℕ)
      → Seen v.journal (λ m. b ≡ after (show_rule m v.journal s) v.air (λ at. posted v.air place (take 32 (drop at v.journal))))
      → Took v clock (send s place) r (sending v b)
  took_sent s place b w = record {
    done = [];
    turns = record { view = w.view; is = w.is; so = record { none = refl; is = ap (sending v) w.so } };
    totals = none_came r n;
    small = none_small r n;
  }

  took_answered : (place : ℕ) (q : Result Ledger Reason) → Takes v.ledger (message_at v.air place) q → Took v clock (deliver place) r (hearing v q)
  took_answered place q w = record {
    done = [];
    turns = record { answer = q; takes = w; quiet = record { none = refl; is = refl } };
    totals = none_came r n;
    small = none_small r n;
  }

  pub took_unsent : (s : ℕ) → was_sent v s ≡ false → Took v clock (answer s) r v
  took_unsent s e = record {
    done = [];
    turns = subst⁻¹ (λ (b : Bool). Answered b v clock s [] v) e (record { none = refl; is = refl });
    totals = none_came r n;
    small = none_small r n;
  }

-- the host hears what stands in a place
module _ (t j a : List ℕ) (h k : Host) (clock place : ℕ) (r : Totals) (n : Nothing 0 0 r) where
  hearing_host : (q : Result Ledger Reason) → hearing (state t j a h) q ≡ state t j a (hearing_so h q)
  hearing_host (Ok l) = refl
  hearing_host (Err x) = refl

  pub took_heard : Heard h (message_at a place) k → Took (state t j a h) clock (deliver place) r (state t j a k)
  took_heard w =
      subst (λ (x : State). Took (state t j a h) clock (deliver place) r x) (hearing_host w.answer ∙ ap (state t j a) (sym w.is))
      (took_answered (state t j a h) clock r n place w.answer w.takes)

-- ---- one call

module _ (v : State) (clock : ℕ) (r : Totals) where
  makes_it : (c : Call) (u k : List ℕ) (w : PlaysOne c clock v.scratch v.journal r u k) → Makes v clock c (made clock c w.answer k ∷ []) (calling v u k)
  makes_it c u k w = record { answer = w.answer; after = k; does = w.does; done = refl; is = ap (λ (x : List ℕ). calling v x k) w.scratch }

  pub took_call : (c : Call) (u k : List ℕ) → PlaysOne c clock v.scratch v.journal r u k → Took v clock (makes c) r (calling v u k)
  took_call c u k w = record { done = made clock c w.answer k ∷ []; turns = makes_it c u k w; totals = w.totals; small = w.small }

  pub took_answer : (s : ℕ) (k : List ℕ) → was_sent v s ≡ true → PlaysOne (release s) clock v.scratch v.journal r v.scratch k
      → Took v clock (answer s) r (calling v v.scratch k)
  took_answer s k e w = record {
    done = made clock (release s) w.answer k ∷ [];
    turns = subst⁻¹ (λ (b : Bool). Answered b v clock s (made clock (release s) w.answer k ∷ []) (calling v v.scratch k)) e
        (makes_it (release s) v.scratch k w);
    totals = w.totals;
    small = w.small;
  }

-- ---- the turn of a record

module _ (s : List ℕ) (terms : Terms) (t : List ℕ) (at : ℕ) where
  pub is_send : kind_at s at ≡ 5 → send (serial_at s at) (place_at s at) ≡ turn_at s terms t at
  unfolding turn_at
  is_send e = simp (eq-eqb (kind_at s at) 5 e)

  pub is_deliver : kind_at s at ≡ 6 → deliver (place_at s at) ≡ turn_at s terms t at
  unfolding turn_at
  is_deliver e = simp (ne_eqb (kind_at s at) 5 (λ z. omega arith), eq-eqb (kind_at s at) 6 e)

  pub is_answer : kind_at s at ≡ 7 → answer (serial_at s at) ≡ turn_at s terms t at
  unfolding turn_at
  is_answer e = simp (ne_eqb (kind_at s at) 5 (λ z. omega arith), ne_eqb (kind_at s at) 6 (λ z. omega arith), eq-eqb (kind_at s at) 7 e)

  pub is_own : (kind_at s at ≡ 5 → ⊥) → (kind_at s at ≡ 6 → ⊥) → (kind_at s at ≡ 7 → ⊥) → makes (own_at s terms t at) ≡ turn_at s terms t at
  unfolding turn_at
  is_own a b c = simp (ne_eqb (kind_at s at) 5 a, ne_eqb (kind_at s at) 6 b, ne_eqb (kind_at s at) 7 c)

  -- the box's own call, where the record asks for a release and where it doesn't
  pub passed_over : kind_at s at ≡ 2 → aside ≡ own_at s terms t at
  unfolding own_at
  passed_over e = simp (eq-eqb (kind_at s at) 2 e)

  pub made_as_asked : (kind_at s at ≡ 2 → ⊥) → call_at s terms t at ≡ own_at s terms t at
  unfolding own_at
  made_as_asked n = simp (ne_eqb (kind_at s at) 2 n)

pub as_turn : {c d : Turn} (v : State) (clock : ℕ) (r : Totals) (w : State) → c ≡ d → Took v clock c r w → Took v clock d r w
as_turn v clock r w e t = subst (λ (x : Turn). Took v clock x r w) e t
