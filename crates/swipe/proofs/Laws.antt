-- The laws of the swipe.
use Rattle.std.proofs.Common.{Option, Result, Ok, Err}
use Prim.Native.Nat.{ℕ, ◌+◌, ◌≤◌, ◌<◌}
use mathlib.Core.Path.{◌≡◌, refl, sym, ap, ◌∙◌, subst⁻¹}
use mathlib.Core.List.{List}
use native.Mathlib.Omega.{arith}
use native.Mathlib.Decide.{dec_le}
use borrow.Author.Tests.{le-leb, leb-true}
use lib.Dec.{leb}
use lib.ListN.{length, get_or, replicate, length-replicate, get_or-replicate}
use Rattle.text.specs.Numbers.{put}
use Rattle.text.proofs.Put.{put_in, put_after}
use Rattle.reasons.specs.Reasons.{Outcome, gives, refuses, and_then, after, said}
use Rattle.reasons.specs.declared.Reason.{Reason}
use Rattle.reasons.proofs.Laws.{passed, went_on, gives_refuses, said_one}
use Rattle.pan.specs.Pan.{shown}
use Rattle.dates.specs.declared.Date.{Date}
use Rattle.slots.specs.Record.{record32}
use Rattle.slots.specs.Views.{newest}
use Rattle.slots.proofs.Views.{view_one}
use Rattle.journal.specs.Rules.{full, book_rule, book_bytes, Books}
use Rattle.journal.proofs.Rule.{Fine, book_done}
use Rattle.payer.specs.Payer.{room, Terms, Given, given, Payer, card_rule}
use Rattle.payer.proofs.Cards.{LeftOf, card_left}
use Rattle.swipe.specs.Swipe.{box_rule, ready_rule, swipe_rule, receipt, swipe_answer, swipe_bytes, swipe_scratch}
use Rattle.swipe.specs.Swipe.{Swipes}
use Rattle.swipe.specs.declared.Receipt.{Receipt}
use Rattle.layout.specs.declared.Track.{Track}
use Rattle.layout.specs.declared.Track.TheVariants.{Two, One}
use Rattle.swipe.proofs.Steps.{card_fine, Open, opened, short_scratch, kept_short}

-- a short scratch is refused and leaves the journal, whatever the journal's view
short_so : (m : Option ℕ) (g : Given) (amount clock space : ℕ) (j : List ℕ) → space < room g.track
    → (swipe_answer m g amount space j ≡ refuses 1) × (swipe_bytes m g amount space clock j ≡ j)
unfolding swipe_answer swipe_bytes
short_so m g amount clock space j h = let e = short_scratch m g amount space j h in (rw e, rw e)

-- any two outcomes that a swipe allows are equal: answer, scratch and journal
pub swipe_one : (g : Given) (amount clock : ℕ) (t j : List ℕ) (r q : Result Receipt Reason) (u v k l : List ℕ)
    → Swipes g amount clock t j r u k → Swipes g amount clock t j q v l → (r ≡ q) × (u ≡ v) × (k ≡ l)
swipe_one g amount clock t j r q u v k l f h = by (dec_le (room g.track) (length t))
  where
    by : Dec (room g.track ≤ length t) → (r ≡ q) × (u ≡ v) × (k ≡ l)
    by (yes long) =
        let e = view_one j f.view h.view (f.is long) (h.is long) in (
          said_one r q (f.so.answer ∙ ap (λ (m : Option ℕ). swipe_answer m g amount (length t) j) e ∙ sym h.so.answer),
          f.scratch ∙ sym h.scratch,
          f.so.journal ∙ ap (λ (m : Option ℕ). swipe_bytes m g amount (length t) clock j) e ∙ sym h.so.journal,
        )
    by (no n) =
        let a = short_so f.view g amount clock (length t) j (omega arith) in
        let b = short_so h.view g amount clock (length t) j (omega arith) in (
          said_one r q (f.so.answer ∙ a.0 ∙ sym b.0 ∙ sym h.so.answer),
          f.scratch ∙ sym h.scratch,
          f.so.journal ∙ a.1 ∙ sym b.1 ∙ sym h.so.journal,
        )

-- ---- "then it books with that record's label"

-- what a swipe passed before it booked
pub record Passed (m : Option ℕ) (g : Given) (amount space : ℕ) (j : List ℕ) (p : Payer) : Type 0 where
  pub scratch : room g.track ≤ space
  pub serial : ℕ
  pub box : Open g.terms amount g.date j m serial
  pub card : card_rule g ≡ gives p

pub passed_all : (m : Option ℕ) (g : Given) (amount space : ℕ) (j : List ℕ) (p : Payer) → swipe_rule m g amount space j ≡ gives p → Passed m g amount space j p
unfolding swipe_rule ready_rule
passed_all m g amount space j p e =
    let a = went_on (ready_rule m g amount space j) _ p e in
    let s = passed (leb (room g.track) space) 1 _ a.0 a.1 in
    record { scratch = leb-true _ _ s.0; serial = a.0; box = opened g.terms amount g.date j m a.0 s.1; card = a.2 }

-- where the tests pass nothing else refuses: the payment is booked under the next serial
pub is_booked : (m : Option ℕ) (g : Given) (amount space : ℕ) (j : List ℕ) (p : Payer) → swipe_rule m g amount space j ≡ gives p
    → book_rule m j p.pan p.label amount ≡ gives (newest m + 1)
is_booked m g amount space j p e =
    let t = passed_all m g amount space j p e in
    let b = t.box in
    subst⁻¹ (λ (v : Option ℕ). book_rule v j p.pan p.label amount ≡ gives (newest v + 1)) b.view
    (sym (book_done j p.pan p.label amount t.serial (card_fine g p t.card) b.some b.serials b.slot))

-- a swipe as an answer of the journal's
abbrev pub as_booked : Result Receipt Reason → Result ℕ Reason
as_booked (Ok b) = Ok b.serial
as_booked (Err r) = Err r

-- of what is answered the serial alone, which is the journal's own answer
serial_of : Outcome Receipt → Outcome ℕ
serial_of o = and_then o (λ b. gives b.serial)

same-said : (r : Result Receipt Reason) → said (as_booked r) ≡ serial_of (said r)
unfolding serial_of
same-said (Ok b) = refl
same-said (Err r) = refl

same_serial : (o : Outcome ℕ) (d : Option ℕ) → serial_of (and_then o (λ s. gives (receipt s d))) ≡ o
unfolding serial_of
same_serial (gives s) d = refl
same_serial (refuses n) d = refl

is_refused : (r : Result Receipt Reason) (n : ℕ) → said r ≡ refuses n → (x : Reason) × (r ≡ Err x)
is_refused (Ok b) n e = gives_refuses b n e
is_refused (Err x) n e = (x, refl)

-- what a swipe comes to: it refuses and leaves the journal, or it is one receipt of a payer who is told from the card alone
pub data ComesTo (g : Given) (amount clock : ℕ) (j : List ℕ) (r : Result Receipt Reason) (k : List ℕ) : Type 0 where
  refusal : (x : Reason) → r ≡ Err x → k ≡ j → ComesTo g amount clock j r k
  one_booking : (p : Payer) → card_rule g ≡ gives p → Books j p.pan p.label amount clock (as_booked r) k → ComesTo g amount clock j r k

-- "A swipe refuses and leaves the journal, or it is exactly one receipt whose PAN, label and amount depend on neither clock nor journal"
pub swipe_comes_to : (g : Given) (amount clock : ℕ) (t j : List ℕ) (r : Result Receipt Reason) (u k : List ℕ) → Swipes g amount clock t j r u k → ComesTo g amount clock j r k
unfolding swipe_answer swipe_bytes
swipe_comes_to g amount clock t j r u k f = by (swipe_rule f.view g amount (length t) j) refl
  where
    by : (o : Outcome Payer) → swipe_rule f.view g amount (length t) j ≡ o → ComesTo g amount clock j r k
    by (refuses n) e =
        let x = is_refused r n (f.so.answer ∙ rw e) in
        refusal x.0 x.1 (f.so.journal ∙ rw e)
    by (gives p) e =
        let a = passed_all f.view g amount (length t) j p e in
        let serial : said (as_booked r) ≡ book_rule f.view j p.pan p.label amount =
        same-said r ∙ ap serial_of (f.so.answer ∙ rw e) ∙ same_serial _ p.left in
        one_booking p a.card (record { view = f.view; is = f.is a.scratch; so = (serial, f.so.journal ∙ rw e) })

-- a serial is answered only for a card that says who pays, and with it what that card has left
pub swiped_card : (g : Given) (amount clock : ℕ) (t j : List ℕ) (s : ℕ) (d : Option ℕ) (u k : List ℕ) → Swipes g amount clock t j (Ok (receipt s d)) u k
    → (p : Payer) × (card_rule g ≡ gives p) × (d ≡ p.left)
unfolding swipe_answer
swiped_card g amount clock t j s d u k f =
    let says : Receipt = receipt s d in
    let a = went_on (swipe_rule f.view g amount (length t) j) _ says (sym f.so.answer) in
    let b = went_on (book_rule f.view j a.0.pan a.0.label amount) _ says a.2 in
    let e : receipt b.0 a.0.left ≡ says = cc b.2 in
    (a.0, (passed_all f.view g amount (length t) j a.0 a.1).card, sym (ap (λ (x : Receipt). x.left) e))

-- "A booked swipe also answers the days left": those that the card's own expiry leaves on the host's date
pub left_answered : (g : Given) (amount clock : ℕ) (t j : List ℕ) (s : ℕ) (d : Option ℕ) (u k : List ℕ)
    → Swipes g amount clock t j (Ok (receipt s d)) u k → LeftOf g d
left_answered g amount clock t j s d u k f =
    let c = swiped_card g amount clock t j s d u k f in
    subst⁻¹ (LeftOf g) c.2 (card_left g c.0 c.1)

-- of the journal's bytes a swipe's decision asks only whether all slots are held
pub same_decision : (m : Option ℕ) (g : Given) (amount space : ℕ) (j k : List ℕ) → full j ≡ full k → swipe_rule m g amount space j ≡ swipe_rule m g amount space k
unfolding swipe_rule ready_rule box_rule
same_decision m g amount space j k e = rw e

-- ---- the scratch

-- "scratch under 37 (1)", "with 76 bytes of scratch"
pub room_two : room Two ≡ 37
room_two = refl

pub room_one : room One ≡ 76
room_one = refl

module _ (n : ℕ) (t : List ℕ) (h : n ≤ length t) where
  zeros_fit : 0 + length {A = ℕ} (replicate n 0) ≤ length t
  zeros_fit = omega (arith, length-replicate {A = ℕ} n 0)

  -- "After any answer but 1, the first 37 scratch bytes are zero;
  pub scratch_zero : (i : ℕ) → i < n → get_or (swipe_scratch n t) i 0 ≡ 0
  unfolding swipe_scratch
  scratch_zero i l =
      simp (le-leb n (length t) h)
      (ap (λ (x : ℕ). get_or (put t 0 (replicate n 0)) x 0) (omega arith)
      ∙ put_in t (replicate n 0) 0 zeros_fit i (omega (arith, length-replicate {A = ℕ} n 0)) ∙ get_or-replicate n i 0 0 l)

  -- no others change,
  pub scratch_rest : (i : ℕ) → n ≤ i → get_or (swipe_scratch n t) i 0 ≡ get_or t i 0
  unfolding swipe_scratch
  scratch_rest i l = simp (le-leb n (length t) h) (put_after t (replicate n 0) 0 zeros_fit i (omega (arith, length-replicate {A = ℕ} n 0)))

-- and 1 changes none"
pub scratch_short : (n : ℕ) (t : List ℕ) → length t < n → swipe_scratch n t ≡ t
scratch_short n t h = sym (kept_short n t h)

-- ---- hidden digits leave no trace

record_same : (a b : List ℕ) → length a ≡ length b → shown a ≡ shown b → (s clock amount label : ℕ)
    → record32 s clock amount label a ≡ record32 s clock amount label b
unfolding record32
record_same a b e f s clock amount label = rw (f, e)

booking_same : (m : Option ℕ) (j a b : List ℕ) (label amount clock : ℕ) → Fine a → Fine b → length a ≡ length b → shown a ≡ shown b
    → book_bytes m j a label amount clock ≡ book_bytes m j b label amount clock
unfolding book_bytes book_rule
booking_same m j a b label amount clock f g e s =
    let same : (n : ℕ) → record32 n clock amount label a ≡ record32 n clock amount label b = λ n. record_same a b e s n clock amount label in
    simp (f.count, f.digits, f.sum, g.count, g.digits, g.sum, same)

-- of two cards that pay alike a swipe leaves the same, whatever the box says
alike : (o : Outcome ℕ) (j : List ℕ) (f : Payer → List ℕ) (p q : Payer) → f p ≡ f q
    → after (and_then o (λ _. gives p)) j f ≡ after (and_then o (λ _. gives q)) j f
alike (gives b) j f p q e = e
alike (refuses n) j f p q e = refl

-- no byte of the PAN stays anywhere but what the record shows: of two cards that pay, with PANs of one length, the same shown digits and one
-- label, a swipe leaves the same journal; the scratch is cleared
module _ (k : Track) (terms : Terms) (a : Date) (m : Option ℕ) (amount space clock : ℕ) (j : List ℕ) (s t : List ℕ) (n o : ℕ) (p q : Payer) where
  abbrev one : Given
  one = given k s n terms a

  abbrev other : Given
  other = given k t o terms a

  pub no_trace : card_rule one ≡ gives p → card_rule other ≡ gives q → length p.pan ≡ length q.pan → shown p.pan ≡ shown q.pan → p.label ≡ q.label
      → swipe_bytes m one amount space clock j ≡ swipe_bytes m other amount space clock j
  unfolding swipe_bytes swipe_rule ready_rule
  no_trace e f l d x =
      let book : Payer → List ℕ = λ y. book_bytes m j y.pan y.label amount clock in
      let left : Outcome Payer → List ℕ = λ c. after (and_then (ready_rule m one amount space j) (λ _. c)) j book in
      let same : book p ≡ book q =
      ap (λ (y : ℕ). book_bytes m j p.pan y amount clock) x
      ∙ booking_same m j p.pan q.pan q.label amount clock (card_fine one p e) (card_fine other q f) l d in
      ap left e ∙ alike (ready_rule m one amount space j) j book p q same ∙ sym (ap left f)
