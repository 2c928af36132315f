-- The swipe's tests in their order, and the receipt at their end.
use Rattle.std.proofs.Common.{Option, Some, None, Result, Ok}
use Prim.Native.Nat.{ℕ, ◌+◌, ◌≤◌, ◌<◌}
use mathlib.Core.Path.{◌≡◌, refl, sym, ap, ◌∙◌}
use mathlib.Core.Bool.{true, false, not, ◌&&◌}
use mathlib.Core.List.{List, ◌++◌}
use native.Mathlib.Omega.{arith}
use borrow.Author.Tests.{le-leb, lt-leb, eq-eqb, ne_eqb, eqb-false, not-true}
use lib.Dec.{eqb}
use lib.ListN.{length, drop, replicate, length-replicate}
use Rattle.text.specs.Numbers.{put}
use Rattle.text.proofs.Tests.{both_true}
use Rattle.reasons.specs.Reasons.{Outcome, gives, refuses, and_then, said}
use Rattle.reasons.specs.declared.Reason.{Reason}
use Rattle.reasons.proofs.Laws.{passed}
use Rattle.ranges.specs.Ranges.{table_ok}
use Rattle.ranges.proofs.Steps.{both_demanded}
use Rattle.hotlist.specs.Hotlist.{list_ok}
use Rattle.dates.specs.Dates.{real}
use Rattle.dates.specs.declared.Date.{Date}
use Rattle.slots.specs.Record.{record32}
use Rattle.slots.specs.Journal.{slots_of, place}
use Rattle.slots.specs.Views.{formed, newest}
use Rattle.journal.specs.Rules.{full}
use Rattle.journal.proofs.Rule.{Fine, book_done, book_wrote}
use Rattle.payer.proofs.Cards.{card_pays}
use Rattle.payer.specs.Payer.{room, Terms, Sound, Given, Payer, card_rule}
use Rattle.swipe.specs.declared.Receipt.{Receipt}
use Rattle.swipe.specs.Swipe.{box_rule, ready_rule, swipe_rule, receipt, swipe_answer, swipe_bytes, swipe_scratch, Charges}

-- the number of a card that pays may be booked
pub card_fine : (g : Given) (p : Payer) → card_rule g ≡ gives p → Fine p.pan
card_fine g p e = let c = card_pays g p e in record { count = c.count; digits = c.digits; sum = c.sum }

-- ---- the box's tests, in their order

module _ (t : Terms) (amount : ℕ) (a : Date) (j : List ℕ) where
  pub bad_journal : refuses 16 ≡ box_rule None t amount a j
  unfolding box_rule
  bad_journal = refl

  module _ (b : ℕ) where
    pub bad_tables : (table_ok t.site && table_ok t.acquirer) ≡ false → refuses 14 ≡ box_rule (Some b) t amount a j
    unfolding box_rule
    bad_tables e = sym (both_demanded (table_ok t.site) (table_ok t.acquirer) 14 _ e)

    pub bad_list : (table_ok t.site && table_ok t.acquirer) ≡ true → list_ok t.hot t.digits ≡ false → refuses 21 ≡ box_rule (Some b) t amount a j
    unfolding box_rule
    bad_list e h = let w = both_true (table_ok t.site) (table_ok t.acquirer) e in simp (w.0, w.1, h)

    module _ (s : Sound t) where
      pub zero_amount : amount ≡ 0 → refuses 17 ≡ box_rule (Some b) t amount a j
      unfolding box_rule
      zero_amount z = simp (s.site_right, s.acquirer_right, s.hot_right, eq-eqb amount 0 z)

      module _ (z : amount ≡ 0 → ⊥) where
        pub bad_date : real a ≡ false → refuses 23 ≡ box_rule (Some b) t amount a j
        unfolding box_rule
        bad_date d = simp (s.site_right, s.acquirer_right, s.hot_right, ne_eqb amount 0 z, d)

        module _ (d : real a ≡ true) where
          pub last_serial : b ≡ 4294967295 → refuses 19 ≡ box_rule (Some b) t amount a j
          unfolding box_rule
          last_serial l = simp (s.site_right, s.acquirer_right, s.hot_right, ne_eqb amount 0 z, d, eq-eqb b 4294967295 l)

          module _ (l : b ≡ 4294967295 → ⊥) where
            pub journal_full : full j ≡ true → refuses 18 ≡ box_rule (Some b) t amount a j
            unfolding box_rule
            journal_full f = simp (s.site_right, s.acquirer_right, s.hot_right, ne_eqb amount 0 z, d, ne_eqb b 4294967295 l, f)

            pub all_passed : full j ≡ false → gives b ≡ box_rule (Some b) t amount a j
            unfolding box_rule
            all_passed f = simp (s.site_right, s.acquirer_right, s.hot_right, ne_eqb amount 0 z, d, ne_eqb b 4294967295 l, f)

  -- the tests that a box passed whose newest serial is b
  pub record Open (m : Option ℕ) (b : ℕ) : Type 0 where
    pub view : m ≡ Some b
    pub sound : Sound t
    pub some : amount ≡ 0 → ⊥
    pub date_right : real a ≡ true
    pub serials : b ≡ 4294967295 → ⊥
    pub slot : full j ≡ false

  formed_is : (m : Option ℕ) (b : ℕ) → formed m ≡ true → newest m ≡ b → m ≡ Some b
  formed_is None b f e = let z : ◌≡◌ {A = ℕ} 0 1 = cc in absurd (omega arith)
  formed_is (Some c) b f e = ap Some e

  pub opened : (m : Option ℕ) (b : ℕ) → box_rule m t amount a j ≡ gives b → Open m b
  unfolding box_rule
  opened m b e =
      let w = passed (formed m) 16 _ b e in
      let s = passed (table_ok t.site) 14 _ b w.1 in
      let q = passed (table_ok t.acquirer) 14 _ b s.1 in
      let h = passed (list_ok t.hot t.digits) 21 _ b q.1 in
      let z = passed (not (eqb amount 0)) 17 _ b h.1 in
      let d = passed (real a) 23 _ b z.1 in
      let l = passed (not (eqb (newest m) 4294967295)) 19 _ b d.1 in
      let f = passed (not (full j)) 18 _ b l.1 in
      let n : newest m ≡ b = cc f.1 in
      record {
        view = formed_is m b w.0 n;
        sound = record { site_right = s.0; acquirer_right = q.0; hot_right = h.0 };
        some = eqb-false amount 0 (not-true _ z.0);
        date_right = d.0;
        serials = λ h. eqb-false (newest m) 4294967295 (not-true _ l.0) (n ∙ h);
        slot = not-true _ f.0;
      }

-- ---- the swipe's

-- a refused swipe answers its number and leaves the journal
pub refused : (m : Option ℕ) (g : Given) (amount clock space : ℕ) (j : List ℕ) (r : Result Receipt Reason) (n : ℕ) → said r ≡ refuses n
    → swipe_rule m g amount space j ≡ refuses n → Charges m g amount clock space j r j
unfolding swipe_answer swipe_bytes
refused m g amount clock space j r n s e = record { answer = s ∙ rw e; journal = rw e }

module _ (m : Option ℕ) (g : Given) (amount space : ℕ) (j : List ℕ) where
  pub short_scratch : space < room g.track → swipe_rule m g amount space j ≡ refuses 1
  unfolding swipe_rule ready_rule
  short_scratch h = simp (lt-leb (room g.track) space h)

  module _ (h : room g.track ≤ space) where
    pub box_refused : (n : ℕ) → refuses n ≡ box_rule m g.terms amount g.date j → swipe_rule m g amount space j ≡ refuses n
    unfolding swipe_rule ready_rule
    box_refused n e = rw (le-leb (room g.track) space h, ← e)

    pub card_next : (b : ℕ) → gives b ≡ box_rule m g.terms amount g.date j → swipe_rule m g amount space j ≡ card_rule g
    unfolding swipe_rule ready_rule
    card_next b e = rw (le-leb (room g.track) space h, ← e)

-- a card that pays is booked: x is the answered serial, what is left is answered with it, and k are the journal's bytes
pub booked : (g : Given) (amount clock space b : ℕ) (j : List ℕ) (p : Payer) (x : ℕ) (k : List ℕ) → room g.track ≤ space
    → gives b ≡ box_rule (Some b) g.terms amount g.date j → card_rule g ≡ gives p
    → x ≡ b + 1 → k ≡ put j (place (slots_of j) (b + 1)) (record32 (b + 1) clock amount p.label p.pan)
    → Charges (Some b) g amount clock space j (Ok (receipt x p.left)) k
unfolding swipe_answer swipe_bytes
booked g amount clock space b j p x k h r e s f =
    let o = opened g.terms amount g.date j (Some b) b (sym r) in
    let pays = card_next (Some b) g amount space j h b r ∙ e in
    let d = book_done j p.pan p.label amount b (card_fine g p e) o.some o.serials o.slot in
    let w = book_wrote (Some b) j p.pan p.label amount clock (b + 1) x k s d f in
    let says : Outcome ℕ → Outcome Receipt = λ o. and_then o (λ n. gives (receipt n p.left)) in
    record { answer = ap says w.0 ∙ rw pays; journal = w.1 ∙ rw pays }

-- the scratch: kept where it is short, else cleared, whatever the reading left in its front
pub kept_short : (n : ℕ) (t : List ℕ) → length t < n → t ≡ swipe_scratch n t
unfolding swipe_scratch
kept_short n t h = simp (lt-leb n (length t) h)

pub cleared : (n m : ℕ) (t s z : List ℕ) → n ≡ m → n ≤ length t → drop m s ≡ drop m t → z ≡ replicate n 0 → z ++ drop n s ≡ swipe_scratch m t
unfolding swipe_scratch put
cleared n m t s z is h e f =
    let k : 0 + length {A = ℕ} (replicate m 0) ≡ m = omega (arith, length-replicate {A = ℕ} m 0) in
    ap (λ (l : List ℕ). l ++ drop n s) f ∙ ap (λ (x : ℕ). replicate x 0 ++ drop x s) is ∙ ap (λ (l : List ℕ). replicate m 0 ++ l) e
    ∙ sym (ap (λ (x : ℕ). replicate m 0 ++ drop x t) k) ∙ simp (le-leb m (length t) (omega arith))
