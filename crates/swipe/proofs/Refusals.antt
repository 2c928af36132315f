-- "Order: scratch under 37 (1), 16, 14, 17, 19, 18, then the reading's refusals, layout 6, Luhn 4, 15", "in the same order, with 76 bytes of
-- scratch", with 21 "just after 14", 23 "just after 17", 24 "just after 15" and 22 "the last check before receipt": each is given exactly when its
-- condition is the first to hold, on either track.
use Rattle.std.proofs.Common.{Option}
use Prim.Native.Nat.{ℕ, ◌+◌}
use mathlib.Core.Path.{◌≡◌, refl, sym, ap, ◌∙◌}
use mathlib.Core.Bool.{not}
use mathlib.Core.Logic.{◌↔◌}
use mathlib.Core.List.{List}
use lib.Dec.{leb, eqb}
use Rattle.reasons.specs.Reasons.{Outcome, gives, refuses, and_then}
use Rattle.reasons.proofs.Laws.{First, gives_refuses, refused_number, follows_exactly}
use Rattle.ranges.specs.Ranges.{table_ok}
use Rattle.hotlist.specs.Hotlist.{list_ok}
use Rattle.dates.specs.Dates.{real}
use Rattle.slots.specs.Views.{formed, newest}
use Rattle.journal.specs.Rules.{full, book_rule}
use Rattle.payer.specs.Payer.{room, Given, Payer}
use Rattle.swipe.specs.Swipe.{box_rule, ready_rule, swipe_rule, receipt, swipe_answer}
use Rattle.swipe.specs.declared.Receipt.{Receipt}
use Rattle.swipe.proofs.Laws.{is_booked}
use Rattle.payer.proofs.Refusals.{CardRefuses, card_refuses}

module _ (m : Option ℕ) (g : Given) (amount space : ℕ) (j : List ℕ) (n : ℕ) where
  pub swipe_refuses : (swipe_rule m g amount space j ≡ refuses n) ↔
      First (leb (room g.track) space) 1 n
      (First (formed m) 16 n
      (First (table_ok g.terms.site) 14 n
      (First (table_ok g.terms.acquirer) 14 n
      (First (list_ok g.terms.hot g.terms.digits) 21 n
      (First (not (eqb amount 0)) 17 n
      (First (real g.date) 23 n
      (First (not (eqb (newest m) 4294967295)) 19 n
      (First (not (full j)) 18 n
      (CardRefuses g n)))))))))
  unfolding swipe_rule ready_rule box_rule
  swipe_refuses =
      follows_exactly _ 1 _ _ n
      (follows_exactly _ 16 _ _ n
      (follows_exactly _ 14 _ _ n
      (follows_exactly _ 14 _ _ n
      (follows_exactly _ 21 _ _ n
      (follows_exactly _ 17 _ _ n
      (follows_exactly _ 23 _ _ n
      (follows_exactly _ 19 _ _ n
      (follows_exactly _ 18 _ _ n (card_refuses g n)))))))))

  -- "then it books": the receipt itself refuses nothing more
  pub answer_refuses : (swipe_answer m g amount space j ≡ refuses n) ↔ (swipe_rule m g amount space j ≡ refuses n)
  unfolding swipe_answer
  answer_refuses = (by (swipe_rule m g amount space j) refl, λ e. rw e)
    where
      answer : Payer → Outcome Receipt
      answer p = and_then (book_rule m j p.pan p.label amount) (λ s. gives (receipt s p.left))

      booked : (p : Payer) → swipe_rule m g amount space j ≡ gives p → answer p ≡ gives (receipt (newest m + 1) p.left)
      booked p e = rw (is_booked m g amount space j p e)

      by : (o : Outcome Payer) → swipe_rule m g amount space j ≡ o → and_then o answer ≡ refuses n → o ≡ refuses n
      by (gives p) e h = gives_refuses (receipt (newest m + 1) p.left) n (sym (booked p e) ∙ h)
      by (refuses k) e h = ap {B = Outcome Payer} refuses (refused_number k n h)
