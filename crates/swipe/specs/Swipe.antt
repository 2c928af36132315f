-- One swipe, from the stripe to the journal (document 01, 'The swipe'; requests E1, for cards on track 1, E7, for expired ones, and E8, for blocked
-- ones).
use Rattle.std.specs.Prelude.{ℕ, ◌≤◌, ◌≡◌, not, cond, List, leb, eqb, length, replicate, Option, Result}
use Rattle.text.specs.Numbers.{put}
use Rattle.reasons.specs.Reasons.{Outcome, gives, demand, and_then, after, said}
use Rattle.ranges.specs.Ranges.{table_ok}
use Rattle.hotlist.specs.Hotlist.{list_ok}
use Rattle.dates.specs.Dates.{real}
use Rattle.dates.specs.declared.Date.{Date}
use Rattle.slots.specs.Journal.{NewestIs}
use Rattle.slots.specs.Views.{formed, newest}
use Rattle.journal.specs.Rules.{full, book_rule, book_bytes}
use Rattle.reasons.specs.declared.Reason.{Reason}
use Rattle.swipe.specs.declared.Receipt.{Receipt}
use Rattle.payer.specs.Payer.{room, Terms, Given, Payer, card_rule}

-- of the box, before any card: "16, 14, 17, 19, 18", with 21 "just after 14" and 23 "just after 17"; it gives the newest serial, behind which a
-- payment is booked
unfoldable pub box_rule : Option ℕ → Terms → ℕ → Date → List ℕ → Outcome ℕ
box_rule m t amount a j =
    demand (formed m) 16
    (demand (table_ok t.site) 14
    (demand (table_ok t.acquirer) 14
    (demand (list_ok t.hot t.digits) 21
    (demand (not (eqb amount 0)) 17
    (demand (real a) 23
    (demand (not (eqb (newest m) 4294967295)) 19
    (demand (not (full j)) 18
    (gives (newest m)))))))))

-- "scratch under 37 (1), 16, 14, 17, 19, 18", with 21 and 23, and so many bytes of scratch
unfoldable pub ready_rule : Option ℕ → Given → ℕ → ℕ → List ℕ → Outcome ℕ
ready_rule m g amount space j = demand (leb (room g.track) space) 1 (box_rule m g.terms amount g.date j)

-- "Order: scratch under 37 (1), 16, 14, 17, 19, 18, then the reading's refusals, layout 6, Luhn 4, 15", with 21 to 24 in their places
unfoldable pub swipe_rule : Option ℕ → Given → ℕ → ℕ → List ℕ → Outcome Payer
swipe_rule m g amount space j = and_then (ready_rule m g amount space j) (λ _. card_rule g)

-- what a booked swipe answers: the serial, and it "also answers the days left"
abbrev pub receipt : ℕ → Option ℕ → Receipt
receipt s d = record { serial = s; left = d }

-- "then it books with that record's label": the answer, and the journal afterwards
unfoldable pub swipe_answer : Option ℕ → Given → ℕ → ℕ → List ℕ → Outcome Receipt
swipe_answer m g amount space j =
    and_then (swipe_rule m g amount space j)
    (λ p. and_then (book_rule m j p.pan p.label amount)
    (λ s. gives (receipt s p.left)))

unfoldable pub swipe_bytes : Option ℕ → Given → ℕ → ℕ → ℕ → List ℕ → List ℕ
swipe_bytes m g amount space clock j = after (swipe_rule m g amount space j) j (λ p. book_bytes m j p.pan p.label amount clock)

-- "After any answer but 1, the first 37 scratch bytes are zero; no others change, and 1 changes none": n of them
unfoldable pub swipe_scratch : ℕ → List ℕ → List ℕ
swipe_scratch n t = cond (leb n (length t)) (put t 0 (replicate n 0)) t

-- ---- what a swipe allows

-- r is the answer and k the journal after a swipe of a journal j whose view is m, with so many bytes of scratch
pub record Charges (m : Option ℕ) (g : Given) (amount clock space : ℕ) (j : List ℕ) (r : Result Receipt Reason) (k : List ℕ) : Type 0 where
  pub answer : said r ≡ swipe_answer m g amount space j
  pub journal : k ≡ swipe_bytes m g amount space clock j

-- what a swipe allows: the answer r, the scratch u and the journal k, where it was lent the scratch t and the journal j. The journal is looked at
-- only where the scratch is long enough, so that only then `view` is the journal's
pub record Swipes (g : Given) (amount clock : ℕ) (t j : List ℕ) (r : Result Receipt Reason) (u k : List ℕ) : Type 0 where
  pub view : Option ℕ
  pub is : room g.track ≤ length t → NewestIs j view
  pub so : Charges view g amount clock (length t) j r k
  pub scratch : u ≡ swipe_scratch (room g.track) t
