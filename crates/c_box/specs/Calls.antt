-- What each function on the journal, the swipe and the host's ledger allows, in the header's order.
use Rattle.std.specs.Prelude.{ℕ, List, Option, Some, None}
use Rattle.reasons.specs.Reasons.{said}
use Rattle.stream.specs.Stream.{bit_n}
use Rattle.slots.specs.Views.{Seen}
use Rattle.held.specs.Rules.{Finds, TellsOf}
use Rattle.journal.specs.Rules.{Books, Releases}
use Rattle.surveys.specs.Survey.{Surveys}
use Rattle.walker.specs.Steps.{walk_rule, start_rule, step_rule}
use Rattle.payer.specs.Payer.{Given}
use Rattle.swipe.specs.Swipe as swipe
use Rattle.ledger.specs.Ledger.{Takes}
use Rattle.hands.specs.Hands.{Hands, HandsOn}

-- ---- the journal

abbrev pub JournalBooks : List ℕ → List ℕ → ℕ → ℕ → ℕ → ℕ → ℕ → ℕ → List ℕ → Type 0
JournalBooks j pan label amount clock x r y k = HandsOn (λ q. Books j pan label amount clock q k) said x (λ v. v) r y

abbrev pub JournalReleases : List ℕ → ℕ → ℕ × ℕ → ℕ → ℕ × ℕ → List ℕ → Type 0
JournalReleases j serial x r y k = HandsOn (λ q. Releases j serial q k) said x (λ t. (t.count, t.sum)) r y

abbrev pub JournalShows : List ℕ → ℕ → ℕ → ℕ → ℕ → Type 0
JournalShows j serial x r y = HandsOn (Finds j serial) said x (λ v. v) r y

abbrev pub JournalTells : List ℕ → ℕ × ℕ × ℕ × ℕ → ℕ → ℕ × ℕ × ℕ × ℕ → Type 0
JournalTells j x r y = HandsOn (TellsOf j) said x (λ t. (t.count, t.sum, t.oldest, t.newest)) r y

abbrev pub JournalWalks : List ℕ → ℕ → ℕ × ℕ → ℕ → ℕ × ℕ → Type 0
JournalWalks j above x r y = Seen j (λ m. Hands (walk_rule m j above) x (λ v. v) r y)

abbrev pub WalkStarts : List ℕ → ℕ → ℕ → ℕ → Type 0
WalkStarts j x r y = Seen j (λ m. Hands (start_rule m j) x (λ v. v) r y)

abbrev pub WalkSteps : List ℕ → ℕ → ℕ × ℕ → ℕ → ℕ × ℕ → Type 0
WalkSteps j serial x r y = Hands (step_rule j serial) x (λ v. v) r y

abbrev pub JournalSurveys : List ℕ → List ℕ → ℕ → ℕ → ℕ → List ℕ → Type 0
JournalSurveys j out x r y k = HandsOn (λ q. Surveys j out q k) said x bit_n r y

-- ---- the swipes, of the track that is given: u is the scratch, lent as t, and k the journal, lent as j

-- behind the pointers to the serial, to whether the card expires, and to the days left
abbrev pub SwipeNumbers : Type 0
SwipeNumbers = ℕ × ℕ × ℕ

-- 1 and the days left; 0 for a card without an expiry, and the days stay
abbrev pub swipe_numbers : SwipeNumbers → ℕ → Option ℕ → SwipeNumbers
swipe_numbers x serial (Some n) = (serial, 1, n)
swipe_numbers x serial None = (serial, 0, x.2)

abbrev pub Swipes : Given → ℕ → ℕ → List ℕ → List ℕ → SwipeNumbers → ℕ → SwipeNumbers → List ℕ → List ℕ → Type 0
Swipes g amount clock t j x r y u k = HandsOn (λ q. swipe.Swipes g amount clock t j q u k) said x (λ b. swipe_numbers x b.serial b.left) r y

-- ---- the host's ledger, whose two numbers are lent

abbrev pub LedgerTakes : List ℕ → ℕ × ℕ → ℕ → ℕ × ℕ → Type 0
LedgerTakes message x r y = HandsOn (Takes (record { taken = x.0; total = x.1 }) message) said x (λ l. (l.taken, l.total)) r y
