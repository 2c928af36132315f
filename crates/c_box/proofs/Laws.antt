-- Any two outcomes that a function on the journal, the swipe and the host's ledger allows are equal: the number answered, what stands behind its
-- pointers, and each byte that it may write.
use Prim.Native.Nat.{ℕ}
use mathlib.Core.Path.{◌≡◌}
use mathlib.Core.List.{List}
use Rattle.slots.proofs.Views.{one_view}
use Rattle.held.proofs.Laws.{one_finding, one_telling}
use Rattle.journal.proofs.Laws.{one_booking, one_release}
use Rattle.surveys.proofs.Surveys.{one_survey}
use Rattle.payer.specs.Payer.{Given}
use Rattle.swipe.proofs.Laws as swipe
use Rattle.ledger.proofs.Laws.{take_one}
use Rattle.hands.proofs.Laws.{hands_one, hands_on_one, hands_on_bytes}
use Rattle.c_box.specs.Calls.{JournalBooks, JournalReleases, JournalShows, JournalTells, JournalSurveys}
use Rattle.c_box.specs.Calls.{JournalWalks, WalkStarts, WalkSteps, SwipeNumbers, Swipes, LedgerTakes}

-- journal_book
pub journal_book_one : (j pan : List ℕ) (label amount clock x r q y z : ℕ) (k l : List ℕ)
    → JournalBooks j pan label amount clock x r y k → JournalBooks j pan label amount clock x q z l → (r ≡ q) × (y ≡ z) × (k ≡ l)
journal_book_one j pan label amount clock x r q y z k l f g =
    hands_on_bytes f g (one_booking j pan label amount clock _ _ k l f.allowed g.allowed)

-- journal_release
pub journal_release_one : (j : List ℕ) (serial : ℕ) (x : ℕ × ℕ) (r q : ℕ) (y z : ℕ × ℕ) (k l : List ℕ)
    → JournalReleases j serial x r y k → JournalReleases j serial x q z l → (r ≡ q) × (y ≡ z) × (k ≡ l)
journal_release_one j serial x r q y z k l f g = hands_on_bytes f g (one_release j serial _ _ k l f.allowed g.allowed)

-- journal_show
pub journal_show_one : (j : List ℕ) (serial x r q y z : ℕ) → JournalShows j serial x r y → JournalShows j serial x q z → (r ≡ q) × (y ≡ z)
journal_show_one j serial x r q y z f g = hands_on_one f g (one_finding j serial _ _ f.allowed g.allowed)

-- journal_tell
pub journal_tell_one : (j : List ℕ) (x : ℕ × ℕ × ℕ × ℕ) (r q : ℕ) (y z : ℕ × ℕ × ℕ × ℕ)
    → JournalTells j x r y → JournalTells j x q z → (r ≡ q) × (y ≡ z)
journal_tell_one j x r q y z f g = hands_on_one f g (one_telling j _ _ f.allowed g.allowed)

-- journal_walk
pub journal_walk_one : (j : List ℕ) (above : ℕ) (x : ℕ × ℕ) (r q : ℕ) (y z : ℕ × ℕ)
    → JournalWalks j above x r y → JournalWalks j above x q z → (r ≡ q) × (y ≡ z)
journal_walk_one j above x r q y z f g = let w = one_view j f g in hands_one w.1 w.2

-- walk_start
pub walk_start_one : (j : List ℕ) (x r q y z : ℕ) → WalkStarts j x r y → WalkStarts j x q z → (r ≡ q) × (y ≡ z)
walk_start_one j x r q y z f g = let w = one_view j f g in hands_one w.1 w.2

-- walk_step
pub walk_step_one : (j : List ℕ) (serial : ℕ) (x : ℕ × ℕ) (r q : ℕ) (y z : ℕ × ℕ)
    → WalkSteps j serial x r y → WalkSteps j serial x q z → (r ≡ q) × (y ≡ z)
walk_step_one j serial x r q y z f g = hands_one f g

-- journal_survey
pub journal_survey_one : (j out : List ℕ) (x r q y z : ℕ) (k l : List ℕ)
    → JournalSurveys j out x r y k → JournalSurveys j out x q z l → (r ≡ q) × (y ≡ z) × (k ≡ l)
journal_survey_one j out x r q y z k l f g = hands_on_bytes f g (one_survey j out _ _ k l f.allowed g.allowed)

-- swipe, of either track
pub swipe_one : (g : Given) (amount clock : ℕ) (t j : List ℕ) (x : SwipeNumbers) (r q : ℕ) (y z : SwipeNumbers) (u v k l : List ℕ)
    → Swipes g amount clock t j x r y u k → Swipes g amount clock t j x q z v l → (r ≡ q) × (y ≡ z) × (u ≡ v) × (k ≡ l)
swipe_one g amount clock t j x r q y z u v k l f h =
    let s = swipe.swipe_one g amount clock t j _ _ u v k l f.allowed h.allowed in
    let n = hands_on_one f h s.0 in
    (n.0, n.1, s.1, s.2)

-- ledger_take
pub ledger_take_one : (message : List ℕ) (x : ℕ × ℕ) (r q : ℕ) (y z : ℕ × ℕ)
    → LedgerTakes message x r y → LedgerTakes message x q z → (r ≡ q) × (y ≡ z)
ledger_take_one message x r q y z f g = hands_on_one f g (take_one _ message _ _ f.allowed g.allowed)
