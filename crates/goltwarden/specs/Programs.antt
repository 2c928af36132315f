-- Programs in C: calls of the interface that are lent a journal, made one after another, and the calls of `history` that they are.
use Rattle.std.specs.Prelude.{ℕ, ◌<◌, ◌≡◌, List, [], ◌∷◌}
use Rattle.reasons.specs.Reasons.{said}
use Rattle.stream.specs.Stream.{bit_n}
use Rattle.slots.specs.Journal.{SameButClocks}
use Rattle.payer.specs.Payer.{Given}
use Rattle.history.specs.History.{Call, book, swipe, release, reads, find, tell, survey, walk_above, walk_first, walk_step, AnswerTo, Done}
use Rattle.hands.specs.Hands.{Hands}
use Rattle.c_box.specs.Calls.{JournalBooks, JournalReleases, JournalShows, JournalTells, JournalWalks, WalkStarts, WalkSteps, JournalSurveys}
use Rattle.c_box.specs.Calls.{SwipeNumbers, swipe_numbers, Swipes}

-- ---- one call

-- what a call is given, but the journal, the clock reading and what it is lent to write
pub data Asks : Type 0 where
  books : (pan : List ℕ) (label amount : ℕ) → Asks
  releases : (serial : ℕ) → Asks
  shows : (serial : ℕ) → Asks
  tells : Asks
  walks : (above : ℕ) → Asks
  starts : Asks
  steps : (serial : ℕ) → Asks
  surveys : Asks
  swipes : (card : Given) (amount : ℕ) → Asks

-- what it is lent to write beside the journal: the numbers behind its pointers, and the bytes of its output or scratch
abbrev pub Lent : Asks → Type 0
Lent (books pan label amount) = ℕ
Lent (releases s) = ℕ × ℕ
Lent (shows s) = ℕ
Lent tells = ℕ × ℕ × ℕ × ℕ
Lent (walks s) = ℕ × ℕ
Lent starts = ℕ
Lent (steps s) = ℕ × ℕ
Lent surveys = ℕ × List ℕ
Lent (swipes card amount) = SwipeNumbers × List ℕ

-- what the interface promises of it, made at a clock reading on a journal j and lent x: it answers r and leaves y and the journal k. An amount is a
-- number of 32 bits, and a call that is lent a const journal leaves it
abbrev pub Promised : List ℕ → ℕ → (a : Asks) → Lent a → ℕ → Lent a → List ℕ → Type 0
Promised j clock (books pan label amount) x r y k = (amount < 4294967296) × JournalBooks j pan label amount clock x r y k
Promised j clock (releases s) x r y k = JournalReleases j s x r y k
Promised j clock (shows s) x r y k = JournalShows j s x r y × (k ≡ j)
Promised j clock tells x r y k = JournalTells j x r y × (k ≡ j)
Promised j clock (walks s) x r y k = JournalWalks j s x r y × (k ≡ j)
Promised j clock starts x r y k = WalkStarts j x r y × (k ≡ j)
Promised j clock (steps s) x r y k = WalkSteps j s x r y × (k ≡ j)
Promised j clock surveys x r y k = JournalSurveys j x.1 x.0 r y.0 y.1 × (k ≡ j)
Promised j clock (swipes card amount) x r y k = (amount < 4294967296) × Swipes card amount clock x.1 j x.0 r y.0 y.1 k

-- the call of `history` that it is
abbrev pub call_of : (a : Asks) → Lent a → Call
call_of (books pan label amount) x = book pan label amount
call_of (releases s) x = release s
call_of (shows s) x = reads (find s)
call_of tells x = reads tell
call_of (walks s) x = reads (walk_above s)
call_of starts x = reads walk_first
call_of (steps s) x = reads (walk_step s)
call_of surveys x = reads (survey x.1)
call_of (swipes card amount) x = swipe card amount x.1

-- C is handed what that call's answer q says
abbrev pub Hears : (a : Asks) (x : Lent a) → AnswerTo (call_of a x) → ℕ → Lent a → Type 0
Hears (books pan label amount) x q r y = Hands (said q) x (λ v. v) r y
Hears (releases s) x q r y = Hands (said q) x (λ t. (t.count, t.sum)) r y
Hears (shows s) x q r y = Hands (said q) x (λ v. v) r y
Hears tells x q r y = Hands (said q) x (λ t. (t.count, t.sum, t.oldest, t.newest)) r y
Hears (walks s) x q r y = Hands q x (λ v. v) r y
Hears starts x q r y = Hands q x (λ v. v) r y
Hears (steps s) x q r y = Hands q x (λ v. v) r y
Hears surveys x q r y = Hands (said q.says) x.0 bit_n r y.0 × (y.1 ≡ q.states)
Hears (swipes card amount) x q r y = Hands (said q.says) x.0 (λ b. swipe_numbers x.0 b.serial b.left) r y.0 × (y.1 ≡ q.scratch)

-- ---- calls one after another

-- a call that was made: when, which, what it was lent, the number answered, what it left there, and the journal after it
pub record Made : Type 0 where
  pub clock : ℕ
  pub asks : Asks
  pub lent : Lent asks
  pub number : ℕ
  pub left : Lent asks
  pub after : List ℕ

-- a program that leads from the journal j to the journal k
pub data Program : List ℕ → List Made → List ℕ → Type 0 where
  no_call : {j : List ℕ} → Program j [] j
  one_call : {j k : List ℕ} {ms : List Made} (m : Made) → Promised j m.clock m.asks m.lent m.number m.left m.after
      → Program m.after ms k → Program j (m ∷ ms) k

-- the calls of `history` that a program's calls are, each with the answer that C was handed
pub data Heard : List Made → List Done → Type 0 where
  none_heard : Heard [] []
  one_heard : {ms : List Made} {ds : List Done} (m : Made) (q : AnswerTo (call_of m.asks m.lent))
      → Hears m.asks m.lent q m.number m.left → Heard ms ds
      → Heard (m ∷ ms) (record { clock = m.clock; call = call_of m.asks m.lent; answer = q; after = m.after } ∷ ds)

-- ---- the same calls at any clock readings

pub data SameAsks : List Made → List Made → Type 0 where
  no_asks : SameAsks [] []
  same_asks : {a : Asks} {x y z : Lent a} {t u r q : ℕ} {k l : List ℕ} {ms ns : List Made} → SameAsks ms ns
      → SameAsks (record { clock = t; asks = a; lent = x; number = r; left = y; after = k } ∷ ms)
      (record { clock = u; asks = a; lent = x; number = q; left = z; after = l } ∷ ns)

-- call by call the same number answered and the same left, and after each the same journal but for its clock fields
pub data SameLeft : List Made → List Made → Type 0 where
  nothing_left : SameLeft [] []
  same_left : {a : Asks} {x y z : Lent a} {t u r q : ℕ} {k l : List ℕ} {ms ns : List Made} → r ≡ q → y ≡ z → SameButClocks k l → SameLeft ms ns
      → SameLeft (record { clock = t; asks = a; lent = x; number = r; left = y; after = k } ∷ ms)
      (record { clock = u; asks = a; lent = x; number = q; left = z; after = l } ∷ ns)

-- ---- walks: a step that was answered 0, whatever stood behind its pointers

abbrev pub WalksTo : List ℕ → ℕ → ℕ × ℕ → Type 0
WalksTo j above y = (x : ℕ × ℕ) × JournalWalks j above x 0 y

abbrev pub StepsTo : List ℕ → ℕ → ℕ × ℕ → Type 0
StepsTo j serial y = (x : ℕ × ℕ) × WalkSteps j serial x 0 y
