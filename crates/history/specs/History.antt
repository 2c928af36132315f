-- Demand 3. Start from an all-zero journal of 1 to 2,048 slots, written only by booking, release and swipe, each lent it whole as its journal:
-- what holds after any sequence of calls, refused ones and reading ones among them. Points 1 to 3 are `Demand3`, point 4 is `SameOutcomes`;
-- proofs/Laws.antt has the theorems `demand_3` and `clocks_decide_nothing`.
use Rattle.std.specs.Prelude.{ℕ, zero, suc, max, ◌+◌, ◌≤◌, ◌<◌, ◌≡◌, Bool, true, Result, Ok, Err, List, [], ◌∷◌, ◌++◌, map, ltb, length, take, drop, Some}
use Rattle.std.specs.Borrow.{Bor}
use Rattle.text.specs.Bytes.{within}
use Rattle.slots.specs.Record.{record32}
use Rattle.slots.specs.Journal.{NewestIs, SameButClocks}
use Rattle.held.specs.Held.{held_list, sum_of, SameRecord}
use Rattle.held.specs.Rules.{Finds, Shows, ShowsOf, NumberOfShow, TellsOf, held_in}
use Rattle.journal.specs.Rules.{Books, Releases}
use Rattle.surveys.specs.Survey.{Surveys}
use Rattle.journal.specs.declared.Released.{Released}
use Rattle.held.specs.declared.Told.{Told}
use Rattle.walker.specs.Walk.{held_rule, next_of, StartsAt, StartNumber}
use Rattle.walker.specs.Steps.{walk_rule, start_rule, step_rule}
use Rattle.slots.specs.Views.{Seen}
use Rattle.reasons.specs.Reasons.{Outcome, after}
use Rattle.payer.specs.Payer.{Given, Payer, card_rule}
use Rattle.reasons.specs.declared.Reason.{Reason}
use Rattle.swipe.specs.Swipe.{Swipes}
use Rattle.swipe.specs.declared.Receipt.{Receipt}

-- ---- the calls

-- the reading calls: find, show, tell and survey; the steps of a walker, which starts, gives the record of its serial, and moves on from there;
-- and those of a walk by serials: the first record above one, and a start with steps from serial to serial
pub data Question : Type 0 where
  find : (serial : ℕ) → Question
  show : (serial : ℕ) → Question
  show_number : (serial : ℕ) → Question
  tell : Question
  survey : (states : List ℕ) → Question
  walk_start : Question
  walk_number : Question
  walk_record : (next : ℕ) → Question
  walk_on : (next : ℕ) → Question
  walk_above : (serial : ℕ) → Question
  walk_first : Question
  walk_step : (serial : ℕ) → Question

-- a call, with all that it is given but the clock reading and the journal
pub data Call : Type 0 where
  book : (pan : List ℕ) (label amount : ℕ) → Call
  swipe : (card : Given) (amount : ℕ) (scratch : List ℕ) → Call
  release : (serial : ℕ) → Call
  reads : Question → Call
  -- a call that is not lent the journal: a look-up, a test
  aside : Call

-- a part of the journal that was handed out: where in the journal it begins, and its bytes
pub record Part : Type 0 where
  pub at : ℕ
  pub bytes : List ℕ

-- what a swipe answers, and its scratch afterwards
pub record Swipe : Type 0 where
  pub says : Result Receipt Reason
  pub scratch : List ℕ

-- what a survey answers, and the bytes of its output afterwards
pub record Survey : Type 0 where
  pub says : Result Bool Reason
  pub states : List ℕ

-- what a call answers
abbrev pub ReplyTo : Question → Type 0
ReplyTo (find s) = Result ℕ Reason
ReplyTo (show s) = Part
ReplyTo (show_number s) = ℕ
ReplyTo tell = Result Told Reason
ReplyTo (survey t) = Survey
ReplyTo walk_start = ℕ
ReplyTo walk_number = ℕ
ReplyTo (walk_record s) = Part
ReplyTo (walk_on s) = ℕ
ReplyTo (walk_above s) = Outcome (ℕ × ℕ)
ReplyTo walk_first = Outcome ℕ
ReplyTo (walk_step s) = Outcome (ℕ × ℕ)

abbrev pub AnswerTo : Call → Type 0
AnswerTo (book pan label amount) = Result ℕ Reason
AnswerTo (swipe card amount scratch) = Swipe
AnswerTo (release s) = Result Released Reason
AnswerTo (reads q) = ReplyTo q
AnswerTo aside = Unit {0}

-- wherever the journal j lies in memory, p is the part of it that the promise P allows
pub record HandsOut (j : List ℕ) (P : Bor (List ℕ) → Bor (List ℕ) → Type 0) (p : Part) : Type 0 where
  pub journal : Bor (List ℕ)
  pub lent : journal.now ≡ j
  pub part : Bor (List ℕ)
  pub promised : P journal part
  pub place : part.ref_ptr.1 ≡ journal.ref_ptr.1 + p.at
  pub same : part.now ≡ p.bytes

-- the promise of each call: what it allows as answer, made at a clock reading on a journal j, and as the journal's bytes k afterwards
abbrev pub Replies : List ℕ → (q : Question) → ReplyTo q → Type 0
Replies j (find s) r = Finds j s r
Replies j (show s) p = HandsOut j (λ i r. ShowsOf i s r) p
Replies j (show_number s) x = NumberOfShow j s x
Replies j tell r = TellsOf j r
Replies j (survey t) r = Surveys j t r.says r.states
Replies j walk_start s = StartsAt j s
Replies j walk_number x = StartNumber j x
Replies j (walk_record s) p = HandsOut j (λ i r. Shows i (held_rule i.now s) r) p
Replies j (walk_on s) x = x ≡ next_of j s
Replies j (walk_above s) o = Seen j (λ m. o ≡ walk_rule m j s)
Replies j walk_first o = Seen j (λ m. o ≡ start_rule m j)
Replies j (walk_step s) o = o ≡ step_rule j s

abbrev pub Does : List ℕ → ℕ → (c : Call) → AnswerTo c → List ℕ → Type 0
Does j clock (book pan label amount) r k = (amount < 4294967296) × Books j pan label amount clock r k
Does j clock (swipe card amount scratch) r k = (amount < 4294967296) × Swipes card amount clock scratch j r.says r.scratch k
Does j clock (release s) r k = Releases j s r k
Does j clock (reads q) r k = Replies j q r × (k ≡ j)
Does j clock aside r k = k ≡ j

-- a call that was made: when, which, what it answered, and the journal's bytes after it
pub record Done : Type 0 where
  pub clock : ℕ
  pub call : Call
  pub answer : AnswerTo call
  pub after : List ℕ

-- calls made one after another, from the journal j to the journal k
pub data Run : List ℕ → List Done → List ℕ → Type 0 where
  no_more : {j : List ℕ} → Run j [] j
  next : {j k : List ℕ} {ds : List Done} (d : Done) → Does j d.clock d.call d.answer d.after → Run d.after ds k → Run j (d ∷ ds) k

-- ---- what the answers say was booked and released

pub record Payment : Type 0 where
  pub serial : ℕ
  pub clock : ℕ
  pub amount : ℕ
  pub label : ℕ
  pub pan : List ℕ

-- its record, as it is booked
abbrev pub record_of : Payment → List ℕ
record_of p = record32 p.serial p.clock p.amount p.label p.pan

-- a call booked a payment; or it released, up to a serial, so many of such a sum; or it was refused or a reading call
pub data Effect : Type 0 where
  booked_one : Payment → Effect
  released_to : (serial count sum : ℕ) → Effect
  nothing : Effect

abbrev pub of_booking : Result ℕ Reason → ℕ → ℕ → ℕ → List ℕ → Effect
of_booking (Ok s) clock amount label pan = booked_one (record { serial = s; clock = clock; amount = amount; label = label; pan = pan })
of_booking (Err x) clock amount label pan = nothing

-- a swipe booked where it answers a serial, by that answer alone; with the PAN and the label that its card says, none where the card is refused
-- (a serial is never answered for such a card: `swiped_card` of `swipe`)
abbrev pub of_swipe : Result Receipt Reason → Outcome Payer → ℕ → ℕ → Effect
of_swipe (Ok r) card clock amount = of_booking (Ok r.serial) clock amount (after card 0 (λ p. p.label)) (after card [] (λ p. p.pan))
of_swipe (Err x) card clock amount = nothing

abbrev pub of_release : Result Released Reason → ℕ → Effect
of_release (Ok d) s = released_to s d.count d.sum
of_release (Err x) s = nothing

abbrev pub effect : ℕ → (c : Call) → AnswerTo c → Effect
effect clock (book pan label amount) r = of_booking r clock amount label pan
effect clock (swipe card amount scratch) r = of_swipe r.says (card_rule card) clock amount
effect clock (release s) r = of_release r s
effect clock (reads q) r = nothing
effect clock aside r = nothing

abbrev pub effect_of : Done → Effect
effect_of d = effect d.clock d.call d.answer

abbrev pub booked_in : Effect → List Payment
booked_in (booked_one p) = p ∷ []
booked_in (released_to s c y) = []
booked_in nothing = []

abbrev pub serial_in : Effect → ℕ
serial_in (booked_one p) = 0
serial_in (released_to s c y) = s
serial_in nothing = 0

abbrev pub count_in : Effect → ℕ
count_in (booked_one p) = 0
count_in (released_to s c y) = c
count_in nothing = 0

abbrev pub sum_in : Effect → ℕ
sum_in (booked_one p) = 0
sum_in (released_to s c y) = y
sum_in nothing = 0

-- the payments answered as booked, in order
unfoldable pub booked : List Done → List Payment
booked [] = []
booked (d ∷ ds) = booked_in (effect_of d) ++ booked ds

-- the highest serial of any release not refused, 0 for none
unfoldable pub highest : List Done → ℕ
highest [] = 0
highest (d ∷ ds) = max (serial_in (effect_of d)) (highest ds)

-- the counts and the sums that the releases answered, added up
unfoldable pub freed_count : List Done → ℕ
freed_count [] = 0
freed_count (d ∷ ds) = count_in (effect_of d) + freed_count ds

unfoldable pub freed_sum : List Done → ℕ
freed_sum [] = 0
freed_sum (d ∷ ds) = sum_in (effect_of d) + freed_sum ds

-- the amounts of payments, added up
unfoldable pub takings : List Payment → ℕ
takings [] = 0
takings (p ∷ ps) = p.amount + takings ps

-- the released payments are those up to the highest serial of any release not refused; the others are waiting
abbrev pub released : List Done → List Payment
released ds = take (highest ds) (booked ds)

abbrev pub waiting : List Done → List Payment
waiting ds = drop (highest ds) (booked ds)

-- the m serials after low: low + 1, low + 2 and so on
unfoldable pub up_from : ℕ → ℕ → List ℕ
up_from low zero = []
up_from low (suc m) = (low + 1) ∷ up_from (low + 1) m

-- ---- demand 3, points 1 to 3

-- what holds of the calls ds, made from an all-zero journal, and of the journal j that they left
pub record Demand3 (ds : List Done) (j : List ℕ) : Type 0 where
  -- 1. the amounts booked add up to the amounts still held, which the journal's own bytes say, plus those that the releases answered
  pub amounts : takings (booked ds) ≡ sum_of (held_list j (length (booked ds))) + freed_sum ds
  -- 2. the released ones are those up to the highest serial of any release not refused
  pub summed : freed_sum ds ≡ takings (released ds)
  pub counted : freed_count ds ≡ length (released ds)
  -- the held ones, read off the bytes by rising serial, are all the others, in booking order, each as it was booked
  pub held : held_list j (length (booked ds)) ≡ map record_of (waiting ds)
  -- 3. no payment is lost or made up: serials run 1, 2, 3 without a gap, and the journal is well formed with the last of them
  pub serials : map (λ (p : Payment). p.serial) (booked ds) ≡ up_from 0 (length (booked ds))
  pub formed : NewestIs j (Some (length (booked ds)))
  pub reach : highest ds ≤ length (booked ds)
  -- each booked payment is held or released, never both
  pub either : (s : ℕ) → within 1 (length (booked ds)) s ≡ true → held_in j (length (booked ds)) s ≡ ltb (highest ds) s

-- ---- demand 3, point 4

-- the same calls, with the same arguments, at any clock readings
pub data SameCalls : List Done → List Done → Type 0 where
  no_calls : SameCalls [] []
  same_call : {c : Call} {t u : ℕ} {a b : AnswerTo c} {k l : List ℕ} {ds es : List Done} → SameCalls ds es
      → SameCalls (record { clock = t; call = c; answer = a; after = k } ∷ ds) (record { clock = u; call = c; answer = b; after = l } ∷ es)

-- parts that begin at one place and are the same but for a record's clock field
pub record SamePart (p q : Part) : Type 0 where
  pub place : p.at ≡ q.at
  pub size : length p.bytes ≡ length q.bytes
  pub bytes : SameRecord p.bytes q.bytes

-- the same answer, a record handed out but for its clock field
abbrev pub SameReply : (q : Question) → ReplyTo q → ReplyTo q → Type 0
SameReply (find s) r q = r ≡ q
SameReply (show s) p q = SamePart p q
SameReply (show_number s) x y = x ≡ y
SameReply tell r q = r ≡ q
SameReply (survey t) r q = r ≡ q
SameReply walk_start x y = x ≡ y
SameReply walk_number x y = x ≡ y
SameReply (walk_record s) p q = SamePart p q
SameReply (walk_on s) x y = x ≡ y
SameReply (walk_above s) o p = o ≡ p
SameReply walk_first o p = o ≡ p
SameReply (walk_step s) o p = o ≡ p

abbrev pub SameAnswer : (c : Call) → AnswerTo c → AnswerTo c → Type 0
SameAnswer (book pan label amount) r q = r ≡ q
SameAnswer (swipe card amount scratch) r q = r ≡ q
SameAnswer (release s) r q = r ≡ q
SameAnswer (reads a) r q = SameReply a r q
SameAnswer aside r q = r ≡ q

-- call by call the same answers, and after each the same journal but for its clock fields
pub data SameOutcomes : List Done → List Done → Type 0 where
  no_outcomes : SameOutcomes [] []
  same_outcome : {c : Call} {t u : ℕ} {a b : AnswerTo c} {k l : List ℕ} {ds es : List Done} → SameAnswer c a b → SameButClocks k l → SameOutcomes ds es
      → SameOutcomes (record { clock = t; call = c; answer = a; after = k } ∷ ds) (record { clock = u; call = c; answer = b; after = l } ∷ es)
