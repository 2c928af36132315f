-- The box and the host. "Messages either way may be lost, repeated or come out of order, but aren't altered": what was sent once may arrive any number
-- of times, at any later time, in any order, or never. What holds whatever the channel does is `Agree`; proofs/Laws.antt has the theorem `agree` with
-- what the last answer, an old one and one of 0 do, proofs/Clocks.antt that clocks decide nothing, proofs/CatchUp.antt that all can be brought in.
use Rattle.std.specs.Prelude.{ℕ, zero, suc, ◌+◌, ◌*◌, ◌≤◌, ◌≡◌, cond, ltb, length, replicate, Some, Result, Ok, Err}
use mathlib.Core.List.{List, [], ◌∷◌, ◌++◌, map, Memᴰ as Among}
use Rattle.slots.specs.Journal.{NewestIs, SameButClocks}
use Rattle.held.specs.Held.{held_list, serial_of, SameRecords}
use Rattle.journal.specs.Rules.{Releases}
use Rattle.journal.specs.declared.Released.{Released}
use Rattle.history.specs.History.{Call, book, swipe, release, reads, aside, AnswerTo, Done, Does, SameOutcomes}
use Rattle.history.specs.History.{Payment, record_of, booked, released, highest, takings, freed_sum}
use Rattle.ledger.specs.Ledger.{HeldRecord, opened, wants, Takes}
use Rattle.ledger.specs.declared.Ledger.{Ledger}
use Rattle.reasons.specs.declared.Reason.{Reason}

-- ---- box and host

-- the box's journal; the host's ledger, and the records that it took, in that order; and all that was ever sent, the last one first: the box's
-- records and the host's answers
pub record World : Type 0 where
  pub journal : List ℕ
  pub ledger : Ledger
  pub took : List (List ℕ)
  pub records : List (List ℕ)
  pub answers : List ℕ

-- "from an empty journal and a fresh ledger": n slots, and nothing was sent
abbrev pub start : ℕ → World
start n = record { journal = replicate (32 * n) 0; ledger = opened; took = []; records = []; answers = [] }

-- after a call on the journal, which left k
abbrev pub leaving : World → List ℕ → World
leaving w k = record { journal = k; ledger = w.ledger; took = w.took; records = w.records; answers = w.answers }

-- after a record was sent
abbrev pub sending : World → List ℕ → World
sending w r = record { journal = w.journal; ledger = w.ledger; took = w.took; records = r ∷ w.records; answers = w.answers }

-- after the host heard a message so: "After each message not refused it answers with the last serial taken, 0 if none"
abbrev pub answering : World → List ℕ → Result Ledger Reason → World
answering w message (Ok l) = record {
  journal = w.journal;
  ledger = l;
  took = cond (wants w.ledger message) (w.took ++ (message ∷ [])) w.took;
  records = w.records;
  answers = l.taken ∷ w.answers;
}
answering w message (Err x) = w

-- ---- what may happen

-- x is element k of a list, counted from 0
pub data Nth {A : Type 0} : ℕ → List A → A → Type 0 where
  head_is : {x : A} {l : List A} → Nth zero (x ∷ l) x
  further : {k : ℕ} {x y : A} {l : List A} → Nth k l x → Nth (suc k) (y ∷ l) x

-- the box makes a call of its own; it sends a held record; one that was sent arrives at the host; some other message does; an answer that was sent
-- arrives at the box. Which record or answer it is, is told by its place in the list of the held ones, or of those sent; no clock reading is in it
pub data Act : Type 0 where
  calls : Call → Act
  sends : (place : ℕ) → Act
  hears : (place : ℕ) → Act
  hears_noise : (message : List ℕ) → Act
  is_answered : (place : ℕ) → Act

-- the box's own calls: all but release, for "the box releases by these answers only"
abbrev pub Own : Call → Type 0
Own (book pan label amount) = Unit {0}
Own (swipe card amount scratch) = Unit {0}
Own (release s) = ⊥
Own (reads q) = Unit {0}
Own aside = Unit {0}

-- a call that was made, with its parts by name
abbrev pub made : (clock : ℕ) (c : Call) → AnswerTo c → List ℕ → Done
made clock c a k = record { clock = clock; call = c; answer = a; after = k }

-- one act at the world w: the calls that the box makes at it, one or none, and the world afterwards
pub data Event (w : World) : Act → List Done → World → Type 0 where
  -- the box goes on booking and swiping in between, refused calls and reading ones among them
  box_calls : {c : Call} {k : List ℕ} (clock : ℕ) (a : AnswerTo c) → Own c → Does w.journal clock c a k
      → Event w (calls c) (made clock c a k ∷ []) (leaving w k)
  -- it sends any record that is held, by its place among them
  box_sends : {i : ℕ} {r : List ℕ} (b : ℕ) → NewestIs w.journal (Some b) → Nth i (held_list w.journal b) r → Event w (sends i) [] (sending w r)
  -- a record that was sent arrives at the host
  host_hears : {i : ℕ} {message : List ℕ} (r : Result Ledger Reason) → Nth i w.records message → Takes w.ledger message r
      → Event w (hears i) [] (answering w message r)
  -- any other message, that isn't a held record
  host_hears_noise : {message : List ℕ} (r : Result Ledger Reason) → (HeldRecord message → ⊥) → Takes w.ledger message r
      → Event w (hears_noise message) [] (answering w message r)
  -- an answer that was sent arrives at the box, which releases by it
  box_hears : {i s : ℕ} {k : List ℕ} (clock : ℕ) (r : Result Released Reason) → Nth i w.answers s → Releases w.journal s r k
      → Event w (is_answered i) (made clock (release s) r k ∷ []) (leaving w k)

-- one act after another from the world v to the world w: the acts, the last one first, and the calls that the box made at them, in order
pub data Course (v : World) : List Act → List Done → World → Type 0 where
  nothing_yet : Course v [] [] v
  and_then : {a : Act} {acts : List Act} {ds es : List Done} {w x : World} → Course v acts ds w → Event w a es x → Course v (a ∷ acts) (ds ++ es) x

-- ---- what holds then

-- the payments with a serial below the next one that is wanted
unfoldable pub below : ℕ → List Payment → List Payment
below next [] = []
below next (p ∷ ps) = cond (ltb p.serial next) (p ∷ below next ps) (below next ps)

-- the booked payments below the host's next serial
abbrev pub counted : List Done → Ledger → List Payment
counted ds l = below (l.taken + 1) (booked ds)

-- what holds of the calls ds that the box made and of the world w
pub record Agree (ds : List Done) (w : World) : Type 0 where
  -- "the host's total is the sum of booked payments below its next serial"
  pub total : w.ledger.total ≡ takings (counted ds w.ledger)
  -- and what it took is, record by record, what was booked
  pub as_booked : w.took ≡ map record_of (counted ds w.ledger)
  -- "no released payment is missing from it"
  pub none_missing : (p : Payment) → Among p (released ds) → Among p (counted ds w.ledger)
  -- so it has taken nothing that wasn't booked, and all that was released, serial after serial
  pub from_booked : w.ledger.taken ≤ length (booked ds)
  pub past_released : highest ds ≤ w.ledger.taken

-- "the host has taken every held record"
abbrev pub AllTaken : List Done → World → Type 0
AllTaken ds w = (r : List ℕ) → Among r (held_list w.journal (length (booked ds))) → serial_of r ≤ w.ledger.taken

-- from the world w, where the box had made the calls ds, a course with no booking leads to one where host and box agree on all that was booked
pub record Settles (ds : List Done) (w : World) : Type 0 where
  pub acts : List Act
  pub more : List Done
  pub world : World
  pub course : Course w acts more world
  pub no_booking : booked (ds ++ more) ≡ booked ds
  pub host_has : world.ledger.total ≡ takings (booked ds)
  pub box_released : freed_sum (ds ++ more) ≡ takings (booked ds)

-- ---- clocks

-- two runs of the same acts at any clock readings: the box answered the same at every call, and all is the same but for the records' clock fields
pub record SameButTimes (ds es : List Done) (w x : World) : Type 0 where
  pub outcomes : SameOutcomes ds es
  pub journals : SameButClocks w.journal x.journal
  pub ledgers : w.ledger ≡ x.ledger
  pub took : SameRecords w.took x.took
  pub records : SameRecords w.records x.records
  pub answers : w.answers ≡ x.answers
