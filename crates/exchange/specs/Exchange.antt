-- A script of what happens between box and host, and what running it comes to.
use Rattle.std.specs.Prelude.{ℕ, zero, suc, ◌+◌, ◌*◌, ◌/◌, ◌≤◌, ◌≡◌, Bool, true, false, cond, ◌||◌, List, [], ◌∷◌, ◌++◌, eqb, leb, ltb, length, take, drop, replicate, Result, Ok, Err}
use Rattle.text.specs.Numbers.{u32_at, put}
use Rattle.reasons.specs.Reasons.{Outcome, gives, refuses, after}
use Rattle.slots.specs.Views.{Seen}
use Rattle.held.specs.Rules.{show_rule}
use Rattle.payer.specs.Payer.{Terms}
use Rattle.history.specs.History.{Call, release, aside, AnswerTo, Does, Done}
use Rattle.plays.specs.Script.{kind_at, serial_at, clock_at, call_at, scratch_left, TotalsOf}
use Rattle.ledger.specs.Ledger.{opened, Takes}
use Rattle.ledger.specs.declared.Ledger.{Ledger}
use Rattle.reasons.specs.declared.Reason.{Reason}
use Rattle.plays.specs.declared.Unplayed.{Unplayed}
use Rattle.plays.specs.declared.Unplayed.TheVariants.{NotWhole, TooLong}
use Rattle.channel.specs.Channel.{World, start, Act, made, Course, Agree}
use Rattle.exchange.specs.declared.Sums.{Sums}

-- ---- the script

-- Records of 128 bytes, laid out as in a script of calls (`plays`). Kinds 1, 3 and 4 are calls of the box, as there. Of kind 5 the box sends the
-- record of the serial that stands at 12 to 15, into the place of the air whose number stands at 16 to 19; of kind 6 what stands in that place arrives
-- at the host; of kind 7 the answer of that serial arrives at the box. A record of another kind, a release among them, makes no call

pub data Turn : Type 0 where
  makes : Call → Turn
  send : (serial place : ℕ) → Turn
  deliver : (place : ℕ) → Turn
  answer : (serial : ℕ) → Turn

abbrev pub place_at : List ℕ → ℕ → ℕ
place_at s at = u32_at s (at + 16)

-- the box's own call: a release that the script asks for is passed over
unfoldable pub own_at : List ℕ → Terms → List ℕ → ℕ → Call
own_at s terms scratch at = cond (eqb (kind_at s at) 2) aside (call_at s terms scratch at)

unfoldable pub turn_at : List ℕ → Terms → List ℕ → ℕ → Turn
turn_at s terms scratch at =
    cond (eqb (kind_at s at) 5) (send (serial_at s at) (place_at s at))
    (cond (eqb (kind_at s at) 6) (deliver (place_at s at))
    (cond (eqb (kind_at s at) 7) (answer (serial_at s at))
    (makes (own_at s terms scratch at))))

-- ---- box, air and host

-- the box's scratch and journal; the air, in places of 32 bytes, where what was sent waits to arrive, perhaps often; the host's ledger, and whether it
-- has answered 0
pub record State : Type 0 where
  pub scratch : List ℕ
  pub journal : List ℕ
  pub air : List ℕ
  pub ledger : Ledger
  pub zero_sent : Bool

-- the state of these parts
abbrev pub as_state : List ℕ → List ℕ → List ℕ → Ledger → Bool → State
as_state t j a l z = record { scratch = t; journal = j; air = a; ledger = l; zero_sent = z }

-- at the start the air is cleared
abbrev pub cleared : List ℕ → List ℕ → List ℕ → Ledger → State
cleared t j a l = as_state t j (replicate (length a) 0) l false

abbrev pub message_at : List ℕ → ℕ → List ℕ
message_at a place = take 32 (drop (32 * place) a)

-- the air with a record sent into this place; where there is no such place the record is lost
abbrev pub posted : List ℕ → ℕ → List ℕ → List ℕ
posted a place r = cond (ltb place (length a / 32)) (put a (32 * place) r) a

-- the host has answered with the serial s: from a fresh ledger on it has answered with each up to the last one taken, when it took that one
abbrev pub was_sent : State → ℕ → Bool
was_sent v s = cond (eqb s 0) v.zero_sent (leb s v.ledger.taken)

-- after the host heard a message so
abbrev pub hearing : State → Result Ledger Reason → State
hearing v (Ok l) = as_state v.scratch v.journal v.air l (v.zero_sent || eqb l.taken 0)
hearing v (Err x) = v

-- after a record was sent
abbrev pub sending : State → List ℕ → State
sending v a = as_state v.scratch v.journal a v.ledger v.zero_sent

-- after a call of the box
abbrev pub calling : State → List ℕ → List ℕ → State
calling v t j = as_state t j v.air v.ledger v.zero_sent

-- ---- one record after another

-- the box makes one call, ds
pub record Makes (v : State) (clock : ℕ) (c : Call) (ds : List Done) (w : State) : Type 0 where
  pub answer : AnswerTo c
  pub after : List ℕ
  pub does : Does v.journal clock c answer after
  pub done : ds ≡ made clock c answer after ∷ []
  pub is : w ≡ calling v (scratch_left c answer v.scratch) after

-- it makes none
pub record Quiet (ds : List Done) (w x : State) : Type 0 where
  pub none : ds ≡ []
  pub is : w ≡ x

-- the host hears a message
pub record Hears (v : State) (message : List ℕ) (ds : List Done) (w : State) : Type 0 where
  pub answer : Result Ledger Reason
  pub takes : Takes v.ledger message answer
  pub quiet : Quiet ds w (hearing v answer)

-- an answer arrives at the box, which releases by it; one that was never sent doesn't
abbrev pub Answered : Bool → State → ℕ → ℕ → List Done → State → Type 0
Answered true v clock s ds w = Makes v clock (release s) ds w
Answered false v clock s ds w = Quiet ds w v

-- what a turn allows, from the state v at a clock reading: the calls that the box makes, and the state afterwards
abbrev pub Turns : State → ℕ → Turn → List Done → State → Type 0
Turns v clock (makes c) ds w = Makes v clock c ds w
Turns v clock (send s place) ds w =
    Seen v.journal (λ m. Quiet ds w (sending v (after (show_rule m v.journal s) v.air (λ at. posted v.air place (take 32 (drop at v.journal))))))
Turns v clock (deliver place) ds w = Hears v (message_at v.air place) ds w
Turns v clock (answer s) ds w = Answered (was_sent v s) v clock s ds w

-- the first so many records of a script, run from the state v, are the calls ds and leave the state w
pub data Runs (s : List ℕ) (terms : Terms) (v : State) : ℕ → List Done → State → Type 0 where
  no_record : Runs s terms v zero [] v
  one_more : {i : ℕ} {ds : List Done} {w x : State} (es : List Done) → Runs s terms v i ds w
      → Turns w (clock_at s (128 * i)) (turn_at s terms w.scratch (128 * i)) es x → Runs s terms v (suc i) (ds ++ es) x

-- ---- the promises

-- all records were run, from the state v: the sums are the host's ledger and the totals of the box's calls
pub record RunsAll (s : List ℕ) (terms : Terms) (v : State) (r : Sums) (u k b : List ℕ) : Type 0 where
  pub done : List Done
  pub zero_sent : Bool
  pub runs : Runs s terms v (length s / 128) done (as_state u k b r.ledger zero_sent)
  pub totals : TotalsOf done r.totals

-- what running a script allows, by `script_rule` for its length; a refusal changes nothing
pub data Exchanges (s : List ℕ) (terms : Terms) (t j a : List ℕ) (l : Ledger) : Outcome (Unit {0}) → Result Sums Unplayed → List ℕ → List ℕ → List ℕ → Type 0 where
  ran : {r : Sums} {u k b : List ℕ} → RunsAll s terms (cleared t j a l) r u k b → Exchanges s terms t j a l (gives tt) (Ok r) u k b
  not_whole : Exchanges s terms t j a l (refuses 6) (Err NotWhole) t j a
  too_long : Exchanges s terms t j a l (refuses 99) (Err TooLong) t j a

-- from an empty journal of n slots and a fresh ledger: the calls that the script made are those of a course of events between box and host, which left
-- this journal and this ledger, so that box and host agree; in numbers, the box has released no more than the host has taken, and the host has taken
-- no more than was booked
pub record Agreed (s : List ℕ) (terms : Terms) (t a : List ℕ) (n : ℕ) (r : Sums) (u k b : List ℕ) : Type 0 where
  pub all : RunsAll s terms (cleared t (replicate (32 * n) 0) a opened) r u k b
  pub acts : List Act
  pub world : World
  pub course : Course (start n) acts all.done world
  pub journal : world.journal ≡ k
  pub ledger : world.ledger ≡ r.ledger
  pub agree : Agree all.done world
  pub counts : (r.totals.released ≤ r.ledger.taken) × (r.ledger.taken ≤ r.totals.booked)
  pub sums : (r.totals.remitted ≤ r.ledger.total) × (r.ledger.total ≤ r.totals.takings)

abbrev pub Agrees : List ℕ → Terms → List ℕ → List ℕ → List ℕ → Ledger → Result Sums Unplayed → List ℕ → List ℕ → List ℕ → Type 0
Agrees s terms t j a l (Ok r) u k b = (n : ℕ) → 1 ≤ n → n ≤ 2048 → j ≡ replicate (32 * n) 0 → l ≡ opened → Agreed s terms t a n r u k b
Agrees s terms t j a l (Err x) u k b = Unit {0}
