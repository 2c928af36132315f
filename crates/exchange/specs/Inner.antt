-- What the inner functions promise.
use Rattle.std.specs.Prelude.{ℕ, ◌≡◌, ◌||◌, List, eqb, Result, Ok, Err}
use Rattle.reasons.specs.declared.Reason.{Reason}
use Rattle.history.specs.History.{Done}
use Rattle.plays.specs.Script.{TotalsOf, Bounded}
use Rattle.plays.specs.declared.Totals.{Totals}
use Rattle.ledger.specs.Ledger.{Takes}
use Rattle.ledger.specs.declared.Ledger.{Ledger}
use Rattle.exchange.specs.Exchange.{State, as_state, Turn, Turns}
use Rattle.exchange.specs.declared.Host.{Host}

-- the state of the box's scratch and journal, the air and the host
abbrev pub state : List ℕ → List ℕ → List ℕ → Host → State
state t j a h = as_state t j a h.ledger h.zero

-- the host after its ledger has answered a message so
abbrev pub hearing_so : Host → Result Ledger Reason → Host
hearing_so h (Ok l) = record { ledger = l; zero = h.zero || eqb l.taken 0 }
hearing_so h (Err x) = h

-- the host h heard a message and is k now
pub record Heard (h : Host) (message : List ℕ) (k : Host) : Type 0 where
  pub answer : Result Ledger Reason
  pub takes : Takes h.ledger message answer
  pub is : k ≡ hearing_so h answer

-- a turn was taken from the state v, came to r and left the state w
pub record Took (v : State) (clock : ℕ) (turn : Turn) (r : Totals) (w : State) : Type 0 where
  pub done : List Done
  pub turns : Turns v clock turn done w
  pub totals : TotalsOf done r
  pub small : Bounded 1 r
