-- The host's ledger: which messages it takes, and what they do to it.
use Rattle.std.specs.Prelude.{ℕ, ◌+◌, ◌*◌, ◌≤◌, ◌<◌, ◌≡◌, Bool, true, cond, ◌&&◌, List, eqb, leb, ltb, get_or, length, Result, Ok}
use Rattle.reasons.specs.Reasons.{Outcome, gives, demand, said}
use Rattle.reasons.specs.declared.Reason.{Reason}
use Rattle.slots.specs.Record.{is_held, serial_at, amount_at, state_at, Good}
use Rattle.slots.specs.Journal.{Tells}
use Rattle.ledger.specs.declared.Ledger.{Ledger}

-- "a held record by the journal's rules": 32 bytes that are a good record of a serial from 1 on, and held
pub record HeldRecord (message : List ℕ) : Type 0 where
  pub size : length message ≡ 32
  pub some : 1 ≤ serial_at message 0
  pub good : Good message 0 (serial_at message 0)
  pub held : is_held (state_at message 0) ≡ true

-- messages can have led to such a ledger: each amount taken lies from 1 to 4,294,967,295
unfoldable pub sound : ℕ → ℕ → Bool
sound taken total = leb taken total && leb total (taken * 4294967295)

-- "It keeps the next serial it wants, starting at 1, and a total": the last serial taken is 0
abbrev pub opened : Ledger
opened = record { taken = 0; total = 0 }

-- a serial is the next one after the last taken; "after the last serial it wants nothing"
unfoldable pub is_next : ℕ → ℕ → Bool
is_next taken serial = ltb taken 4294967295 && eqb serial (taken + 1)

-- the record's serial is the wanted one
abbrev pub wants : Ledger → List ℕ → Bool
wants l message = is_next l.taken (serial_at message 0)

-- it "adds its amount and moves on"
abbrev pub moved : Ledger → List ℕ → Ledger
moved l message = record { taken = l.taken + 1; total = l.total + amount_at message 0 }

-- "It takes a record whose serial is the wanted one ..; other records change nothing"; held says whether the message is a held record
unfoldable pub take_rule : Bool → Ledger → List ℕ → Outcome Ledger
take_rule held l message =
    demand held 6
    (demand (sound l.taken l.total) 6
    (gives (cond (wants l message) (moved l message) l)))

-- what a message to the ledger l allows as answer r: the rule, for what the message is (it can't be both: `take_one`)
pub record Takes (l : Ledger) (message : List ℕ) (r : Result Ledger Reason) : Type 0 where
  pub held : Bool
  pub tells : Tells held (HeldRecord message)
  pub says : said r ≡ take_rule held l message

-- a message is bytes
pub record Bytes (message : List ℕ) : Type 0 where
  pub byte : (i : ℕ) → get_or message i 0 < 256

-- a ledger that messages lead to, starting from a fresh one; those refused change nothing (which ledgers these are: `led_to_exactly`)
pub data LedTo : Ledger → Type 0 where
  at_first : LedTo opened
  by_message : {l k : Ledger} (message : List ℕ) → LedTo l → Bytes message → Takes l message (Ok k) → LedTo k
