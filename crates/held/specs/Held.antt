-- The held payments, read off the journal's bytes: tell, the walker and demand 3 share this list.
use Rattle.std.specs.Prelude.{ℕ, zero, suc, ◌+◌, ◌-◌, ◌<◌, ◌≡◌, cond, false, List, [], ◌∷◌, length, take, drop, get_or}
use Rattle.text.specs.Bytes.{within}
use Rattle.slots.specs.Record.{is_held, serial_at, amount_at}
use Rattle.slots.specs.Journal.{slots_of, place, state_of}
use Rattle.held.specs.declared.Tallied.{Tallied}

-- the 32 bytes of the record of serial s among n slots
unfoldable pub record_at : List ℕ → ℕ → ℕ → List ℕ
record_at j n s = take 32 (drop (place n s) j)

-- the held records among the m serials after low, by rising serial
unfoldable pub held_after : List ℕ → ℕ → ℕ → ℕ → List (List ℕ)
held_after j n low zero = []
held_after j n low (suc m) =
    cond (is_held (state_of j n (low + 1))) (record_at j n (low + 1) ∷ held_after j n (low + 1) m) (held_after j n (low + 1) m)

-- the serial before the oldest that a journal with newest serial b keeps
abbrev pub low_of : List ℕ → ℕ → ℕ
low_of j b = b - slots_of j

-- the held records up to serial s of a journal with newest serial b, by rising serial
abbrev pub held_up_to : List ℕ → ℕ → ℕ → List (List ℕ)
held_up_to j b s = held_after j (slots_of j) (low_of j b) (s - low_of j b)

-- all its held records, by rising serial
abbrev pub held_list : List ℕ → ℕ → List (List ℕ)
held_list j b = held_up_to j b b

-- the serial and the amount that a record's bytes say
abbrev pub serial_of : List ℕ → ℕ
serial_of r = serial_at r 0

abbrev pub amount_of : List ℕ → ℕ
amount_of r = amount_at r 0

-- the sum of the records' amounts
unfoldable pub sum_of : List (List ℕ) → ℕ
sum_of [] = 0
sum_of (r ∷ rs) = amount_of r + sum_of rs

-- the serial of the first record, 0 for none
unfoldable pub first_of : List (List ℕ) → ℕ
first_of [] = 0
first_of (r ∷ rs) = serial_of r

-- two records that are the same but for their clocks, and two lists of such
abbrev pub SameRecord : List ℕ → List ℕ → Type 0
SameRecord r q = (i : ℕ) → i < 32 → within 4 7 i ≡ false → get_or r i 0 ≡ get_or q i 0

pub data SameRecords : List (List ℕ) → List (List ℕ) → Type 0 where
  none : SameRecords [] []
  more : {r q : List ℕ} {rs qs : List (List ℕ)} → SameRecord r q → SameRecords rs qs → SameRecords (r ∷ rs) (q ∷ qs)

-- t counts and adds up the records rs, and has the serial of the first
pub record Tallies (t : Tallied) (rs : List (List ℕ)) : Type 0 where
  pub count : t.count ≡ length rs
  pub sum : t.sum ≡ sum_of rs
  pub first : t.first ≡ first_of rs
