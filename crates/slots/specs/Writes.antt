-- Writes in their order, against power cuts: the bytes that a call changes, as a list, in the order in which whoever keeps the journal copies
-- them to memory that outlives the power.
use Rattle.std.specs.Prelude.{ℕ, zero, suc, ◌+◌, ◌%◌, List, [], ◌∷◌, get_or, set}

pub record Write : Type 0 where
  pub place : ℕ
  pub byte : ℕ

-- the bytes after these writes, the first one done first
unfoldable pub wrote : List ℕ → List Write → List ℕ
wrote j [] = j
wrote j (w ∷ ws) = wrote (set j w.place w.byte) ws

-- which byte of a record is written at turn k: from byte 16 on and round, so that the state byte, 15, is the last
unfoldable pub turn_byte : ℕ → ℕ
turn_byte k = (k + 16) % 32

-- the m writes from turn k on, of the record r into the slot at `at`
unfoldable pub writes_from : List ℕ → ℕ → ℕ → ℕ → List Write
writes_from r at k zero = []
writes_from r at k (suc m) = record { place = at + turn_byte k; byte = get_or r (turn_byte k) 0 } ∷ writes_from r at (k + 1) m

-- all of them
abbrev pub record_writes : List ℕ → ℕ → List Write
record_writes r at = writes_from r at 0 32
