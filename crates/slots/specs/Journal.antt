-- When a journal is well formed, in the paper's words.
use Rattle.std.specs.Prelude.{ℕ, ◌-◌, ◌*◌, ◌/◌, ◌%◌, ◌≤◌, ◌<◌, ◌≡◌, Bool, true, false, ◌&&◌, List, eqb, get_or, length, Option, Some, None}
use Rattle.text.specs.Bytes.{within}
use Rattle.slots.specs.Record.{is_held, is_released, is_record, state_at, Zeros, Good}

-- r tells whether P holds
abbrev pub Tells : Bool → Type 0 → Type 0
Tells r P = (r ≡ true → P) × (r ≡ false → P → ⊥)

-- the slots of a journal
abbrev pub slots_of : List ℕ → ℕ
slots_of j = length j / 32

-- a length is a multiple of 32 in the range of 1 to 2,048 slots
unfoldable pub sized : ℕ → Bool
sized len = eqb (len % 32) 0 && within 1 2048 (len / 32)

-- where the record of serial s begins among n slots: slot (s − 1) mod n
abbrev pub place : ℕ → ℕ → ℕ
place n s = 32 * ((s - 1) % n)

-- the state byte of the record of serial s
abbrev pub state_of : List ℕ → ℕ → ℕ → ℕ
state_of j n s = state_at j (place n s)

-- each serial s from b − m + 1 to b stands in its slot, m being the smaller of b and n
abbrev pub Stands : List ℕ → ℕ → ℕ → Type 0
Stands j n b = (s : ℕ) → b - n < s → s ≤ b → Good j (place n s) s

-- no released record has a higher serial than a held one
abbrev pub Ordered : List ℕ → ℕ → ℕ → Type 0
Ordered j n b = (s t : ℕ) → b - n < s → s ≤ b → b - n < t → t ≤ b → is_released (state_of j n s) ≡ true → is_held (state_of j n t) ≡ true → s < t

-- a journal of n slots is well formed with newest serial b; b is 0 where every byte is 0
pub record Formed (j : List ℕ) (n b : ℕ) : Type 0 where
  pub size : length j ≡ 32 * n
  pub least : 1 ≤ n
  pub most : n ≤ 2048
  pub stands : Stands j n b
  -- all other slots are all zero: those after the first b
  pub rest : Zeros j (32 * b) (length j)
  pub order : Ordered j n b

-- what a scan of the journal j may answer, its view: the newest serial, or `None` where it is not well formed
abbrev pub NewestIs : List ℕ → Option ℕ → Type 0
NewestIs j None = (n b : ℕ) → Formed j n b → ⊥
NewestIs j (Some b) = Formed j (slots_of j) b

-- ---- clocks

-- byte i of a journal is a clock byte of a record: 4 to 7 of a slot that is not free
abbrev pub is_clock : List ℕ → ℕ → Bool
is_clock j i = within 4 7 (i % 32) && is_record (state_at j (32 * (i / 32)))

-- two journals that are the same but for their records' clocks
pub record SameButClocks (j k : List ℕ) : Type 0 where
  pub size : length j ≡ length k
  pub bytes : (i : ℕ) → is_clock j i ≡ false → get_or j i 0 ≡ get_or k i 0
