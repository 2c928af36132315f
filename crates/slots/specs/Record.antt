-- A record's 32 bytes: serial 0 to 3, clock 4 to 7, amount 8 to 11, label 12 to 13, PAN length 14, state 15 (0 free, 1 held, 2 released),
-- first six digits 16 to 21, last four 22 to 25, zeros 26 to 31.
use Rattle.std.specs.Prelude.{ℕ, ◌+◌, ◌-◌, ◌≤◌, ◌<◌, ◌≡◌, Bool, true, ◌||◌, List, ◌∷◌, ◌++◌, eqb, get_or, length, take, drop, replicate}
use Rattle.text.specs.Bytes.{is_digit}
use Rattle.text.specs.Numbers.{u32_at, le16, le32}
use Rattle.pan.specs.Pan.{pan_length, shown}

-- ---- what a state byte says

unfoldable pub is_held : ℕ → Bool
is_held x = eqb x 1

unfoldable pub is_released : ℕ → Bool
is_released x = eqb x 2

-- a record stands there
abbrev pub is_record : ℕ → Bool
is_record x = is_held x || is_released x

-- the state that a booking writes for a PAN of n digits
unfoldable pub held_state : ℕ → ℕ
held_state n = 1

-- the state of a record that was held with state x and is released
unfoldable pub freed_state : ℕ → ℕ
freed_state x = x + 1

-- the PAN lengths that a record of state x may have
unfoldable pub length_fits : ℕ → ℕ → Bool
length_fits x n = pan_length n

-- how many of the PAN's digits a record of state x keeps, first and last
unfoldable pub front_kept : ℕ → ℕ
front_kept x = 6

unfoldable pub back_kept : ℕ → ℕ
back_kept x = 4

abbrev pub kept : ℕ → ℕ
kept x = front_kept x + back_kept x

-- ---- the fields of the record that begins at `at`

abbrev pub serial_at : List ℕ → ℕ → ℕ
serial_at j at = u32_at j at

abbrev pub amount_at : List ℕ → ℕ → ℕ
amount_at j at = u32_at j (at + 8)

abbrev pub length_at : List ℕ → ℕ → ℕ
length_at j at = get_or j (at + 14) 0

abbrev pub state_at : List ℕ → ℕ → ℕ
state_at j at = get_or j (at + 15) 0

-- the bytes from `from` to, not including, `to` are 0
abbrev pub Zeros : List ℕ → ℕ → ℕ → Type 0
Zeros j from to = (i : ℕ) → from ≤ i → i < to → get_or j i 0 ≡ 0

-- the bytes from `from` to, not including, `to` are digits
abbrev pub Digits : List ℕ → ℕ → ℕ → Type 0
Digits j from to = (i : ℕ) → from ≤ i → i < to → is_digit (get_or j i 0) ≡ true

-- the 32 bytes from `at` are a record of serial s: state held or released, amount above 0, length, digits as digits, zeros as zeros
pub record Good (j : List ℕ) (at s : ℕ) : Type 0 where
  pub serial : serial_at j at ≡ s
  pub amount : 0 < amount_at j at
  pub state : is_record (state_at j at) ≡ true
  pub len : length_fits (state_at j at) (length_at j at) ≡ true
  pub digits : Digits j (at + 16) (at + 16 + kept (state_at j at))
  pub zeros : Zeros j (at + 16 + kept (state_at j at)) (at + 32)

-- ---- a record that is booked

unfoldable pub record32 : ℕ → ℕ → ℕ → ℕ → List ℕ → List ℕ
record32 serial clock amount label pan =
    le32 serial ++ (le32 clock ++ (le32 amount ++ (le16 label ++ (length pan ∷ held_state (length pan) ∷ (shown pan ++ replicate (16 - length (shown pan)) 0)))))

-- the masked text of a record: the first digits, `*` for each hidden one, the last digits
unfoldable pub masked_of : List ℕ → List ℕ
masked_of r =
    take (front_kept (state_at r 0)) (drop 16 r)
    ++ replicate (length_at r 0 - front_kept (state_at r 0) - back_kept (state_at r 0)) 42
    ++ take (back_kept (state_at r 0)) (drop (16 + front_kept (state_at r 0)) r)
