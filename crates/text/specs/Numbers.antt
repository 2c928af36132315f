-- Numbers: in bytes, "unsigned, lowest byte first", and in digits.
use Rattle.std.specs.Prelude.{ℕ, ◌+◌, ◌-◌, ◌*◌, ◌/◌, ◌%◌, List, [], ◌∷◌, ◌++◌, get_or, take, drop, length}

-- the number in the two bytes of s from `at`
unfoldable pub u16_at : List ℕ → ℕ → ℕ
u16_at s at = get_or s at 0 + 256 * get_or s (at + 1) 0

-- the number in the four bytes of s from `at`
unfoldable pub u32_at : List ℕ → ℕ → ℕ
u32_at s at = get_or s at 0 + 256 * get_or s (at + 1) 0 + 65536 * get_or s (at + 2) 0 + 16777216 * get_or s (at + 3) 0

-- the two bytes of x
unfoldable pub le16 : ℕ → List ℕ
le16 x = x % 256 ∷ x / 256 % 256 ∷ []

-- the four bytes of x
unfoldable pub le32 : ℕ → List ℕ
le32 x = x % 256 ∷ x / 256 % 256 ∷ x / 65536 % 256 ∷ x / 16777216 % 256 ∷ []

-- s with vs in place of what stood from `at`
unfoldable pub put : List ℕ → ℕ → List ℕ → List ℕ
put s at vs = take at s ++ vs ++ drop (at + length vs) s

-- the number that a run of digits writes, v being what stands before it
unfoldable pub decimal_after : ℕ → List ℕ → ℕ
decimal_after v [] = v
decimal_after v (b ∷ s) = decimal_after (10 * v + (b - 48)) s

abbrev pub decimal : List ℕ → ℕ
decimal s = decimal_after 0 s
