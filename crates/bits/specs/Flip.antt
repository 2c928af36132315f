-- What the laws on lent bytes speak of: one bit of them flipped, and bytes that hold a reversal.
use Rattle.std.specs.Prelude.{◌≡◌, List, ℕ, ◌/◌, ◌%◌, ◌^◌, ◌-◌, ◌<◌, get_or, set}
use Rattle.std.specs.Int.Bits.{bit_xor}
use Rattle.stream.specs.Stream.{bit_at}

-- the bytes with stream bit i flipped
abbrev pub flip_bit : List ℕ → ℕ → List ℕ
flip_bit s i = set s (i / 8) (bit_xor (get_or s (i / 8) 0) (2 ^ (i % 8)))

-- the first n bits of t are those of s, last bit first
abbrev pub Reverses : List ℕ → List ℕ → ℕ → Type 0
Reverses s t n = (i : ℕ) → i < n → bit_at t i ≡ bit_at s (n - 1 - i)
