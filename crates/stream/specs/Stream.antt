-- The stream of bits of a run of bytes, and numbers written in bits, the lowest first.
use Rattle.std.specs.Prelude.{Bool, true, false, List, [], ◌∷◌, reverse, ℕ, zero, suc, ◌+◌, ◌*◌, ◌/◌, ◌%◌, ◌^◌, get_or, eqb}
use Rattle.std.specs.Int.Count

-- "Stream bit i is bit i mod 8 (0 the lowest) of byte i div 8"
abbrev pub bit_at : List ℕ → ℕ → ℕ
bit_at s i = get_or s (i / 8) 0 / 2 ^ (i % 8) % 2

-- a bit as a truth value, and back
abbrev pub is_one : ℕ → Bool
is_one zero = false
is_one (suc b) = true

abbrev pub bit_n : Bool → ℕ
bit_n false = 0
bit_n true = 1

-- n bits of the stream, from bit i on
unfoldable pub bits_from : List ℕ → ℕ → ℕ → List Bool
bits_from s i zero = []
bits_from s i (suc n) = is_one (bit_at s i) ∷ bits_from s (suc i) n

-- the stream's n bits, forward (false) or "reversed, last bit first" (true)
unfoldable pub stream : Bool → List ℕ → ℕ → List Bool
unfolding bits_from
stream false s n = bits_from s 0 n
stream true s n = reverse (bits_from s 0 n)

-- the number that bits stand for, "lowest first"
unfoldable pub number : List Bool → ℕ
number [] = 0
number (b ∷ s) = bit_n b + 2 * number s

-- the k lowest bits of n
abbrev pub bits_of : ℕ → ℕ → List Bool
bits_of zero n = []
bits_of (suc k) n = is_one (n % 2) ∷ bits_of k (n / 2)

-- how many of the bits are one
unfoldable pub ones : List Bool → ℕ
ones [] = 0
ones (b ∷ s) = bit_n b + ones s

-- "the count of ones odd"
abbrev pub odd : List Bool → Bool
odd s = eqb (ones s % 2) 1

-- of the bits of a number
abbrev pub odd_ones : ℕ → Bool
odd_ones n = eqb (Count.ones n % 2) 1
