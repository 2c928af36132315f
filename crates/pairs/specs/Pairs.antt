-- Two characters of track 2 in ten bits, "the first lowest" (document 02, E9), and what a look takes of them.
use Rattle.std.specs.Prelude.{◌≡◌, ◌&&◌, cond, List, ℕ, ◌+◌, ◌*◌, ◌/◌, ◌%◌, ◌<◌, set}
use Rattle.text.specs.Tables.{tabled}
use Rattle.stream.specs.Stream.{odd_ones}

-- "the two numbers, 16 times the second plus the first, or 256 if either parity is even"
unfoldable pub pair_of : ℕ → ℕ
pair_of w = cond (odd_ones (w % 32) && odd_ones (w / 32)) (16 * (w / 32 % 16) + w % 16) 256

-- "a table of 1,024 entries"
unfoldable pub pair_table : List ℕ
pair_table = tabled pair_of 0 1024

-- a look of which both characters are taken: neither has even parity, neither is the end sentinel
pub record GoOn (last pair : ℕ) : Type 0 where
  pub both : pair < 256
  pub one : pair % 16 ≡ last → ⊥
  pub other : pair / 16 ≡ last → ⊥

-- the bytes with both characters of a look, from place len on
abbrev pub with_two : List ℕ → ℕ → ℕ → ℕ → List ℕ
with_two out len base pair = set (set out len (base + pair % 16)) (len + 1) (base + pair / 16)
