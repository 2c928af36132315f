-- What the laws on readings speak of: one bit of a stream flipped; formats whose start can't begin twice.
use Rattle.std.specs.Prelude.{◌≡◌, Bool, true, false, not, List, [], ◌∷◌, ◌++◌, ℕ, zero, suc, length}
use Rattle.chars.specs.Reading.{Format, begins, skip}

-- the stream with bit i flipped
unfoldable pub flip_at : ℕ → List Bool → List Bool
flip_at i [] = []
flip_at zero (b ∷ s) = not b ∷ s
flip_at (suc i) (b ∷ s) = b ∷ flip_at i s

-- a format whose start sentinel begins with a one, and does not begin again within itself, zeros skipped, whatever follows
pub record Proper (f : Format) : Type 0 where
  pub tail : List Bool
  pub is_start : f.start ≡ true ∷ tail
  pub long : length tail ≡ f.letters.data_bits
  pub clash : (t : List Bool) → begins (true ∷ tail) (skip (tail ++ t)) ≡ false
