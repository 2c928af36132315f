-- The law on readings one way, for every proper format.
use mathlib.Core.Path.{◌≡◌}
use mathlib.Core.Bool.{Bool}
use mathlib.Core.List.{List}
use Prim.Native.Nat.{ℕ, ◌<◌}
use lib.ListN.{length}
use Rattle.reasons.specs.Reasons.{gives}
use Rattle.chars.specs.Reading.{Format, read_one}
use Rattle.chars.specs.Flip.{flip_at, Proper}
use Rattle.chars.specs.Shape.{Sound}
use Rattle.chars.specs.declared.shape.Shape.{Shape}
use Rattle.chars.proofs.Flips.{stream_flip}

-- what is known of every shape, its type keeps
pub sound : (h : Shape) → Sound h
sound h =
    record {
      any = h.any;
      few = h.few;
      low = h.low;
      short = h.short;
      some = h.some;
      start_fits = h.start_fits;
      four = h.four;
      first_is = h.first_is;
    }

-- "flip any one bit of a stream that reads forward, clocking zeros included, and it no longer reads forward"
pub flip_found : (f : Format) → Proper f → (s : List Bool) (i : ℕ) → i < length s → (a b : List ℕ)
    → read_one f s ≡ gives a → read_one f (flip_at i s) ≡ gives b → ⊥
flip_found = stream_flip
