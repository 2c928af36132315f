-- Seven bits may read both ways round, where five can't: forward is taken.
use mathlib.Core.Path.{◌≡◌, refl, ap₂}
use mathlib.Core.Bool.{Bool, true, false}
use mathlib.Core.List.{List, [], ◌∷◌, reverse}
use Rattle.text.specs.Bytes.{bytes_of}
use Rattle.reasons.specs.Reasons.{gives}
use Rattle.stream.specs.Stream.{number, ones}
use Rattle.chars.specs.Reading.{next, all_zero, finish, body, skip, begins, read_one}
use Rattle.bits.specs.Reading.{forward_of, choose, read_either}
use Rattle.track1.specs.Track1.{track1}

-- a stream that reads both ways round: `%\ W?` and its LRC
both : List Bool
both =
    true ∷ false ∷ true ∷ false ∷ false ∷ false ∷ true
    ∷ false ∷ false ∷ true ∷ true ∷ true ∷ true ∷ true
    ∷ false ∷ false ∷ false ∷ false ∷ false ∷ false ∷ true
    ∷ true ∷ true ∷ true ∷ false ∷ true ∷ true ∷ false
    ∷ true ∷ true ∷ true ∷ true ∷ true ∷ false ∷ false
    ∷ true ∷ false ∷ false ∷ false ∷ true ∷ false ∷ true ∷ []

both_forward : read_one track1 both ≡ gives (bytes_of "\\ W")
unfolding both read_one begins skip body finish all_zero next ones number
both_forward = refl

both_reversed : read_one track1 (reverse both) ≡ gives (bytes_of "\\V!")
unfolding both read_one begins skip body finish all_zero next ones number
both_reversed = refl

both_taken : read_either track1 both ≡ gives (forward_of (bytes_of "\\ W"))
unfolding read_either
both_taken = ap₂ choose both_forward both_reversed
