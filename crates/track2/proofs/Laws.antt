-- The laws of track 2: those of every proper format, of which its own is one.
use mathlib.Core.Path.{◌≡◌, refl}
use mathlib.Core.Bool.{true, false}
use mathlib.Core.List.{List, [], ◌∷◌}
use Prim.Native.Nat.{ℕ, ◌*◌, ◌≤◌, ◌<◌}
use lib.ListN.{length}
use Rattle.reasons.specs.Reasons.{gives, refuses}
use Rattle.stream.specs.Stream.{stream}
use Rattle.chars.specs.Reading.{skip, begins, read_one}
use Rattle.bits.specs.Reading.{Track, forward_of, reversed_of, Reads}
use Rattle.chars.specs.Flip.{Proper}
use Rattle.bits.specs.Flip.{flip_bit, Reverses}
use Rattle.bits.specs.declared.Read.{Read}
use Rattle.std.proofs.Common.{Result}
use Rattle.reasons.specs.declared.Reason.{Reason}
use Rattle.bits.proofs.Laws.{reads_one, chars_fit, flip_found_in_bytes, reversal_in_bytes}
use Rattle.track2.specs.Track2.{track2, track2_rule}

pub proper2 : Proper track2
unfolding begins skip
proper2 = record { tail = true ∷ false ∷ true ∷ false ∷ []; is_start = refl; long = refl; clash = λ t. refl }

-- any two outcomes that the promise of read allows are equal: the answer and every lent byte
pub read_one_lem : (s : List ℕ) (bits : ℕ) (out : List ℕ) (r q : Result Read Reason) (x y : List ℕ)
    → Reads track2 s bits out r x → Reads track2 s bits out q y → (r ≡ q) × (x ≡ y)
read_one_lem = reads_one track2

-- at most 37 characters stand between the sentinels
pub at_most_37 : (s : List ℕ) (bits n : ℕ) (t : Track) → track2_rule s bits n ≡ gives t → length t.chars ≤ 37
at_most_37 s bits n t e = chars_fit track2 s bits n t e

-- "flip any one bit of a stream that reads forward, clocking zeros included, and it no longer reads forward"
pub flip_found : (s : List ℕ) (bits n i : ℕ) → i < bits → (a b : List ℕ)
    → track2_rule s bits n ≡ gives (forward_of a) → track2_rule (flip_bit s i) bits n ≡ gives (forward_of b) → ⊥
flip_found = flip_found_in_bytes track2 proper2

-- "If a stream reads forward and its reversal doesn't, then reading the reversal either way round gives the same characters"
pub reversal : (s t : List ℕ) (bits n : ℕ) (out : List ℕ) (m : ℕ) → Reverses s t bits → bits ≤ 8 * length t
    → track2_rule s bits n ≡ gives (forward_of out) → read_one track2 (stream false t bits) ≡ refuses m → track2_rule t bits n ≡ gives (reversed_of out)
reversal = reversal_in_bytes track2
