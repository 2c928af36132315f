-- Readings and divisions as C has them.
use Rattle.std.specs.Prelude.{ℕ, Bool, length, Result, Ok, Err, Option, Some, None}
use Rattle.stream.specs.Stream.{bit_n}
use Rattle.reasons.specs.declared.Reason.{Reason}
use Rattle.bits.specs.Reading.{Track}
use Rattle.bits.specs.declared.Read.{Read}
use Rattle.bits.specs.declared.Read.TheVariants.{Forward, Reversed}
use Rattle.layout.specs.declared.Fields.{Fields}
use Rattle.layout1.specs.declared.Fields.{Fields as Fields1}

-- a track read: how many characters it has, and 1 where it was read reversed
abbrev pub counts_of : Track → ℕ × ℕ
counts_of t = (length t.chars, bit_n t.reversed)

-- the same of the direction and the count that a reading answers
abbrev pub counts_told : Bool × ℕ → ℕ × ℕ
counts_told v = (v.1, bit_n v.0)

-- how many characters that answer says
abbrev pub chars_in : Result Read Reason → ℕ
chars_in (Ok (Forward n)) = n
chars_in (Ok (Reversed n)) = n
chars_in (Err r) = 0

-- where a field starts, 0 for an absent one
abbrev pub start_of : Option ℕ → ℕ
start_of None = 0
start_of (Some q) = q

-- a division: the PAN's length, and where the expiry, the service code and the discretionary data start, 0 for an absent field
abbrev pub starts_of : Fields → ℕ × ℕ × ℕ × ℕ
starts_of d = (d.pan, start_of d.expiry, start_of d.service, d.rest)

-- a division of track 1: the lengths of PAN and name, and the same starts
abbrev pub starts1_of : Fields1 → ℕ × ℕ × ℕ × ℕ × ℕ
starts1_of d = (d.pan, d.name, start_of d.expiry, start_of d.service, d.rest)
