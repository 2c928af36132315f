-- What C gets of a reading, and of the fields of a division.
use Prim.Native.Nat.{ℕ, ◌-◌, ◌≤◌}
use mathlib.Core.Path.{◌≡◌, refl}
use mathlib.Core.Bool.{true, false}
use mathlib.Core.List.{List}
use native.Mathlib.Omega.{arith}
use Rattle.std.proofs.Common.{Result, Ok, Err, Option, Some, None}
use Rattle.reasons.specs.declared.Reason.{Reason}
use Rattle.reasons.specs.Reasons.{Outcome, gives, refuses}
use Rattle.chars.specs.Reading.{Format}
use Rattle.bits.specs.Reading.{Track, read_rule, said, counted}
use Rattle.bits.specs.declared.Read.{Read}
use Rattle.bits.specs.declared.Read.TheVariants.{Forward, Reversed}
use Rattle.bits.proofs.Counts as counts
use Rattle.layout.specs.Layout.{field_cut}
use Rattle.c_stripe.specs.Values.{counts_of, counts_told, chars_in, start_of}
use Rattle.hands.specs.Hands.{Hands}
use Rattle.hands.proofs.Handed.{outcome_is}

-- few characters were read
pub few : (f : Format) (s : List ℕ) (bits room : ℕ) (q : Result Read Reason) → said q ≡ counted (read_rule f s bits room) → chars_in q ≤ f.limit - 2
few f s bits room (Ok (Forward n)) e = counts.few f s bits room false n e
few f s bits room (Ok (Reversed n)) e = counts.few f s bits room true n e
few f s bits room (Err r) e = omega arith

-- what the answer hands over is what the track read hands over
pub read_so : (o : Outcome Track) (q : Result Read Reason) (x : ℕ × ℕ) (r : ℕ) (y : ℕ × ℕ) → said q ≡ counted o → Hands (said q) x counts_told r y → Hands o x counts_of r y
read_so o q x r y e h = by o (outcome_is x counts_told (said q) (counted o) r y e h)
  where
    by : (p : Outcome Track) → Hands (counted p) x counts_told r y → Hands p x counts_of r y
    by (gives t) h = record { number = h.number; behind = h.behind }
    by (refuses n) h = record { number = h.number; behind = h.behind }

-- a field starts where its part of the characters does, whatever its size
pub start_is : (f : Option ℕ) (n : ℕ) → start_of f ≡ (field_cut n f).start
start_is None n = refl
start_is (Some q) n = refl
