-- What a reading says, in terms of what it gives.
use Prim.Native.Nat.{ℕ, ◌-◌, ◌≤◌}
use mathlib.Core.Path.{◌≡◌, refl, sym, ap}
use mathlib.Core.Bool.{Bool}
use mathlib.Core.List.{List}
use native.Mathlib.Omega.{arith}
use lib.ListN.{length}
use Rattle.reasons.specs.Reasons.{Outcome, gives, refuses}
use Rattle.reasons.proofs.Laws.{gives_refuses}
use Rattle.chars.specs.Reading.{Format}
use Rattle.bits.specs.Reading.{Track, read_rule, counted}
use Rattle.bits.proofs.Laws.{chars_fit}

-- the track behind a direction and a count
pub record Behind (o : Outcome Track) (d : Bool) (n : ℕ) : Type 0 where
  pub track : Track
  pub is : gives track ≡ o
  pub direction : d ≡ track.reversed
  pub count : n ≡ length track.chars

pub behind : (o : Outcome Track) (d : Bool) (n : ℕ) → gives (d, n) ≡ counted o → Behind o d n
behind (gives t) d n e =
    let z : ◌≡◌ {A = Bool × ℕ} (d, n) (t.reversed, length t.chars) = cc in
    record { track = t; is = refl; direction = ap (λ (p : Bool × ℕ). p.0) z; count = ap (λ (p : Bool × ℕ). p.1) z }
behind (refuses m) d n e = gives_refuses (d, n) m e

pub refused : (o : Outcome Track) (m : ℕ) → refuses m ≡ counted o → refuses m ≡ o
refused (gives t) m e = gives_refuses (t.reversed, length t.chars) m (sym e)
refused (refuses n) m e = let z : m ≡ n = cc in ap refuses z

-- the count is small
pub few : (f : Format) (s : List ℕ) (bits room : ℕ) (d : Bool) (n : ℕ) → gives (d, n) ≡ counted (read_rule f s bits room) → n ≤ f.limit - 2
few f s bits room d n e =
    let b = behind (read_rule f s bits room) d n e in
    omega (arith, b.count, chars_fit f s bits room b.track (sym b.is))
