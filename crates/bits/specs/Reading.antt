-- Reading a track from its bits, either way round.
use Rattle.std.specs.Prelude.{◌≡◌, Bool, true, false, ◌&&◌, cond, List, reverse, ℕ, ◌-◌, ◌*◌, length, leb, eqb, Result, Ok, Err}
use Rattle.text.specs.Numbers.{put}
use Rattle.reasons.specs.declared.Reason.{Reason}
use Rattle.reasons.specs.Reasons.{number_of, Outcome, gives, refuses, demand, and_then, after}
use Rattle.stream.specs.Stream.{stream}
use Rattle.chars.specs.Reading.{Format, read_one}
use Rattle.bits.specs.declared.Read.{Read}
use Rattle.bits.specs.declared.Read.TheVariants.{Forward, Reversed}

-- what a reading either way round gives: the direction, and the characters strictly between the sentinels
pub record Track : Type 0 where
  pub reversed : Bool
  pub chars : List ℕ

abbrev pub forward_of : List ℕ → Track
forward_of out = record { reversed = false; chars = out }

abbrev pub reversed_of : List ℕ → Track
reversed_of out = record { reversed = true; chars = out }

-- "If both refuse, the answer is forward's number, unless that is 8, when it is the reversed reading's number"
abbrev pub choose : Outcome (List ℕ) → Outcome (List ℕ) → Outcome Track
choose (gives out) r = gives (forward_of out)
choose (refuses a) (gives out) = gives (reversed_of out)
choose (refuses a) (refuses b) = refuses (cond (eqb a 8) b a)

-- "Read forward; if refused, read the stream reversed, last bit first"
unfoldable pub read_either : Format → List Bool → Outcome Track
read_either f s = choose (read_one f s) (read_one f (reverse s))

-- the call, with s lent, a bit count and n bytes of output: 1, 7, then the reading
unfoldable pub read_rule : Format → List ℕ → ℕ → ℕ → Outcome Track
read_rule f s count n =
    demand (leb (f.limit - 2) n) 1
    (demand (leb count 4096 && leb count (8 * length s)) 7
    (read_either f (stream false s count)))

-- "the characters .. go to the output's first bytes .. later bytes stay"
abbrev pub bytes_after : Outcome Track → List ℕ → List ℕ
bytes_after o out = after o out (λ t. put out 0 t.chars)

abbrev pub read_bytes : Format → List ℕ → ℕ → List ℕ → List ℕ
read_bytes f s count out = bytes_after (read_rule f s count (length out)) out

-- what an answer says: the direction and the count of the characters, or the number
abbrev pub said : Result Read Reason → Outcome (Bool × ℕ)
said (Ok (Forward n)) = gives (false, n)
said (Ok (Reversed n)) = gives (true, n)
said (Err r) = refuses (number_of r)

-- "with their count and the direction"
abbrev pub counted : Outcome Track → Outcome (Bool × ℕ)
counted o = and_then o (λ t. gives (t.reversed, length t.chars))

-- what a reading either way round promises: its answer, and the output after it
abbrev pub Reads : Format → List ℕ → ℕ → List ℕ → Result Read Reason → List ℕ → Type 0
Reads f s bits old r new = (said r ≡ counted (read_rule f s bits (length old))) × (new ≡ read_bytes f s bits old)
