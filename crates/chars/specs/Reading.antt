-- Reading a track from its bits, one way. What differs between tracks is a format.
use Rattle.std.specs.Prelude.{Bool, true, false, ◌&&◌, not, cond, List, [], ◌∷◌, ◌++◌, ℕ, zero, suc, ◌+◌, ◌-◌, length, take, drop, leb, eqb}
use Rattle.std.specs.Int.Bits.{bit_xor}
use Rattle.reasons.specs.Reasons.{Outcome, gives, refuses, demand, and_then}
use Rattle.stream.specs.Stream.{number, odd}

-- what characters are made of
pub record Letters : Type 0 where
  -- the data bits of a character; its parity bit comes after them
  pub data_bits : ℕ
  -- the end sentinel's number
  pub end_number : ℕ
  -- the byte that number 0 stands for
  pub base : ℕ

pub record Format : Type 0 where
  pub letters : Letters
  -- the start sentinel's bits, with its parity bit
  pub start : List Bool
  -- the last character that may be the end sentinel, the start sentinel being the first
  pub limit : ℕ

-- the number of the character in front: "fewer than five bits left is 9, even parity is 10"
unfoldable pub next : ℕ → List Bool → Outcome ℕ
next d s = demand (leb (suc d) (length s)) 9 (demand (odd (take (suc d) s)) 10 (gives (number (take d s))))

unfoldable pub all_zero : List Bool → Bool
all_zero [] = true
all_zero (b ∷ s) = not b && all_zero s

-- "Then the LRC character: 9, 10, 12. All bits after it must be zero, else 13": x is the exclusive or of all characters
unfoldable pub finish : ℕ → ℕ → List ℕ → List Bool → Outcome (List ℕ)
finish d x out s = and_then (next d s) (λ n. demand (eqb n x) 12 (demand (all_zero (drop (suc d) s)) 13 (gives out)))

-- "Then characters one by one .. Stop at the first end sentinel": at most k more, the end sentinel among them, or 11.
-- x is the exclusive or so far, out the characters so far
unfoldable pub body : Letters → ℕ → ℕ → List ℕ → List Bool → Outcome (List ℕ)
body l zero x out s = refuses 11
body l (suc k) x out s =
    and_then (next l.data_bits s)
    (λ n. cond (eqb n l.end_number)
    (finish l.data_bits (bit_xor x n) out (drop (suc l.data_bits) s))
    (body l k (bit_xor x n) (out ++ ((l.base + n) ∷ [])) (drop (suc l.data_bits) s)))

-- "skip zeros to the first one bit"
unfoldable pub skip : List Bool → List Bool
skip [] = []
skip (false ∷ s) = skip s
skip (true ∷ s) = true ∷ s

abbrev pub same : Bool → Bool → Bool
same true b = b
same false b = not b

-- the bits p stand at the front of s
unfoldable pub begins : List Bool → List Bool → Bool
begins [] s = true
begins (a ∷ p) [] = false
begins (a ∷ p) (b ∷ s) = same a b && begins p s

-- "The five bits from there must exist and be 11010, else 8"
unfoldable pub read_one : Format → List Bool → Outcome (List ℕ)
read_one f s =
    demand (begins f.start (skip s)) 8
    (body f.letters (f.limit - 1) (number (take f.letters.data_bits f.start)) [] (drop (suc f.letters.data_bits) (skip s)))
