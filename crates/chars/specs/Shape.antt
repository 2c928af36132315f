-- What the functions take and answer, in the terms of the reading.
use Rattle.std.specs.Prelude.{◌≡◌, Bool, true, List, [], ◌∷◌, ℕ, ◌-◌, ◌^◌, ◌≤◌, ◌<◌, take, Result, Ok, Err}
use Rattle.reasons.specs.declared.Reason.{Reason}
use Rattle.reasons.specs.Reasons.{number_of, Outcome, gives, refuses}
use Rattle.stream.specs.Stream.{number, bits_of}
use Rattle.chars.specs.Reading.{Letters, Format, body}
use Rattle.chars.specs.declared.shape.Shape.{Shape}

-- the format that a shape stands for
abbrev pub letters_of : ℕ → ℕ → ℕ → Letters
letters_of size last base = record { data_bits = size; end_number = last; base = base }

abbrev pub format_of : Shape → Format
format_of h = record { letters = letters_of h.size h.last h.base; start = true ∷ bits_of h.size h.start; limit = h.limit }

-- what is known of every shape
pub record Sound (h : Shape) : Type 0 where
  pub any : 1 ≤ h.size
  pub few : h.size ≤ 6
  pub low : h.base ≤ 128
  pub short : h.limit ≤ 78
  pub some : 2 ≤ h.limit
  pub start_fits : h.start < 2 ^ h.size
  pub four : h.pairs ≡ true → h.size ≡ 4
  pub first_is : number (take h.size (true ∷ bits_of h.size h.start)) ≡ h.first

-- what a reading says, with the bytes that it wrote
abbrev pub found : Result ℕ Reason → List ℕ → Outcome (List ℕ)
found (Ok n) out = gives (take n out)
found (Err r) out = refuses (number_of r)

-- how many characters were found
abbrev pub found_count : Result ℕ Reason → ℕ
found_count (Ok n) = n
found_count (Err r) = 0

-- the characters behind the start sentinel, and what is left of them behind so many, with their exclusive or
abbrev pub body_of : Shape → List Bool → Outcome (List ℕ)
body_of h s = body (letters_of h.size h.last h.base) (h.limit - 1) h.first [] s

abbrev pub rest_of : Shape → ℕ → ℕ → List ℕ → List Bool → Outcome (List ℕ)
rest_of h len lrc chars s = body (letters_of h.size h.last h.base) (h.limit - 1 - len) lrc chars s
