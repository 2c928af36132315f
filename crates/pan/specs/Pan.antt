-- Card numbers (document 01, 'Card numbers, masking and ranges').
use Rattle.std.specs.Prelude.{ℕ, ◌-◌, ◌≡◌, Bool, Result, List, ◌++◌, leb, length, take, drop, replicate}
use Rattle.text.specs.Bytes.{within, all_digits}
use Rattle.text.specs.Numbers.{put}
use Rattle.reasons.specs.Reasons.{Outcome, gives, demand, after, said}
use Rattle.reasons.specs.declared.Reason.{Reason}

-- a card number (PAN) has 13 to 19 digits (house): whether n is such a count
abbrev pub pan_length : ℕ → Bool
pan_length n = within 13 19 n

-- how many digits of a PAN of n digits are shown, first and last
unfoldable pub front_shown : ℕ → ℕ
front_shown n = 6

unfoldable pub back_shown : ℕ → ℕ
back_shown n = 4

-- the digits shown
abbrev pub front : List ℕ → List ℕ
front pan = take (front_shown (length pan)) pan

abbrev pub back : List ℕ → List ℕ
back pan = drop (length pan - back_shown (length pan)) pan

abbrev pub shown : List ℕ → List ℕ
shown pan = front pan ++ back pan

-- `*` (42) for each hidden digit of n
abbrev pub stars : ℕ → List ℕ
stars n = replicate (n - front_shown n - back_shown n) 42

-- the masked text has the PAN's length: first six digits, `*` for each hidden one, last four
unfoldable pub masked : List ℕ → List ℕ
masked pan = front pan ++ stars (length pan) ++ back pan

-- masking into an output of `room` bytes: 2, 3, then 1 if the output is shorter than the PAN
unfoldable pub mask_rule : List ℕ → ℕ → Outcome (Unit {0})
mask_rule pan room =
    demand (pan_length (length pan)) 2
    (demand (all_digits pan) 3
    (demand (leb (length pan) room) 1
    (gives tt)))

-- the output afterwards: bytes past the masked text stay, and on a refusal all do
unfoldable pub mask_bytes : List ℕ → List ℕ → List ℕ
mask_bytes pan out = after (mask_rule pan (length out)) out (λ _. put out 0 (masked pan))

-- what masking allows as answer r and as output k, lent the output `out`
abbrev pub Masks : List ℕ → List ℕ → Result (Unit {0}) Reason → List ℕ → Type 0
Masks pan out r k = (said r ≡ mask_rule pan (length out)) × (k ≡ mask_bytes pan out)
