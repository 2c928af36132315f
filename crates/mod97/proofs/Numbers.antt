-- Digits and capitals by their numbers: all that is used of the kinds.
use Prim.Native.Nat.{ℕ, ◌+◌, ◌*◌, ◌-◌, ◌<◌, ◌≤◌}
use mathlib.Core.Path.{◌≡◌, refl}
use mathlib.Core.Logic.{◌⊎◌, inl, inr}
use native.Mathlib.Omega.{arith}
use native.Mathlib.Decide.{dec_lt, ℕ_discrete}
use borrow.Author.Tests.{lt-ltb, le-ltb}
use Rattle.text.specs.Bytes.{is_digit, is_capital}
use Rattle.text.proofs.Tests.{inside_is}
use Rattle.mod97.specs.Kinds.{Digit, Capital, SameKind, Blind}
use Rattle.mod97.specs.Text.{number}

-- the number of a character, by its place in ASCII
pub number-low : (c : ℕ) → c < 65 → number c ≡ c - 48
unfolding number
number-low c h = rw (lt-ltb c 65 h)

pub number-high : (c : ℕ) → 65 ≤ c → number c ≡ c - 55
unfolding number
number-high c h = rw (le-ltb c 65 h)

-- bytes up to '9' have numbers of one digit, all others of two or more
pub number_one : (c : ℕ) → c < 58 → number c < 10
number_one c h = omega (arith, number-low c (omega arith))

pub number_two : (c : ℕ) → 58 ≤ c → 10 ≤ number c
number_two c h = go (dec_lt c 65)
  where
    go : Dec (c < 65) → 10 ≤ number c
    go (yes l) = omega (arith, number-low c l)
    go (no l) = omega (arith, number-high c (omega arith))

-- a character whose number has one digit, or two; and two alike in that
abbrev pub OneDigit : ℕ → Type 0
OneDigit c = number c < 10

abbrev pub TwoDigits : ℕ → Type 0
TwoDigits c = (10 ≤ number c) × (number c < 97)

abbrev pub Alike : ℕ → ℕ → Type 0
Alike c d = (OneDigit c × OneDigit d) ⊎ (TwoDigits c × TwoDigits d)

digit_number : (c : ℕ) → Digit c → (c ≡ 48 + number c) × OneDigit c
unfolding is_digit
digit_number c h =
    let b = inside_is 48 57 c h in
    let e = number-low c (omega arith) in
    (omega arith, omega arith)

capital_number : (c : ℕ) → Capital c → (c ≡ 55 + number c) × (10 ≤ number c) × (number c < 36)
unfolding is_capital
capital_number c h =
    let b = inside_is 65 90 c h in
    let e = number-high c (omega arith) in
    (omega arith, omega arith, omega arith)

pub digit_one : (c : ℕ) → Digit c → OneDigit c
digit_one c h = (digit_number c h).1

pub capital_two : (c : ℕ) → Capital c → TwoDigits c
capital_two c h = let n = capital_number c h in (omega arith, omega arith)

pub alike : (c d : ℕ) → SameKind c d → Alike c d
alike c d (inl (h, k)) = inl (digit_one c h, digit_one d k)
alike c d (inr (h, k)) = inr (capital_two c h, capital_two d k)

-- two characters of the same kind with one number are the same
pub same_number : (c d : ℕ) → SameKind c d → number c ≡ number d → c ≡ d
same_number c d (inl (h, k)) e = omega (arith, (digit_number c h).0, (digit_number d k).0)
same_number c d (inr (h, k)) e = omega (arith, (capital_number c h).0, (capital_number d k).0)

-- B with 1, M with 2, X with 3: the capital's number is eleven times the digit's
pub eleven_blind : (c d : ℕ) → Capital c → Digit d → number c ≡ 11 * number d → Blind c d
eleven_blind c d hc hd e = go (ℕ_discrete (number d) 1) (ℕ_discrete (number d) 2)
  where
    go : Dec (number d ≡ 1) → Dec (number d ≡ 2) → Blind c d
    go (yes p) q = inl (omega (arith, capital_number c hc, digit_number d hd), omega (arith, digit_number d hd))
    go (no p) (yes q) = inr (inl (omega (arith, capital_number c hc, digit_number d hd), omega (arith, digit_number d hd)))
    go (no p) (no q) = inr (inr (omega (arith, capital_number c hc, digit_number d hd), omega (arith, capital_number c hc, digit_number d hd)))

pub blind_kinds : (c d : ℕ) → Blind c d → Capital c × Digit d × (number c ≡ 11 * number d)
unfolding is_digit is_capital number
blind_kinds c d (inl (p, q)) = rw (p, q) (refl, refl, refl)
blind_kinds c d (inr (inl (p, q))) = rw (p, q) (refl, refl, refl)
blind_kinds c d (inr (inr (p, q))) = rw (p, q) (refl, refl, refl)
