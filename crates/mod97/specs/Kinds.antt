-- The kinds of characters that the laws on changes and exchanges speak of.
use Rattle.std.specs.Prelude.{ℕ, ◌≡◌, true, ◌⊎◌}
use Prim.Native.Char.{code}
use Rattle.text.specs.Bytes.{is_digit, is_capital}

abbrev pub Digit : ℕ → Type 0
Digit c = is_digit c ≡ true

abbrev pub Capital : ℕ → Type 0
Capital c = is_capital c ≡ true

-- of the same kind: digit and digit, capital and capital
abbrev pub SameKind : ℕ → ℕ → Type 0
SameKind c d = (Digit c × Digit d) ⊎ (Capital c × Capital d)

-- a capital and a digit, in either order
abbrev pub Mixed : ℕ → ℕ → Type 0
Mixed c d = (Capital c × Digit d) ⊎ (Digit c × Capital d)

-- B with 1, M with 2, X with 3
abbrev pub Blind : ℕ → ℕ → Type 0
Blind c d = ((c ≡ code "B") × (d ≡ code "1")) ⊎ ((c ≡ code "M") × (d ≡ code "2")) ⊎ ((c ≡ code "X") × (d ≡ code "3"))

-- and these in either order
abbrev pub Unseen : ℕ → ℕ → Type 0
Unseen c d = Blind c d ⊎ Blind d c
