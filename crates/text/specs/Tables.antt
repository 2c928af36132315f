-- A table that holds a rule's values.
use Rattle.std.specs.Prelude.{List, [], ◌∷◌, ℕ, zero, suc}

-- the rule's values at n numbers from i on
abbrev pub tabled : (ℕ → ℕ) → ℕ → ℕ → List ℕ
tabled rule i zero = []
tabled rule i (suc n) = rule i ∷ tabled rule (suc i) n
