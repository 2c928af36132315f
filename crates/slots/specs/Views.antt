-- Views: a call on a journal promises its rule for the one view that the journal has.
use Rattle.std.specs.Prelude.{ℕ, Bool, true, false, List, Option, Some, None}
use Rattle.slots.specs.Journal.{NewestIs}

-- what a view says: whether the journal is well formed, and its newest serial, 0 for none
abbrev pub formed : Option ℕ → Bool
formed None = false
formed (Some b) = true

abbrev pub newest : Option ℕ → ℕ
newest None = 0
newest (Some b) = b

-- there is a view of the journal j for which P holds (it is the only one: `view_one`)
pub record Seen (j : List ℕ) (P : Option ℕ → Type 0) : Type 0 where
  pub view : Option ℕ
  pub is : NewestIs j view
  pub so : P view
