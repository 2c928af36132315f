-- "Each is given exactly when its condition is the first to hold in the order stated for that call": the survey.
use Rattle.std.proofs.Common.{Option}
use Prim.Native.Nat.{ℕ}
use mathlib.Core.Path.{◌≡◌}
use mathlib.Core.Logic.{◌↔◌}
use mathlib.Core.List.{List}
use lib.Dec.{leb}
use lib.ListN.{length}
use Rattle.reasons.specs.Reasons.{refuses}
use Rattle.reasons.proofs.Laws.{First, never, refuses_exactly}
use Rattle.slots.specs.Journal.{slots_of, sized}
use Rattle.surveys.specs.Survey.{survey_rule}

module _ (m : Option ℕ) (j : List ℕ) (n : ℕ) where
  -- the survey: 16 only for a wrong length, then 1
  pub survey_refuses : (room : ℕ) → (survey_rule m j room ≡ refuses n) ↔ First (sized (length j)) 16 n (First (leb (slots_of j) room) 1 n ⊥)
  unfolding survey_rule
  survey_refuses room = refuses_exactly _ 16 _ n (refuses_exactly _ 1 _ n (never _ n))
