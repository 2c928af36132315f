-- "Each is given exactly when its condition is the first to hold in the order stated for that call": show and tell.
use Rattle.std.proofs.Common.{Option}
use Prim.Native.Nat.{ℕ}
use mathlib.Core.Path.{◌≡◌}
use mathlib.Core.Logic.{◌↔◌}
use mathlib.Core.List.{List}
use Rattle.reasons.specs.Reasons.{refuses}
use Rattle.reasons.proofs.Laws.{First, never, refuses_exactly}
use Rattle.slots.specs.Views.{formed, newest}
use Rattle.held.specs.Rules.{tell_rule, held_in, show_rule}

module _ (m : Option ℕ) (j : List ℕ) (n : ℕ) where
  -- "16, 20 unless held"
  pub show_refuses : (s : ℕ) → (show_rule m j s ≡ refuses n) ↔ First (formed m) 16 n (First (held_in j (newest m) s) 20 n ⊥)
  unfolding show_rule
  show_refuses s = refuses_exactly _ 16 _ n (refuses_exactly _ 20 _ n (never _ n))

  -- tell: 16
  pub tell_refuses : (tell_rule m j ≡ refuses n) ↔ First (formed m) 16 n ⊥
  unfolding tell_rule
  tell_refuses = refuses_exactly _ 16 _ n (never _ n)
