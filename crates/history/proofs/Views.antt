-- Journals that differ in clocks alone have one view.
use Rattle.std.proofs.Common.{Option}
use Prim.Native.Nat.{ℕ}
use mathlib.Core.Path.{subst}
use mathlib.Core.List.{List}
use Rattle.slots.specs.Journal.{NewestIs, SameButClocks}
use Rattle.slots.specs.Views.{Seen}
use Rattle.slots.proofs.Views.{view_one}
use Rattle.slots.proofs.Clocks.{clock_view}

-- what two promises about journals that differ in clocks alone say of their one view
pub record Both (j k : List ℕ) (P Q : Option ℕ → Type 0) : Type 0 where
  pub view : Option ℕ
  pub is : NewestIs j view
  pub left : P view
  pub right : Q view

pub both : {P Q : Option ℕ → Type 0} (j k : List ℕ) → SameButClocks j k → Seen j P → Seen k Q → Both j k P Q
both {P} {Q} j k s p q =
    record { view = p.view; is = p.is; left = p.so; right = subst Q (view_one k q.view p.view q.is (clock_view j k s p.view p.is)) q.so }
