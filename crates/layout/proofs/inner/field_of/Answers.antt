use mathlib.Core.Path.{subst}
use native.Mathlib.Omega.{arith}
use Prim.Native.Nat.{ℕ, ◌+◌, ◌≤◌}
use lib.ListN.{length}
use Rattle.layout.specs.Layout.{field_cut}
use Rattle.std.proofs.Common.{Option}
use Rattle.layout.proofs.inner.field_of.Goals as goal

pub cut-requires : goal.cut-requires
cut-requires c = omega (arith, subst (λ (f : Option ℕ). (field_cut c.args.n f).start + (field_cut c.args.n f).size ≤ length c.args.chars.now) c.in-Some.is c.requires)

pub returns-in-Some : goal.returns-in-Some
returns-in-Some c = rw c.in-Some.is c.cut.ensures

pub returns-in-None : goal.returns-in-None
returns-in-None c = rw c.in-None.is c.cut-in-None.ensures
