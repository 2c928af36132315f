use mathlib.Core.Path.{refl}
use native.Mathlib.Omega.{arith}
use native.Mathlib.Nat.{add-sub_cancel_left}
use Rattle.layout.proofs.inner.cut.Goals as goal

pub returns : goal.returns
returns c = record { block = refl; place = omega arith; bytes = rw add-sub_cancel_left }
