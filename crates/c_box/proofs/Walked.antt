-- That the offsets of shown records fit.
use Rattle.std.proofs.Common.{Option, Some, None}
use Prim.Native.Nat.{ℕ, ◌≤◌}
use mathlib.Core.Path.{◌≡◌, sym, ◌∙◌}
use mathlib.Core.List.{List}
use native.Mathlib.Omega.{arith}
use lib.ListN.{length}
use Rattle.reasons.specs.Reasons.{gives}
use Rattle.reasons.proofs.Laws.{gives_refuses}
use Rattle.slots.specs.Journal.{NewestIs}
use Rattle.held.specs.Rules.{show_rule}
use Rattle.held.proofs.Rule.{show_bad}

-- a journal of which something is shown has at most 65,536 bytes
pub short : (j : List ℕ) (s at : ℕ) (m : Option ℕ) → NewestIs j m → gives at ≡ show_rule m j s → length j ≤ 65536
short j s at None f e = gives_refuses at 16 (e ∙ sym (show_bad j s))
short j s at (Some b) f e = omega (arith, f.size, f.most)
