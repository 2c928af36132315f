use mathlib.Core.Path.{◌∙◌}
use native.Mathlib.Omega.{arith}
use Rattle.journal.proofs.Rule.{pan_few, pan_many, pan_luhn}
use Rattle.journal.proofs.inner.pan_tested.Goals as goal

pub returns-then-n-lt13 : goal.returns-then-n-lt13
returns-then-n-lt13 c = pan_few _ c.if-n-lt13.true

pub returns-then-n-gt19 : goal.returns-then-n-gt19
returns-then-n-gt19 c = pan_many _ c.if-n-gt19.true

pub returns : goal.returns
returns c = c.test.ensures ∙ pan_luhn _ (omega arith) (omega arith)
