use mathlib.Core.Path.{◌≡◌, sym, ◌∙◌}
use mathlib.Core.Bool.{true, false}
use lib.ListN.{get_or}
use Rattle.layout.specs.Layout.{mark}
use Rattle.layout.proofs.Steps.{field_missing, field_there}
use Rattle.layout.proofs.inner.due_at.Goals as goal

pub returns-then-byte_at-mark : goal.returns-then-byte_at-mark
returns-then-byte_at-mark c test n e = field_missing c.args.track test n _ _ (sym c.byte_at.ensures ∙ c.if-byte_at-mark.true ∙ c.mark.ensures)

pub returns-then-fits : goal.returns-then-fits
returns-then-fits c test n e =
    let unmarked : let a = c.args in get_or a.chars.now a.at 0 ≡ mark a.track → ⊥ = λ e. c.if-byte_at-mark.false (c.byte_at.ensures ∙ e ∙ sym c.mark.ensures) in
    field_there c.args.track test n _ _ unmarked true (sym e ∙ c.if-fits.true)

pub returns : goal.returns
returns c test n e =
    let unmarked : let a = c.args in get_or a.chars.now a.at 0 ≡ mark a.track → ⊥ = λ e. c.if-byte_at-mark.false (c.byte_at.ensures ∙ e ∙ sym c.mark.ensures) in
    field_there c.args.track test n _ _ unmarked false (sym e ∙ c.if-fits.false)
