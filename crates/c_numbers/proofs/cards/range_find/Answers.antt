-- `range_find`: in tables that passed an offset is small.
use mathlib.Core.Path.{sym, ap, ◌∙◌}
use native.Mathlib.Omega.{arith}
use Rattle.reasons.specs.Reasons.{gives}
use Rattle.ranges.specs.declared.Place.{Place}
use Rattle.ranges.proofs.Steps.{whole}
use Rattle.ranges.proofs.Inside.{site_end, acquirer_end, range_tables, range_inside}
use Rattle.c_numbers.proofs.cards.range_find.Goals as goal

pub overflow_cast-at : goal.overflow_cast-at
overflow_cast-at c =
    let e = sym c.in-Ok-Site.ensures ∙ ap (λ (w : Place). gives w) c.in-Ok-Site.field-0-is in
    omega (arith, site_end (range_inside _ _ _ _ e), (whole _ (range_tables _ _ _ _ e).0).1)

pub overflow_cast-at-in-Ok-Acquirer : goal.overflow_cast-at-in-Ok-Acquirer
overflow_cast-at-in-Ok-Acquirer c =
    let e = sym c.in-Ok-Acquirer.ensures ∙ ap (λ (w : Place). gives w) c.in-Ok-Acquirer.field-0-is in
    omega (arith, acquirer_end (range_inside _ _ _ _ e), (whole _ (range_tables _ _ _ _ e).1).1)
