-- `label_tested` reads the label of the record that `find_tested` names.
use mathlib.Core.Path.{◌≡◌, sym, ap, ◌∙◌}
use native.Mathlib.Omega.{arith}
use Rattle.reasons.specs.Reasons.{gives}
use Rattle.ranges.specs.Ranges.{place_rule}
use Rattle.ranges.specs.declared.Place.{Place}
use Rattle.ranges.specs.declared.Place.TheVariants.{Site, Acquirer}
use Rattle.ranges.proofs.Inside.{site_end, acquirer_end, place_inside}
use Rattle.ranges.proofs.inner.label_tested.Goals.{In-Site, In-Acquirer}
use Rattle.ranges.proofs.inner.label_tested.Goals as goal

of_site : (c : In-Site) → let a = c.args in place_rule a.site.now a.acquirer.now a.pan.now ≡ gives (Site c.in-Site.at)
of_site c = sym c.in_ok-at.ensures ∙ ap (λ (w : Place). gives w) c.in-Site.is

of_acquirer : (c : In-Acquirer) → let a = c.args in place_rule a.site.now a.acquirer.now a.pan.now ≡ gives (Acquirer c.in-Acquirer.at)
of_acquirer c = sym c.in_ok-at.ensures ∙ ap (λ (w : Place). gives w) c.in-Acquirer.is

pub overflow_add-at : goal.overflow_add-at
overflow_add-at c = omega (arith, site_end (place_inside _ _ _ _ (of_site c)))

pub u16_at-requires : goal.u16_at-requires
u16_at-requires c = omega (arith, site_end (place_inside _ _ _ _ (of_site c)))

pub overflow_add-at-in-Acquirer : goal.overflow_add-at-in-Acquirer
overflow_add-at-in-Acquirer c = omega (arith, acquirer_end (place_inside _ _ _ _ (of_acquirer c)))

pub u16_at-requires-in-Acquirer : goal.u16_at-requires-in-Acquirer
u16_at-requires-in-Acquirer c = omega (arith, acquirer_end (place_inside _ _ _ _ (of_acquirer c)))
