-- `look_up` gives the part that `find` names.
use mathlib.Core.Path.{◌≡◌, refl, sym, ap, ◌∙◌}
use native.Mathlib.Omega.{arith}
use native.Mathlib.Nat.{add-sub_cancel_left}
use borrow.Author.Rules.{rules}
use Rattle.reasons.specs.Reasons.{gives}
use Rattle.ranges.specs.Ranges.{range_rule}
use Rattle.ranges.specs.declared.Place.{Place}
use Rattle.ranges.specs.declared.Place.TheVariants.{Site, Acquirer}
use Rattle.ranges.proofs.Inside.{site_end, acquirer_end, range_inside, site_part, acquirer_part, no_part}
use Rattle.ranges.proofs.look_up.Goals.{In-Ok-Site, In-Ok-Acquirer}
use Rattle.ranges.proofs.look_up.Goals as goal

of_site : (c : In-Ok-Site) → let a = c.args in range_rule a.site.now a.acquirer.now a.pan.now ≡ gives (Site c.in-Ok-Site.at)
of_site c = sym c.in-Ok-Site.ensures ∙ ap (λ (w : Place). gives w) c.in-Ok-Site.field-0-is

of_acquirer : (c : In-Ok-Acquirer) → let a = c.args in range_rule a.site.now a.acquirer.now a.pan.now ≡ gives (Acquirer c.in-Ok-Acquirer.at)
of_acquirer c = sym c.in-Ok-Acquirer.ensures ∙ ap (λ (w : Place). gives w) c.in-Ok-Acquirer.field-0-is

pub overflow_add-result : goal.overflow_add-result
overflow_add-result c = omega (arith, site_end (range_inside _ _ _ _ (of_site c)))

pub slice_bounds-result-end : goal.slice_bounds-result-end
slice_bounds-result-end c = omega (arith, site_end (range_inside _ _ _ _ (of_site c)))

pub overflow_add-result-in-Ok-Acquirer : goal.overflow_add-result-in-Ok-Acquirer
overflow_add-result-in-Ok-Acquirer c = omega (arith, acquirer_end (range_inside _ _ _ _ (of_acquirer c)))

pub slice_bounds-result-end-in-Ok-Acquirer : goal.slice_bounds-result-end-in-Ok-Acquirer
slice_bounds-result-end-in-Ok-Acquirer c = omega (arith, acquirer_end (range_inside _ _ _ _ (of_acquirer c)))

pub returns-in-Ok-Site : goal.returns-in-Ok-Site
returns-in-Ok-Site c =
    site_part _ _ _ _ _ (of_site (goal.at.returns-in-Ok-Site c).In-Ok-Site)
    (record { block = refl; place = search rules; bytes = rw add-sub_cancel_left })

pub returns-in-Ok-Acquirer : goal.returns-in-Ok-Acquirer
returns-in-Ok-Acquirer c =
    acquirer_part _ _ _ _ _ (of_acquirer (goal.at.returns-in-Ok-Acquirer c).In-Ok-Acquirer)
    (record { block = refl; place = search rules; bytes = rw add-sub_cancel_left })

pub returns-in-Err : goal.returns-in-Err
returns-in-Err c = no_part _ _ _ _ _ (sym c.in-Err.ensures) (record { block = refl; place = omega arith; bytes = refl })
