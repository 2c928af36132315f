-- `list_ok`: the list's last number tells of all.
use mathlib.Core.Path.{◌≡◌, sym, ◌∙◌}
use mathlib.Core.Bool.{true}
use native.Mathlib.Omega.{arith}
use Rattle.text.proofs.Tests.{inside}
use Rattle.pan.specs.Pan.{pan_length}
use Rattle.hotlist.specs.Hotlist.{rises}
use Rattle.hotlist.proofs.Steps.{nothing_listed, by_last}
use Rattle.hotlist.proofs.inner.list_ok.Goals.{Else-digits-gt19, Else-not-rises}
use Rattle.hotlist.proofs.inner.list_ok.Goals as goal

counted : (c : Else-digits-gt19) → pan_length c.args.digits ≡ true
counted c = inside 13 19 _ c.if-digits-lt13.false c.if-digits-gt19.false

rising : (c : Else-not-rises) → rises c.args.list.now ≡ true
rising c = sym c.rises.ensures ∙ c.if-not-rises.false

pub returns-in-None : goal.returns-in-None
returns-in-None c =
    let p = goal.at.returns-in-None c in
    sym (nothing_listed _ _ c.if-list-gt8192.false (counted p.Else-digits-gt19) (rising p.Else-not-rises) (omega (arith, c.in-None.ensures.item)))

pub too_large-requires : goal.too_large-requires
too_large-requires c = counted (goal.at.too_large-requires c).Else-digits-gt19

pub returns-in-Some : goal.returns-in-Some
returns-in-Some c =
    let p = goal.at.returns-in-Some c in
    let there = c.in-Some.ensures.item.3 in
    by_last _ _ c.if-list-gt8192.false (counted p.Else-digits-gt19) (rising p.Else-not-rises) _ _ (there.1 0) c.too_large.ensures there.0
