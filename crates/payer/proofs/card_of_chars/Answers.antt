-- `card_of_chars` divides the characters and asks about their PAN and expiry.
use mathlib.Core.Path.{◌≡◌, sym, ap, ◌∙◌}
use Rattle.std.proofs.Common.{rules}
use Rattle.reasons.specs.Reasons.{gives, said}
use Rattle.payer.specs.Payer.{division_rule, chars_rule}
use Rattle.payer.proofs.Cards.{divided, well_divided}
use Rattle.payer.proofs.card_of_chars.Goals as goal
use Rattle.payer.proofs.card_of_chars.Goals.{In_ok-spot}

stands : (c : In_ok-spot) → division_rule c.args.track c.args.chars.now ≡ gives c.in_ok-spot.spot
stands c = sym c.spot_of.ensures ∙ ap said c.in_ok-spot.was

pub card_at-requires : goal.card_at-requires
card_at-requires c = (c.requires.0, c.requires.1, divided _ _ _ (stands (goal.at.card_at-requires c).In_ok-spot))

pub returns-in_err-spot : goal.returns-in_err-spot
unfolding chars_rule
returns-in_err-spot c = (rw (← c.spot_of.ensures, c.in_err-spot.was) (search rules), search rules)

pub returns : goal.returns
returns c = (rw (well_divided _ _ _ _ _ (stands (goal.at.returns c).In_ok-spot)) c.card_at.ensures.0, c.card_at.ensures.1)
