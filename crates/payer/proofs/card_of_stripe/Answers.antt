-- `card_of_stripe` reads into the scratch and goes on with what it reads, forward or reversed.
use mathlib.Core.Path.{sym, ap, ◌∙◌}
use lib.Seq.{length-take-le}
use Rattle.std.proofs.Common.{rules}
use Rattle.bits.specs.Reading.{said}
use Rattle.payer.specs.Payer.{terms_of, given}
use Rattle.payer.proofs.Cards.{unread, ReadSo, read_way, read_card}
use Rattle.payer.proofs.card_of_stripe.Goals as goal
use Rattle.payer.proofs.card_of_stripe.Goals.{After-count_of-n}

was_read : (c : After-count_of-n)
    → ReadSo (given c.args.track c.args.stream.now c.args.bits (terms_of c.args.terms) c.args.date) c.args.scratch.now c.read.new.out c.count_of-n.result
was_read c =
    rw c.count_of-n.ensures
    (read_way _ _ _ c.requires.0 c.read.ensures.1 c.in_ok-way.way (sym (ap said c.in_ok-way.was) ∙ c.read.ensures.0))

pub slice_bounds-card_of_chars-end : goal.slice_bounds-card_of_chars-end
slice_bounds-card_of_chars-end c = (was_read (goal.at.slice_bounds-card_of_chars-end c).After-count_of-n).fits

pub slice_bounds-card_of_chars-end-2 : goal.slice_bounds-card_of_chars-end-2
slice_bounds-card_of_chars-end-2 c = sym (length-take-le _ _ (was_read (goal.at.slice_bounds-card_of_chars-end-2 c).After-count_of-n).fits)

pub returns-in_err-way : goal.returns-in_err-way
returns-in_err-way c =
    let g = given c.args.track c.args.stream.now c.args.bits (terms_of c.args.terms) c.args.date in
    let u = unread g _ _ c.requires.0 c.read.ensures.1 _ (sym (ap said c.in_err-way.was) ∙ c.read.ensures.0) in
    (rw (← u.0) (search rules), search rules, u.1)

pub returns : goal.returns
returns c = read_card _ _ _ _ _ (was_read (goal.at.returns c).After-count_of-n) c.card_of_chars.ensures.0 c.card_of_chars.ensures.1
