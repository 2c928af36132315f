use mathlib.Core.Path.{◌∙◌}
use Rattle.bits.proofs.Starts.{start_cut, start_other, start_found}
use Rattle.bits.proofs.read_one.Goals as goal

pub returns-then-s-at : goal.returns-then-s-at
returns-then-s-at c =
    let at = c.first_one-at in
    (start_cut c.args.h c.args.s.now _ at.ensures.0 at.ensures.1 c.if-s-at.true, c.args.h.some)

pub returns-then-number_at-h : goal.returns-then-number_at-h
returns-then-number_at-h c =
    let at = c.first_one-at in (
      start_other c.args.h c.args.s.now _ at.ensures.0 at.ensures.1 c.if-s-at.false _ c.number_at.ensures.0 c.if-number_at-h.true,
      c.args.h.some,
    )

pub returns : goal.returns
returns c =
    let at = c.first_one-at in (
      c.read_body.ensures.0
          ∙ start_found c.args.h c.args.s.now _ at.ensures.0 at.ensures.1 c.if-s-at.false _ c.number_at.ensures.0 c.if-number_at-h.false,
      c.read_body.ensures.1,
    )
