use Rattle.std.proofs.Common.{sym, ◌∙◌, arith}
use Rattle.surveys.specs.Survey.{Belongs, free, held}
use Rattle.surveys.proofs.Surveys.{no_serial, no_place, no_record, belongs, not_held}
use Rattle.surveys.proofs.slot_state.Goals as goal
use Rattle.surveys.proofs.slot_state.Goals.{Else-not-good}

the_slot : (c : Else-not-good) → Belongs c.args.j.now c.args.k
the_slot c =
    belongs _ _ _ c.u32_at-s.ensures c.if-s-eq0.false _ _ c.requires.0 c.place_of.ensures.0 c.if-place_of-at.false (c.good.ensures.0 c.if-not-good.false)

pub returns-then-zeros : goal.returns-then-zeros
returns-then-zeros c = free (c.zeros.ensures.0 c.if-zeros.true)

pub returns-then-s-eq0 : goal.returns-then-s-eq0
returns-then-s-eq0 c = no_serial _ _ _ c.u32_at-s.ensures (c.zeros.ensures.1 c.if-zeros.false) c.if-s-eq0.true

pub returns-then-place_of-at : goal.returns-then-place_of-at
returns-then-place_of-at c =
    let some = c.zeros.ensures.1 c.if-zeros.false in
    no_place _ _ _ c.u32_at-s.ensures some _ _ c.requires.0 c.place_of.ensures.0 (λ e. omega (arith, e, c.if-place_of-at.true))

pub returns-then-not-good : goal.returns-then-not-good
returns-then-not-good c = no_record _ _ _ c.u32_at-s.ensures (c.zeros.ensures.1 c.if-zeros.false) (c.good.ensures.1 c.if-not-good.true)

pub returns-then-is_held : goal.returns-then-is_held
returns-then-is_held c = held (the_slot (goal.at.returns-then-is_held c).Else-not-good) (sym c.is_held.ensures ∙ c.if-is_held.true)

pub returns : goal.returns
returns c = not_held _ _ (the_slot (goal.at.returns c).Else-not-good) (sym c.is_held.ensures ∙ c.if-is_held.false)
