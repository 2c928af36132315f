use Rattle.std.proofs.Common.{◌≡◌, true, sym, ap, ◌∙◌, arith}
use Rattle.ledger.specs.Ledger.{sound, is_next, wants}
use Rattle.ledger.proofs.Rule.{sound_is, is_next_lem, foreign, unsound, unmoved, moves_on}
use Rattle.ledger.proofs.take.Goals as goal
use Rattle.ledger.proofs.take.Goals.{After-wants}

is_fine : (c : After-wants) → sound c.args.ledger.taken c.args.ledger.total ≡ true
is_fine c = sym c.is_sound.ensures ∙ c.if-not-is_sound.false

is_wanted : (c : After-wants) → wants c.args.ledger c.args.message.now ≡ c.wants.result
is_wanted c = ap (is_next c.args.ledger.taken) (sym c.u32_at-serial.ensures) ∙ sym c.wants.ensures

pub returns-then-not-is_held_record : goal.returns-then-not-is_held_record
returns-then-not-is_held_record c = foreign _ _ _ c.is_held_record.ensures c.if-not-is_held_record.true

pub returns-then-not-is_sound : goal.returns-then-not-is_sound
returns-then-not-is_sound c =
    unsound _ _ _ c.is_held_record.ensures c.if-not-is_held_record.false (sym c.is_sound.ensures ∙ c.if-not-is_sound.true)

pub u32_at-serial-requires : goal.u32_at-serial-requires
u32_at-serial-requires c = omega (arith, (c.is_held_record.ensures.0 c.if-not-is_held_record.false).size)

pub returns-then-not-wants : goal.returns-then-not-wants
returns-then-not-wants c =
    unmoved _ _ _ c.is_held_record.ensures c.if-not-is_held_record.false (is_fine (goal.at.returns-then-not-wants c).After-wants) (is_wanted (goal.at.returns-then-not-wants c).After-wants ∙ c.if-not-wants.true)

pub u32_at-amount-requires : goal.u32_at-amount-requires
u32_at-amount-requires c = omega (arith, (c.is_held_record.ensures.0 c.if-not-is_held_record.false).size)

pub overflow_add-result : goal.overflow_add-result
overflow_add-result c =
    let s = sound_is _ _ (is_fine (goal.at.overflow_add-result c).After-wants) in
    let room = is_next_lem _ _ (is_wanted (goal.at.overflow_add-result c).After-wants ∙ c.if-not-wants.false) in
    omega arith

pub returns : goal.returns
returns c =
    moves_on _ _ _ c.is_held_record.ensures c.if-not-is_held_record.false (is_fine (goal.at.returns c).After-wants) _ _
    c.u32_at-serial.ensures (c.from.ensures ∙ c.u32_at-amount.ensures) (is_wanted (goal.at.returns c).After-wants ∙ c.if-not-wants.false)
