use Rattle.std.proofs.Common.{◌≡◌, sym, ap, ◌∙◌, arith}
use Rattle.text.specs.Numbers.{u32_at}
use Rattle.reasons.specs.Reasons.{gives}
use Rattle.slots.specs.Record.{serial_at}
use Rattle.slots.specs.Journal.{slots_of, place}
use Rattle.slots.proofs.Passed.{held_at}
use Rattle.walker.proofs.Held.{no_slots, too_many, no_serial, another, is_here, not_held, here}
use Rattle.walker.proofs.find_held.Goals as goal
use Rattle.walker.proofs.find_held.Goals.{After-u32_at}

serial_there : (c : After-u32_at) → c.u32_at.result ≡ serial_at c.args.j.now (place (slots_of c.args.j.now) c.args.s)
serial_there c = c.u32_at.ensures ∙ ap (u32_at _) c.place_of-at.ensures.0

pub returns-then-n-lt1 : goal.returns-then-n-lt1
returns-then-n-lt1 c = no_slots _ _ c.if-n-lt1.true

pub returns-then-n-gt2048 : goal.returns-then-n-gt2048
returns-then-n-gt2048 c = too_many _ _ c.if-n-gt2048.true

pub returns-then-s-eq0 : goal.returns-then-s-eq0
returns-then-s-eq0 c = no_serial _ _ (omega arith) (omega arith) c.if-s-eq0.true

pub returns-then-u32_at-s : goal.returns-then-u32_at-s
returns-then-u32_at-s c =
    another c.args.j.now _ (omega arith) (omega arith) c.if-s-eq0.false (λ e. c.if-u32_at-s.true (serial_there (goal.at.returns-then-u32_at-s c).After-u32_at ∙ e))

pub returns-then-is_held : goal.returns-then-is_held
returns-then-is_held c =
    let j = c.args.j.now in
    let e = c.place_of-at.ensures.0 in
    ap gives e ∙ here j _ (is_here j _ (omega arith) (omega arith) c.if-s-eq0.false
    (sym (serial_there (goal.at.returns-then-is_held c).After-u32_at) ∙ c.if-u32_at-s.false)
    (sym (held_at j _ _ _ _ e c.is_held.ensures) ∙ c.if-is_held.true))

pub returns : goal.returns
returns c =
    let j = c.args.j.now in
    let e = c.place_of-at.ensures.0 in
    not_held j _ (omega arith) (omega arith) c.if-s-eq0.false (sym (serial_there (goal.at.returns c).After-u32_at) ∙ c.if-u32_at-s.false)
    (sym (held_at j _ _ _ _ e c.is_held.ensures) ∙ c.if-is_held.false)
