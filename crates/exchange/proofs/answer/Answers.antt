use Rattle.std.proofs.Common.{true, false}
use Rattle.exchange.proofs.Turned.{nothing_yet, took_unsent, took_answer, sent_as}
use Rattle.exchange.proofs.answer.Goals as goal

pub returns-then-not-has_answered : goal.returns-then-not-has_answered
returns-then-not-has_answered c t a =
    took_unsent _ _ _ (nothing_yet _ c.default.ensures) _
    (sent_as _ _ _ _ _ false c.u32_at-serial.ensures c.has_answered.ensures c.if-not-has_answered.true)

pub returns : goal.returns
returns c t a =
    took_answer _ _ _ _ _
    (sent_as _ _ _ _ _ true c.u32_at-serial.ensures c.has_answered.ensures c.if-not-has_answered.false)
    (c.play_release.ensures t)
