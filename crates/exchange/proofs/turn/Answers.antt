use Rattle.std.proofs.Common.{ℕ, List, rules, subst, ◌∙◌}
use Rattle.exchange.specs.Exchange.{send, deliver}
use Rattle.exchange.specs.Inner.{Heard}
use Rattle.exchange.proofs.Turned.{nothing_yet, took_sent, took_heard, took_call, is_send, is_deliver, is_answer, is_own, as_turn}
use Rattle.exchange.proofs.turn.Goals as goal

pub returns-in-5 : goal.returns-in-5
returns-in-5 c =
    as_turn _ _ _ _ ((λ i. send (c.u32_at.ensures i) (c.u32_at-place.ensures i)) ∙ is_send c.args.r.now _ _ 0 (search rules))
    (took_sent _ _ _ (nothing_yet _ c.default.ensures) _ _ _ c.send.ensures)

pub returns-in-6 : goal.returns-in-6
returns-in-6 c =
    as_turn _ _ _ _ ((λ i. deliver (c.u32_at-place.ensures i)) ∙ is_deliver c.args.r.now _ _ 0 (search rules))
    (took_heard _ _ _ _ _ _ _ _ (nothing_yet _ c.default-in-6.ensures)
    (subst (λ (m : List ℕ). Heard c.args.host.now m c.hear.new.self) c.piece.ensures.bytes c.hear.ensures))

pub returns-in-7 : goal.returns-in-7
returns-in-7 c = as_turn _ _ _ _ (is_answer c.args.r.now _ _ 0 (search rules)) (c.answer.ensures _ _)

pub returns-in_default : goal.returns-in_default
returns-in_default c =
    as_turn _ _ _ _ (is_own c.args.r.now _ _ 0 (search rules) (search rules) (search rules)) (took_call _ _ _ _ _ _ c.own_call.ensures)
