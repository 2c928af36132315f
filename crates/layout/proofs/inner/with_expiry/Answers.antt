use mathlib.Core.Path.{◌≡◌, sym, ap, ◌∙◌}
use Rattle.std.proofs.Common.{rules}
use Rattle.text.specs.Bytes.{every}
use Rattle.reasons.specs.Reasons.{gives, demand, said}
use Rattle.layout.specs.Layout.{allowed, is_expiry, is_service, field_rule, service_rule, expiry_rule}
use Rattle.layout.proofs.Steps.{rest_tested}
use Rattle.layout.proofs.inner.with_expiry.Goals as goal
use Rattle.layout.proofs.inner.with_expiry.Goals.{After-due_at, After-due_at-2, After-allows}

expiry : (c : After-due_at) → said c.due_at.result ≡ field_rule c.args.track is_expiry 4 c.args.chars.now c.args.at
expiry c = c.due_at.ensures is_expiry 4 (c.is_expiry.ensures ∙ ap is_expiry c.piece.ensures.bytes)

service : (c : After-due_at-2) → said c.due_at-2.result ≡ field_rule c.args.track is_service 3 c.args.chars.now c.past-behind.result
service c = c.due_at-2.ensures is_service 3 (c.is_service.ensures ∙ ap is_service c.piece-2.ensures.bytes)

divided : (c : After-allows)
    → demand c.allows.result 6 (gives (record { pan = c.args.pan; expiry = c.in_ok-expiry.expiry; service = c.in_ok-service.service; rest = c.past-rest.result }))
    ≡ expiry_rule c.args.track c.args.chars.now c.args.pan c.args.at
unfolding expiry_rule service_rule
divided c =
    rw (
      ← expiry (goal.at.After-allows c).After-due_at,
      c.in_ok-expiry.was,
      ← c.past-behind.ensures,
      ← service (goal.at.After-allows c).After-due_at-2,
      c.in_ok-service.was,
      ← c.past-rest.ensures,
    )
    (rest_tested c.args.track _ _ _ (ap (every (allowed c.args.track)) (sym c.piece-3.ensures.bytes) ∙ sym c.allows.ensures))

pub returns-in_err-expiry : goal.returns-in_err-expiry
unfolding expiry_rule
returns-in_err-expiry c = rw (← expiry (goal.at.returns-in_err-expiry c).After-due_at, c.in_err-expiry.was) (search rules)

pub returns-in_err-service : goal.returns-in_err-service
unfolding expiry_rule service_rule
returns-in_err-service c =
    rw (
      ← expiry (goal.at.returns-in_err-service c).After-due_at,
      c.in_ok-expiry.was,
      ← c.past-behind.ensures,
      ← service (goal.at.returns-in_err-service c).After-due_at-2,
      c.in_err-service.was,
    ) (search rules)

pub returns-then-not-allows : goal.returns-then-not-allows
returns-then-not-allows c = rw c.if-not-allows.true at (divided (goal.at.returns-then-not-allows c).After-allows)

pub returns : goal.returns
returns c = rw c.if-not-allows.false at (divided (goal.at.returns c).After-allows)
