use Rattle.std.proofs.Common.{◌≡◌, ℕ, ◌+◌, true, sym, ap, ◌∙◌}
use Rattle.text.specs.Bytes.{within}
use Rattle.reasons.specs.Reasons.{gives}
use Rattle.slots.proofs.Passed.{held_at}
use Rattle.held.specs.Held.{low_of}
use Rattle.held.proofs.Rule.{show_none, show_free, show_done}
use Rattle.held.proofs.inner.find_at.Goals as goal
use Rattle.held.proofs.inner.find_at.Goals.{After-is_after, Else-not-is_after}

kept : (c : After-is_after) → let a = c.args in c.is_after.result ≡ within (low_of a.j.now a.b + 1) a.b a.s
kept c = let a = c.args in c.is_after.ensures ∙ ap (λ (x : ℕ). within (x + 1) a.b a.s) c.floor_of-low.ensures

is_kept : (c : Else-not-is_after) → let a = c.args in within (low_of a.j.now a.b + 1) a.b a.s ≡ true
is_kept c = sym (kept (goal.at.Else-not-is_after c).After-is_after) ∙ c.if-not-is_after.false

pub returns-then-not-is_after : goal.returns-then-not-is_after
returns-then-not-is_after c = show_none _ _ _ (sym (kept (goal.at.returns-then-not-is_after c).After-is_after) ∙ c.if-not-is_after.true)

pub returns-then-is_held : goal.returns-then-is_held
returns-then-is_held c =
    let e = c.place_of-at.ensures.0 in
    ap gives e
    ∙ show_done c.args.j.now _ _ (is_kept (goal.at.returns-then-is_held c).Else-not-is_after) (sym (held_at c.args.j.now _ _ _ _ e c.is_held.ensures) ∙ c.if-is_held.true)

pub returns : goal.returns
returns c =
    let e = c.place_of-at.ensures.0 in
    show_free c.args.j.now _ _ (is_kept (goal.at.returns c).Else-not-is_after) (sym (held_at c.args.j.now _ _ _ _ e c.is_held.ensures) ∙ c.if-is_held.false)
