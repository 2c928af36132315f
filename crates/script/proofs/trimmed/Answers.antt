use mathlib.Core.Path.{sym, ◌∙◌}
use Rattle.script.proofs.Typed.{trimmed_blank, trimmed_kept, trimmed-none}
use Rattle.script.proofs.trimmed.Goals as goal

pub returns-then-not-is_blank : goal.returns-then-not-is_blank
returns-then-not-is_blank c =
    let l = c.loop-rest in
    trimmed_kept l.rest.now c.in-len1-up.len_at_least (sym c.is_blank.ensures ∙ c.if-not-is_blank.true) ∙ l.invariant

pub loop-rest-preserved : goal.loop-rest-preserved
loop-rest-preserved c =
    let l = c.loop-rest in
    trimmed_blank l.rest.now c.in-len1-up.len_at_least (sym c.is_blank.ensures ∙ c.if-not-is_blank.false) ∙ l.invariant

pub returns : goal.returns
returns c = let l = c.loop-rest in trimmed-none l.rest.now c.in_default.len_below ∙ l.invariant
