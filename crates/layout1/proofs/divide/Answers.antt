use mathlib.Core.Path.{◌≡◌, sym, ap, ◌∙◌}
use native.Mathlib.Omega.{arith}
use lib.ListN.{get_or, drop}
use Rattle.layout.specs.Layout.{lead}
use Rattle.layout1.proofs.Steps.{rest_of, no_code, few, many, unmarked, marked}
use Rattle.layout1.proofs.divide.Goals as goal
use Rattle.layout1.proofs.divide.Goals.{After-lead_of-pan}

code : (c : After-lead_of-pan) → get_or c.args.chars.now 0 0 ≡ 66
code c = sym c.byte_at.ensures ∙ c.if-byte_at-ne66.false

pan : (c : After-lead_of-pan) → c.lead_of-pan.result ≡ lead (drop 1 c.args.chars.now)
pan c = c.lead_of-pan.ensures.0 ∙ ap lead (c.piece.ensures.bytes ∙ rest_of c.args.chars.now 1)

pub returns-then-byte_at-ne66 : goal.returns-then-byte_at-ne66
returns-then-byte_at-ne66 c = no_code _ (λ e. c.if-byte_at-ne66.true (c.byte_at.ensures ∙ e))

pub returns-then-pan-lt13 : goal.returns-then-pan-lt13
returns-then-pan-lt13 c = let b = (goal.at.returns-then-pan-lt13 c).After-lead_of-pan in few _ (code b) _ (pan b) (omega arith)

pub returns-then-pan-gt19 : goal.returns-then-pan-gt19
returns-then-pan-gt19 c = let b = (goal.at.returns-then-pan-gt19 c).After-lead_of-pan in many _ (code b) _ (pan b) (omega arith)

pub returns-then-byte_at-ne94 : goal.returns-then-byte_at-ne94
returns-then-byte_at-ne94 c =
    let b = (goal.at.returns-then-byte_at-ne94 c).After-lead_of-pan in
    unmarked _ (code b) _ (pan b) (omega arith) (omega arith) (λ e. c.if-byte_at-ne94.true (c.byte_at-2.ensures ∙ e))

pub returns : goal.returns
returns c =
    let b = (goal.at.returns c).After-lead_of-pan in
    c.with_pan.ensures ∙ marked _ (code b) _ (pan b) (omega arith) (omega arith) (sym c.byte_at-2.ensures ∙ c.if-byte_at-ne94.false)
