use mathlib.Core.Bool.{not}
use mathlib.Core.Path.{sym, ap, ◌∙◌}
use native.Mathlib.Omega.{arith}
use Rattle.numerals.proofs.Pairs.{some_hex}
use Rattle.numerals.specs.Numbers.{is_hex}
use Rattle.text.proofs.Every.{end, turn_yes, turn_no}
use Rattle.numerals.proofs.all_hex.Goals as goal

pub returns-then-is_none : goal.returns-then-is_none
returns-then-is_none c =
    let l = c.loop-b in
    let none = sym (some_hex _ _ c.hex_value.ensures) ∙ c.is_none.ensures ∙ ap not c.if-is_none.true in
    turn_no is_hex c.args.w.now l.b-index _ (omega arith) l.invariant none

pub loop-b-preserved : goal.loop-b-preserved
loop-b-preserved c =
    let l = c.loop-b in
    let some = sym (some_hex _ _ c.hex_value.ensures) ∙ c.is_none.ensures ∙ ap not c.if-is_none.false in
    turn_yes is_hex c.args.w.now l.b-index _ (omega arith) l.invariant some

pub returns : goal.returns
returns c = let l = c.loop-b in sym (end is_hex c.args.w.now l.b-index (omega arith)) ∙ l.invariant
