use mathlib.Core.Path.{◌≡◌, sym, ◌∙◌, subst}
use mathlib.Core.Bool.{true, not}
use mathlib.Core.List.{[], ◌∷◌, ◌++◌}
use Prim.Native.Nat.{◌+◌, ◌-◌, ◌<◌, ◌≤◌}
use native.Mathlib.Omega.{arith}
use lib.ListN.{length, get_or}
use Rattle.std.proofs.lemmas.Iterator.Adapters.{YieldsList-from_rev_slice}
use Rattle.std.proofs.lemmas.Iterator.Consumers.{YieldsList-turn, YieldsList-end}
use Rattle.std.proofs.lemmas.List.{length_push, length-reverse}
use Rattle.text.specs.Bytes.{within, is_digit}
use Rattle.text.proofs.Tests.{under, over, inside}
use Rattle.text.proofs.Numbers.{digit_small}
use Rattle.luhn.proofs.Summing.{At, start, from_right, turn, done, bad, weighed_small}
use Rattle.luhn.proofs.Rule.{sum_count, sum_byte, sum_given}
use Rattle.luhn.proofs.sum.Goals.{At-loop-b, In-Some, Else-not-is_digit}
use Rattle.luhn.proofs.sum.Goals as goal

-- the loop is reached with an allowed count alone
counted : (c : At-loop-b) → within c.args.least c.args.most (length c.args.text.now) ≡ true
counted c = inside _ _ _ c.if-text-least.false c.if-most-text.false

-- the turn's byte is the last of those that are left
seen : (c : In-Some) → let left = length c.args.text.now - length c.loop-b.yielded in (0 < left) × (c.in-Some.field-0.now ≡ get_or c.args.text.now (left - 1) 0)
seen c =
    from_right c.args.text.now (length c.loop-b.yielded) _
    (YieldsList-turn (YieldsList-from_rev_slice c.args.text.now cc)
    c.loop-b.yielded _ c.loop-b.yielded_by _ _ c.in-Some.field-0 c.in-Some.is c.next.ensures.steps)

digit_there : (c : Else-not-is_digit) → is_digit c.in-Some.field-0.now ≡ true
digit_there c = sym c.is_digit.ensures ∙ c.if-not-is_digit.false

digit : (c : Else-not-is_digit) → (48 ≤ c.in-Some.field-0.now) × (c.in-Some.field-0.now ≤ 57)
digit c = digit_small _ (digit_there c)

pub returns-then-text-least : goal.returns-then-text-least
returns-then-text-least c = let a = c.args in sum_count a.least a.most _ _ (under a.least a.most _ c.if-text-least.true)

pub returns-then-most-text : goal.returns-then-most-text
returns-then-most-text c = let a = c.args in sum_count a.least a.most _ _ (over a.least a.most _ c.if-most-text.true)

pub loop-b-init : goal.loop-b-init
loop-b-init c = let a = c.args in start a.text.now a.double _ (omega (arith, c.requires)) (omega arith)

pub returns-then-not-is_digit : goal.returns-then-not-is_digit
returns-then-not-is_digit c =
    let a = c.args in
    let b = seen (goal.at.returns-then-not-is_digit c).In-Some in
    sum_byte a.least a.most a.double a.text.now (counted (goal.at.returns-then-not-is_digit c).At-loop-b)
    (bad a.text.now (length a.text.now - length c.loop-b.yielded - 1) (omega (arith, b)) (rw (← b.1) (sym c.is_digit.ensures ∙ c.if-not-is_digit.true)))

pub overflow_sub-b : goal.overflow_sub-b
overflow_sub-b c = (digit (goal.at.overflow_sub-b c).Else-not-is_digit).0

pub weigh-total-requires : goal.weigh-total-requires
weigh-total-requires c = omega (arith, digit (goal.at.weigh-total-requires c).Else-not-is_digit)

pub overflow_add-total : goal.overflow_add-total
overflow_add-total c =
    let d = digit (goal.at.overflow_add-total c).Else-not-is_digit in
    let b = seen (goal.at.overflow_add-total c).In-Some in
    omega (arith, b.0, c.weigh-total.ensures, weighed_small c.loop-b.twice (c.in-Some.field-0.now - 48) (omega arith))

pub loop-b-preserved : goal.loop-b-preserved
loop-b-preserved c =
    let s = c.args.text.now in
    let l = c.loop-b in
    let x = c.in-Some.field-0 in
    let n : length s - length l.yielded - 1 ≡ length s - length (l.yielded ++ (x ∷ [])) = omega (arith, length_push l.yielded x) in
    let b = seen (goal.at.loop-b-preserved c).In-Some in
    let d = digit_there (goal.at.loop-b-preserved c).Else-not-is_digit in
    subst (At s c.args.double (l.total + c.weigh-total.result) (not l.twice)) n
    (turn s c.args.double l.total l.twice _ _ _ l.invariant b d c.weigh-total.ensures)

pub returns : goal.returns
returns c =
    let a = c.args in
    let l = c.loop-b in
    let all = YieldsList-end (YieldsList-from_rev_slice a.text.now cc) l.yielded _ l.yielded_by _ _ c.in-None.is c.next.ensures.steps in
    let d = done a.text.now a.double l.total l.twice _ l.invariant (omega (arith, all.1, length-reverse a.text.now)) in
    sum_given a.least a.most a.double a.text.now (counted (goal.at.returns c).At-loop-b) d.0 _ d.1
