use Rattle.std.proofs.Common.{◌≡◌, false, sym, ap, ◌∙◌}
use Rattle.text.specs.Bytes.{every}
use Rattle.remains.specs.Slot.{is_zero, passes, tests_of}
use Rattle.remains.specs.declared.Slot.TheVariants.{Held, Released, Damaged}
use Rattle.remains.specs.declared.Tests.{Tests}
use Rattle.remains.proofs.Bytes.{tells_zeros}
use Rattle.remains.proofs.Rule.{told_free, told_damaged, told_held, told_released}
use Rattle.remains.proofs.inner.told_of.Goals as goal
use Rattle.remains.proofs.inner.told_of.Goals.{After-zeros, After-passes}

all_zero : (c : After-zeros) → c.zeros.result ≡ every is_zero c.args.r.now
all_zero c = tells_zeros _ 0 32 _ c.requires.0 c.zeros.ensures

tested : (c : After-passes) → c.passes.result ≡ passes (tests_of c.args.n c.args.k c.args.r.now)
tested c = c.passes.ensures ∙ ap (λ (t : Tests). passes t) c.tests_of-t.ensures

some_byte : (c : After-passes) → every is_zero c.args.r.now ≡ false
some_byte c = sym (tells_zeros _ 0 32 _ c.requires.0 c.zeros.ensures) ∙ c.if-zeros.false

pub returns-then-zeros : goal.returns-then-zeros
returns-then-zeros c = told_free _ _ _ (sym (all_zero (goal.at.returns-then-zeros c).After-zeros) ∙ c.if-zeros.true)

pub returns-then-not-passes : goal.returns-then-not-passes
returns-then-not-passes c =
    let p = (goal.at.returns-then-not-passes c).After-passes in
    (λ i. Damaged (c.fields_of-f.ensures i) (c.tests_of-t.ensures i))
    ∙ told_damaged _ _ _ (some_byte p) (sym (tested p) ∙ c.if-not-passes.true)

pub returns-then-is_held : goal.returns-then-is_held
returns-then-is_held c =
    let p = (goal.at.returns-then-is_held c).After-passes in
    ap Held c.fields_of-f.ensures
    ∙ told_held _ _ _ (some_byte p) (sym (tested p) ∙ c.if-not-passes.false) (sym c.is_held.ensures ∙ c.if-is_held.true)

pub returns : goal.returns
returns c =
    let p = (goal.at.returns c).After-passes in
    ap Released c.fields_of-f.ensures
    ∙ told_released _ _ _ (some_byte p) (sym (tested p) ∙ c.if-not-passes.false) (sym c.is_held.ensures ∙ c.if-is_held.false)
