use mathlib.Core.Path.{sym, ◌∙◌, subst}
use native.Mathlib.Omega.{arith}
use Rattle.slots.specs.Record.{Good}
use Rattle.slots.proofs.Ranges.{differ, tells_no}
use Rattle.ledger.proofs.is_held_record.Goals as goal

pub returns-then-message-ne32 : goal.returns-then-message-ne32
returns-then-message-ne32 c = tells_no (λ h. let long = h.size in let n = c.if-message-ne32.true in omega arith)

pub returns-then-serial-eq0 : goal.returns-then-serial-eq0
returns-then-serial-eq0 c = tells_no (λ h. let e = c.u32_at-serial.ensures in let s = h.some in omega arith)

pub returns-then-not-good : goal.returns-then-not-good
returns-then-not-good c =
    let serial = c.u32_at-serial.ensures in
    tells_no (λ h. c.good.ensures.1 (c.if-not-good.true) (subst (Good _ 0) (sym serial) h.good))

pub returns : goal.returns
returns c =
    let serial = c.u32_at-serial.ensures in (
      (λ e. record {
        size = let n = c.if-message-ne32.false in omega arith;
        some = let n = c.if-serial-eq0.false in omega arith;
        good = subst (Good _ 0) serial (c.good.ensures.0 (c.if-not-good.false));
        held = sym c.is_held.ensures ∙ e;
      }),
      λ e h. differ _ (sym c.is_held.ensures ∙ e) h.held,
    )
