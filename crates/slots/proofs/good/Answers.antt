use mathlib.Core.Path.{sym, ◌∙◌}
use native.Mathlib.Omega.{arith}
use Rattle.slots.proofs.Ranges.{differ, tells_no, tells_as}
use Rattle.slots.proofs.good.Goals as goal

pub returns-then-u32_at-s : goal.returns-then-u32_at-s
returns-then-u32_at-s c = tells_no (λ g. c.if-u32_at-s.true (c.u32_at.ensures ∙ g.serial))

pub returns-then-u32_at-eq0 : goal.returns-then-u32_at-eq0
returns-then-u32_at-eq0 c = tells_no (λ g. let e = c.u32_at-2.ensures in let a = g.amount in omega arith)

pub returns-then-not-is_record : goal.returns-then-not-is_record
returns-then-not-is_record c = tells_no (λ g. differ _ (sym c.is_record.ensures ∙ c.if-not-is_record.true) g.state)

pub returns-then-not-length_fits : goal.returns-then-not-length_fits
returns-then-not-length_fits c = tells_no (λ g. differ _ (sym c.length_fits.ensures ∙ c.if-not-length_fits.true) g.len)

pub returns-then-not-digits : goal.returns-then-not-digits
returns-then-not-digits c = tells_no (λ g. c.digits.ensures.1 (c.if-not-digits.true) (λ i l h. g.digits i l (omega (arith, c.kept.ensures.0))))

pub returns : goal.returns
returns c =
    let end = c.kept.ensures.0 in
    tells_as c.zeros.ensures
    (λ z. record {
      serial = sym c.u32_at.ensures ∙ c.if-u32_at-s.false;
      amount = let e = c.u32_at-2.ensures in let n = c.if-u32_at-eq0.false in omega arith;
      state = sym c.is_record.ensures ∙ c.if-not-is_record.false;
      len = sym c.length_fits.ensures ∙ c.if-not-length_fits.false;
      digits = λ i l h. c.digits.ensures.0 (c.if-not-digits.false) i l (omega arith);
      zeros = λ i l h. z i (omega arith) h;
    })
    (λ g i l h. g.zeros i (omega arith) h)
