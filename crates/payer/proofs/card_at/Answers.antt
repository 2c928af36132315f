-- `card_at` asks Luhn, the tables, the expiry, then the hot list.
use mathlib.Core.Path.{◌≡◌, sym, ap, ◌∙◌}
use native.Mathlib.Omega.{arith}
use Rattle.std.proofs.Common.{rules}
use Rattle.reasons.specs.Reasons.{gives, said}
use Rattle.luhn.specs.Luhn.{luhn_rule}
use Rattle.ranges.specs.Ranges.{label_rule}
use Rattle.hotlist.specs.Hotlist.{listed}
use Rattle.layout.specs.Grammar.{field_in}
use Rattle.dates.specs.Dates.{left_rule}
use Rattle.payer.specs.Payer.{terms_of, part_of}
use Rattle.payer.proofs.Cards.{part_is, luhn_refused, no_label, expired, is_listed, pays}
use Rattle.payer.proofs.card_at.Goals as goal
use Rattle.payer.proofs.card_at.Goals.{After-test, In_ok-test, After-label_tested, In_ok-label, In_ok-left, After-is_listed}

-- what each call says, of the PAN as it stands in the characters
luhn : (c : After-test) → said c.test.result ≡ luhn_rule (part_of c.args.chars.now c.args.spot.at c.args.spot.digits)
luhn c = c.test.ensures ∙ ap luhn_rule (part_is c.args.chars.now c.args.spot.at c.args.spot.digits)

passed : (c : In_ok-test) → luhn_rule (part_of c.args.chars.now c.args.spot.at c.args.spot.digits) ≡ gives tt
passed c = sym (luhn (goal.at.In_ok-test c).After-test) ∙ ap said c.in_ok-test.was

label : (c : After-label_tested)
    → said c.label_tested.result ≡ label_rule c.args.terms.site.now c.args.terms.acquirer.now (part_of c.args.chars.now c.args.spot.at c.args.spot.digits)
label c =
    let t = c.args.terms in
    c.label_tested.ensures ∙ ap (label_rule t.site.now t.acquirer.now) (part_is c.args.chars.now c.args.spot.at c.args.spot.digits)

labelled : (c : In_ok-label)
    → label_rule c.args.terms.site.now c.args.terms.acquirer.now (part_of c.args.chars.now c.args.spot.at c.args.spot.digits) ≡ gives c.in_ok-label.label
labelled c = sym (label (goal.at.In_ok-label c).After-label_tested) ∙ ap said c.in_ok-label.was

left : (c : In_ok-left) → left_rule c.args.date (field_in 4 c.args.chars.now c.args.spot.expiry) ≡ gives c.in_ok-left.left
left c = sym c.left_on.ensures ∙ ap said c.in_ok-left.was

is-listed : (c : After-is_listed)
    → listed c.args.terms.hot.now c.args.terms.digits (part_of c.args.chars.now c.args.spot.at c.args.spot.digits) ≡ c.is_listed.result
is-listed c =
    let t = c.args.terms in
    sym (c.is_listed.ensures ∙ ap (listed t.hot.now t.digits) (part_is c.args.chars.now c.args.spot.at c.args.spot.digits))

pub returns-in_err-test : goal.returns-in_err-test
returns-in_err-test c =
    let d = c.requires.2 in
    let e = sym (luhn (goal.at.returns-in_err-test c).After-test) ∙ ap said c.in_err-test.was in (
      rw (luhn_refused (terms_of c.args.terms) c.args.date _ (field_in 4 c.args.chars.now c.args.spot.expiry) d.count d.digits
          _ e) (search rules),
      search rules,
    )

pub returns-in_err-label : goal.returns-in_err-label
returns-in_err-label c =
    let d = c.requires.2 in
    let e = sym (label (goal.at.returns-in_err-label c).After-label_tested) ∙ ap said c.in_err-label.was in (
      rw (no_label (terms_of c.args.terms) c.args.date _ (field_in 4 c.args.chars.now c.args.spot.expiry) d.count d.digits
          _ (passed (goal.at.returns-in_err-label c).In_ok-test) e) (search rules),
      search rules,
    )

pub returns-in_err-left : goal.returns-in_err-left
returns-in_err-left c =
    let d = c.requires.2 in
    let p = goal.at.returns-in_err-left c in
    let e = sym c.left_on.ensures ∙ ap said c.in_err-left.was in (
      rw (expired (terms_of c.args.terms) c.args.date _ (field_in 4 c.args.chars.now c.args.spot.expiry) d.count d.digits
          _ (passed p.In_ok-test) (labelled p.In_ok-label) _ e) (search rules),
      search rules,
    )

pub returns-then-is_listed : goal.returns-then-is_listed
returns-then-is_listed c =
    let d = c.requires.2 in
    let p = goal.at.returns-then-is_listed c in
    let e = is-listed p.After-is_listed ∙ c.if-is_listed.true in (
      sym (is_listed (terms_of c.args.terms) c.args.date _ (field_in 4 c.args.chars.now c.args.spot.expiry) d.count d.digits
          _ (passed p.In_ok-test) (labelled p.In_ok-label) _ (left p.In_ok-left) e),
      omega arith,
    )

pub returns : goal.returns
returns c =
    let d = c.requires.2 in
    let p = goal.at.returns c in
    let e = is-listed p.After-is_listed ∙ c.if-is_listed.false in (
      sym (pays (terms_of c.args.terms) c.args.date _ (field_in 4 c.args.chars.now c.args.spot.expiry) d.count d.digits
          _ (passed p.In_ok-test) (labelled p.In_ok-label) _ (left p.In_ok-left) e),
      d.fits,
    )
