-- `ready` looks at the journal once, and goes through the tests before the card in the paper's order.
use mathlib.Core.Path.{◌≡◌, sym, ◌∙◌, subst}
use mathlib.Core.Bool.{true, ◌&&◌}
use Rattle.text.proofs.Tests.{both_true}
use Rattle.ranges.specs.Ranges.{table_ok}
use Rattle.dates.specs.Dates.{real}
use Rattle.slots.specs.Journal.{NewestIs}
use Rattle.slots.proofs.Views.{seen}
use Rattle.payer.specs.Payer.{terms_of, Sound}
use Rattle.swipe.proofs.Steps.{bad_journal, bad_tables, bad_list, zero_amount, bad_date, last_serial, journal_full, all_passed}
use Rattle.swipe.proofs.ready.Goals as goal
use Rattle.swipe.proofs.ready.Goals.{Else-not-tables_ok, Else-not-list_ok, Else-not-is_real}

tables : (c : Else-not-tables_ok) → (table_ok c.args.terms.site.now && table_ok c.args.terms.acquirer.now) ≡ true
tables c = sym c.tables_ok.ensures ∙ c.if-not-tables_ok.false

sound : (c : Else-not-list_ok) → Sound (terms_of c.args.terms)
sound c =
    let w = both_true (table_ok c.args.terms.site.now) (table_ok c.args.terms.acquirer.now) (tables (goal.at.Else-not-list_ok c).Else-not-tables_ok) in
    record { site_right = w.0; acquirer_right = w.1; hot_right = sym c.list_ok.ensures ∙ c.if-not-list_ok.false }

date : (c : Else-not-is_real) → real c.args.date ≡ true
date c = sym c.is_real.ensures ∙ c.if-not-is_real.false

pub returns-in_default : goal.returns-in_default
returns-in_default c = seen _ _ _ c.newest_of.ensures c.in_default.is (bad_journal (terms_of c.args.terms) _ _ _)

pub returns-then-not-tables_ok : goal.returns-then-not-tables_ok
returns-then-not-tables_ok c =
    seen _ _ _ c.newest_of.ensures c.in-Some.is
    (bad_tables (terms_of c.args.terms) _ _ _ _ (sym c.tables_ok.ensures ∙ c.if-not-tables_ok.true))

pub returns-then-not-list_ok : goal.returns-then-not-list_ok
returns-then-not-list_ok c =
    seen _ _ _ c.newest_of.ensures c.in-Some.is
    (bad_list (terms_of c.args.terms) _ _ _ _ (tables (goal.at.returns-then-not-list_ok c).Else-not-tables_ok) (sym c.list_ok.ensures ∙ c.if-not-list_ok.true))

pub returns-then-amount-eq0 : goal.returns-then-amount-eq0
returns-then-amount-eq0 c =
    seen _ _ _ c.newest_of.ensures c.in-Some.is
    (zero_amount _ _ _ _ _ (sound (goal.at.returns-then-amount-eq0 c).Else-not-list_ok) c.if-amount-eq0.true)

pub returns-then-not-is_real : goal.returns-then-not-is_real
returns-then-not-is_real c =
    seen _ _ _ c.newest_of.ensures c.in-Some.is
    (bad_date _ _ _ _ _ (sound (goal.at.returns-then-not-is_real c).Else-not-list_ok) c.if-amount-eq0.false (sym c.is_real.ensures ∙ c.if-not-is_real.true))

pub returns-then-b : goal.returns-then-b
returns-then-b c =
    let p = goal.at.returns-then-b c in
    seen _ _ _ c.newest_of.ensures c.in-Some.is
    (last_serial _ _ _ _ _ (sound p.Else-not-list_ok) c.if-amount-eq0.false (date p.Else-not-is_real) c.if-b.true)

pub is_full-requires : goal.is_full-requires
is_full-requires c = subst (NewestIs c.args.journal.now) c.in-Some.is c.newest_of.ensures

pub returns-then-is_full : goal.returns-then-is_full
returns-then-is_full c =
    let p = goal.at.returns-then-is_full c in
    seen _ _ _ c.newest_of.ensures c.in-Some.is
    (journal_full _ _ _ _ _ (sound p.Else-not-list_ok) c.if-amount-eq0.false (date p.Else-not-is_real) c.if-b.false (sym c.is_full.ensures ∙ c.if-is_full.true))

pub returns : goal.returns
returns c =
    let p = goal.at.returns c in
    seen _ _ _ c.newest_of.ensures c.in-Some.is
    (all_passed _ _ _ _ _ (sound p.Else-not-list_ok) c.if-amount-eq0.false (date p.Else-not-is_real) c.if-b.false (sym c.is_full.ensures ∙ c.if-is_full.false))
