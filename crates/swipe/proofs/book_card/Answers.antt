-- `book_card` asks the box and the card, and books.
use Prim.Native.Nat.{ℕ, ◌+◌, ◌-◌, ◌≤◌, ◌<◌}
use mathlib.Core.Path.{◌≡◌, refl, sym, ap, ◌∙◌, subst, subst⁻¹}
use mathlib.Core.List.{List}
use native.Mathlib.Omega.{arith}
use lib.ListN.{length, take, drop}
use Rattle.std.proofs.Common.{rules, Option, Some, Ok, Result}
use Rattle.text.specs.Numbers.{put}
use Rattle.text.proofs.Tests.{inside_is}
use Rattle.reasons.specs.Reasons.{Outcome, gives, refuses, number_of, said}
use Rattle.reasons.specs.declared.Reason.{Reason}
use Rattle.slots.specs.Record.{record32}
use Rattle.slots.specs.Journal.{slots_of, place, NewestIs}
use Rattle.payer.specs.Payer.{terms_of, Given, given, part_of, card_rule, said_card, pan_end}
use Rattle.payer.specs.declared.Paying.{Paying}
use Rattle.payer.proofs.Cards.{part_is}
use Rattle.swipe.specs.Swipe.{box_rule}
use Rattle.swipe.proofs.Steps.{card_fine, refused, box_refused, card_next, Open, opened, booked}
use Rattle.swipe.proofs.book_card.Goals as goal
use Rattle.swipe.proofs.book_card.Goals.{In_ok-b, In_ok-card}

-- the PAN in the scratch s that the reading left, as it is lent to the journal
counts : (g : Given) (s : List ℕ) (p : Paying) → card_rule g ≡ said_card (Ok p) s
    → (13 ≤ length (take (p.at + p.digits - p.at) (drop p.at s))) × (length (take (p.at + p.digits - p.at) (drop p.at s)) ≤ 19)
counts g s p is =
    let w = inside_is 13 19 (length (part_of s p.at p.digits))
    (card_fine g (record { pan = part_of s p.at p.digits; label = p.label; left = p.left }) is).count in
    subst⁻¹ (λ (l : List ℕ). (13 ≤ length l) × (length l ≤ 19)) (part_is s p.at p.digits) (w.0, w.1)

-- what the box has shown
opens : (c : In_ok-b) → Open (terms_of c.args.terms) c.args.amount c.args.date c.args.journal.now c.ready.ensures.view c.in_ok-b.b
opens c = opened _ _ _ _ _ _ (sym c.ready.ensures.so ∙ ap said c.in_ok-b.was)

formed : (c : In_ok-b) → NewestIs c.args.journal.now (Some c.in_ok-b.b)
formed c = subst (NewestIs c.args.journal.now) (opens c).view c.ready.ensures.is

passes : (c : In_ok-b) → gives c.in_ok-b.b ≡ box_rule (Some c.in_ok-b.b) (terms_of c.args.terms) c.args.amount c.args.date c.args.journal.now
passes c =
    let rule : Option ℕ → Outcome ℕ = λ m. box_rule m (terms_of c.args.terms) c.args.amount c.args.date c.args.journal.now in
    sym (ap said c.in_ok-b.was) ∙ c.ready.ensures.so ∙ ap rule (opens c).view

-- and what the card
pays : (c : In_ok-card)
    → card_rule (given c.args.track c.args.stream.now c.args.bits (terms_of c.args.terms) c.args.date)
    ≡ said_card (Ok c.in_ok-card.card) c.card_of_stripe.new.scratch
pays c = sym c.card_of_stripe.ensures.0 ∙ ap (λ (r : Result Paying Reason). said_card r c.card_of_stripe.new.scratch) c.in_ok-card.was

pub card_of_stripe-requires : goal.card_of_stripe-requires
card_of_stripe-requires c = let o = opens (goal.at.card_of_stripe-requires c).In_ok-b in (c.requires, o.sound, o.date_right)

pub overflow_add-end : goal.overflow_add-end
overflow_add-end c =
    let fits : length c.args.scratch.now < 18446744073709551616 = omega arith in
    omega (arith, c.card_of_stripe.ensures.1, ap pan_end c.in_ok-card.was)

pub returns-in_err-b : goal.returns-in_err-b
returns-in_err-b c =
    let s : said c.from_residual.result ≡ refuses (number_of c.in_err-b.field-0.0) = search rules in
    let e = sym (ap said c.in_err-b.was) ∙ c.ready.ensures.so in
    (record { view = c.ready.ensures.view; is = c.ready.ensures.is; so = refused _ _ _ _ _ _ _ _ s (box_refused _ _ _ _ _ c.requires _ e) }, refl)

pub returns-in_err-card : goal.returns-in_err-card
returns-in_err-card c =
    let p = (goal.at.returns-in_err-card c).In_ok-b in
    let s : said c.from_residual-in_err-card.result ≡ refuses (number_of c.in_err-card.field-0.0) = search rules in
    let e = sym c.card_of_stripe.ensures.0 ∙ ap (λ (r : Result Paying Reason). said_card r c.card_of_stripe.new.scratch) c.in_err-card.was in
    let so = refused _ _ _ _ _ _ _ _ s (card_next _ _ _ _ _ c.requires _ (passes p) ∙ e) in
    (record { view = Some c.in_ok-b.b; is = formed p; so = so }, c.card_of_stripe.ensures.2)

pub write_at-serial-requires-clause-formed : goal.write_at-serial-requires-clause-formed
write_at-serial-requires-clause-formed c = formed (goal.at.write_at-serial-requires-clause-formed c).In_ok-b

pub write_at-serial-requires-clause-b_bound : goal.write_at-serial-requires-clause-b_bound
write_at-serial-requires-clause-b_bound c =
    let p = goal.at.write_at-serial-requires-clause-b_bound c in
    let fits : c.in_ok-b.b < 4294967296 = omega arith in
    let w = counts _ _ c.in_ok-card.card (pays p.In_ok-card) in
    (omega (arith, (opens p.In_ok-b).serials, fits), w.0, w.1)

pub returns : goal.returns
returns c =
    let a = c.args in
    let j = a.journal.now in
    let s = c.card_of_stripe.new.scratch in
    let d = c.in_ok-card.card in
    let p = goal.at.returns c in
    let e = ap (λ (l : List ℕ). put j (place (slots_of j) (c.in_ok-b.b + 1)) (record32 (c.in_ok-b.b + 1) a.clock a.amount d.label l))
    (part_is s d.at d.digits) in
    let so = booked _ _ _ _ _ _ _ _ _ c.requires (passes p.In_ok-b) (pays p.In_ok-card) c.write_at-serial.ensures.0 (c.write_at-serial.ensures.1 ∙ e) in
    (record { view = Some c.in_ok-b.b; is = formed p.In_ok-b; so = so }, c.card_of_stripe.ensures.2)
