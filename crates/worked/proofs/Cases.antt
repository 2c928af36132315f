-- "To be proved together, as a single statement over a list": W1 to W13 hold, by computation, and so does the fleet card.
use Prim.Native.Nat.{ℕ, ◌≤◌}
use mathlib.Core.Path.{◌≡◌, refl, ap, ◌∙◌}
use mathlib.Core.Bool.{true}
use mathlib.Core.List.{List}
use native.Mathlib.Omega.{arith}
use lib.ListN.{length, replicate}
use borrow.Author.Tests.{le-leb}
use Rattle.text.specs.Bytes.{bytes_of, is_digit, is_capital, every, all_digits}
use Rattle.text.specs.Numbers.{le16, le32, put, decimal_after}
use Rattle.reasons.specs.Reasons.{gives, said}
use Rattle.reasons.specs.declared.Reason.{Reason}
use Rattle.std.proofs.Common.{Option, Some, Result}
use Rattle.luhn.specs.Luhn.{even, weighed, luhn_sum, passes, luhn_rule}
use Rattle.pan.specs.Pan.{pan_length, front_shown, back_shown, masked, mask_rule, mask_bytes, Masks}
use Rattle.mod97.specs.Text.{number, in_decimal, written, number_after}
use Rattle.mod97.specs.Pair.{pair_digits, pair_of, checks}
use Rattle.creditor.specs.Creditor.{is_plain, laid_out as laidOutRF, creditor_rule}
use Rattle.countries.specs.Countries.{kind_fits, table, row_of, kinds_of, fits}
use Rattle.iban.specs.Iban.{laid_out, iban_rule}
use Rattle.stream.specs.Stream.{bits_from, stream, number as numberOfBits, ones}
use Rattle.chars.specs.Reading.{next, all_zero, finish, body, skip, begins, read_one}
use Rattle.bits.specs.Reading.{read_either, read_rule}
use Rattle.layout.specs.Layout.{is_named, is_expiry, is_service, field_rule, rest_rule, service_rule, expiry_rule}
use Rattle.layout1.specs.Layout1.{fields_rule, name_rule, layout1_rule}
use Rattle.slots.specs.Record.{is_held, held_state, record32}
use Rattle.slots.proofs.Laws.{zeros_formed}
use Rattle.slots.proofs.Views.{view_one}
use Rattle.journal.specs.Rules.{held_slots, book_rule, book_bytes, Books}
use Rattle.worked.specs.Cases.{All, all, ◌and◌, Holds, cases, w11_case, fleet_track, fleet_division, fleet_cases}

-- what masking allows into an output that is long enough, for a PAN whose masked text is known
masked_into : (pan text : List ℕ) → pan_length (length pan) ≡ true → all_digits pan ≡ true → masked pan ≡ text
    → (out : List ℕ) (r : Result (Unit {0}) Reason) (k : List ℕ) → length pan ≤ length out → Masks pan out r k → (said r ≡ gives tt) × (k ≡ put out 0 text)
unfolding mask_rule mask_bytes
masked_into pan text n d m out r k h f =
    let room = le-leb (length pan) (length out) h in
    (f.0 ∙ simp (n, d, room), f.1 ∙ simp (n, d, room, m))

module _ (pan : List ℕ) (label amount clock : ℕ) (bytes : List ℕ) where
  -- what a booking in one empty slot allows is what its rule says at the view of no serial
  booked_empty : book_rule (Some 0) (replicate 32 0) pan label amount ≡ gives 1 → book_bytes (Some 0) (replicate 32 0) pan label amount clock ≡ bytes
      → (r : Result ℕ Reason) (k : List ℕ) → Books (replicate 32 0) pan label amount clock r k → (said r ≡ gives 1) × (k ≡ bytes)
  booked_empty e f r k b =
      let v : b.view ≡ Some 0 = view_one (replicate 32 0) b.view (Some 0) b.is (zeros_formed 1 (omega arith) (omega arith)) in (
        b.so.0 ∙ ap (λ (m : Option ℕ). book_rule m (replicate 32 0) pan label amount) v ∙ e,
        b.so.1 ∙ ap (λ (m : Option ℕ). book_bytes m (replicate 32 0) pan label amount clock) v ∙ f,
      )

w11 : Holds w11_case
unfolding read_rule read_either read_one begins skip body finish all_zero next ones numberOfBits stream bits_from
w11 = record { lrc_number = refl; lrc_bits = refl; character_count = refl; bits_count = refl; forward = refl; backward = refl }

pub all_hold : All cases
unfolding is_digit is_capital every le16 le32 put decimal_after even weighed luhn_sum passes luhn_rule front_shown back_shown masked number in_decimal written number_after pair_digits pair_of checks is_plain laidOutRF creditor_rule kind_fits table row_of kinds_of fits laid_out iban_rule is_held held_state record32 held_slots book_rule book_bytes
all_hold =
    refl and refl and refl and refl and refl and refl and refl and refl and refl and refl and refl and refl and refl and refl
    and w11
    and masked_into (bytes_of "4111111111111111") _ refl refl refl
    and booked_empty (bytes_of "4111111111111111") 7 250 0 _ refl refl
    and all

fleet_track_lem : Holds fleet_track
unfolding read_rule read_either read_one begins skip body finish all_zero next ones numberOfBits stream bits_from
fleet_track_lem = record { lrc_number = refl; lrc_bits = refl; character_count = refl; bits_count = refl; forward = refl; backward = refl }

fleet_division_lem : Holds fleet_division
unfolding is_digit every decimal_after is_named is_expiry is_service field_rule rest_rule service_rule expiry_rule fields_rule name_rule layout1_rule
fleet_division_lem =
    record { accepted = refl; pan_part = refl; name_part = refl; expiry_part = refl; service_part = refl; rest_part = refl }

-- a card of request E1: its track reads either way round, and its characters divide into their parts
pub fleet_hold : All fleet_cases
fleet_hold = fleet_track_lem and fleet_division_lem and all
