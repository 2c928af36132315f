-- What creditor references promise, each law under the paper's sentence, and that each call has one answer.
use Prim.Native.Nat.{ℕ, suc, ◌+◌, ◌<◌, ◌≤◌}
use Prim.Native.Char.{code}
use mathlib.Core.Path.{◌≡◌, refl, sym, ap, ◌∙◌}
use mathlib.Core.Bool.{true, ◌&&◌}
use mathlib.Core.List.{List, [], ◌∷◌}
use mathlib.Core.Logic.{◌⊎◌, ◌↔◌}
use native.Mathlib.Omega.{arith}
use lib.Dec.{eqb}
use lib.ListN.{length, get_or, set, take, drop, length-drop, take-append-drop}
use borrow.Author.Tests.{eqb-true}
use Rattle.reasons.specs.Reasons.{gives, refuses, said}
use Rattle.reasons.specs.declared.Reason.{Reason}
use Rattle.std.specs.Prelude.{Result}
use Rattle.reasons.proofs.Laws.{said_one}
use Rattle.text.specs.Bytes.{bytes_of, is_digit, is_capital, every, swap}
use Rattle.text.specs.Numbers.{decimal_after}
use Rattle.text.proofs.Every.{every_right}
use Rattle.text.proofs.Tests.{inside, inside_is, both_true}
use Rattle.mod97.specs.Kinds.{Digit, Capital, SameKind, Mixed, Unseen}
use Rattle.mod97.specs.Text.{number, in_decimal, written, number_after}
use Rattle.mod97.specs.Pair.{leaves, pair_digits, pair_of, checks, paired, pair_for}
use Rattle.mod97.proofs.Refusals.{Sound}
use Rattle.mod97.proofs.Refusals as refusals
use Rattle.mod97.proofs.Standard.{AllYes, answers, goes_on, making}
use Rattle.mod97.proofs.Standard as standards
use Rattle.mod97.proofs.Pairs.{kept, pair_digits_kept, digit_is, pair_digits_is, made-within, pair_is_made}
use Rattle.creditor.proofs.Rule.{standard, make_answers}
use Rattle.creditor.specs.Creditor.{is_plain, all_plain, laid_out, creditor_rule, make_rule}

-- ---- one answer

-- any two answers that the promise of `test` allows are equal
pub test_one : (s : List ℕ) (r q : Result (Unit {0}) Reason) → said r ≡ creditor_rule s → said q ≡ creditor_rule s → r ≡ q
test_one s r q e f = said_one r q (e ∙ sym f)

-- and so for `make`
pub make_one : (s : List ℕ) (r q : Result ℕ Reason) → said r ≡ make_rule s → said q ≡ make_rule s → r ≡ q
make_one s r q e f = said_one r q (e ∙ sym f)

-- ---- accepted texts

-- all that is asked is answered with yes, and the pair passes
accepted : (s : List ℕ) → creditor_rule s ≡ gives tt → AllYes (answers standard s) × (checks s ≡ true)
unfolding creditor_rule
accepted = standards.accepted standard

-- so the laws on refusals hold
sound : (s : List ℕ) → creditor_rule s ≡ gives tt → Sound s
unfolding creditor_rule
sound = standards.sound standard (omega arith) (omega arith)

-- "changing one character into another of the same kind (digit for digit, capital for capital) is refused"
pub change_refused : (s : List ℕ) (i d : ℕ) → creditor_rule s ≡ gives tt → i < length s → SameKind (get_or s i 0) d → (get_or s i 0 ≡ d → ⊥)
    → (n : ℕ) × (creditor_rule (set s i d) ≡ refuses n)
change_refused = refusals.change_refused creditor_rule sound

-- "exchanging any two different characters of the same kind is refused"
pub exchange_refused : (s : List ℕ) (i j : ℕ) → creditor_rule s ≡ gives tt → i < length s → j < length s
    → SameKind (get_or s i 0) (get_or s j 0) → (get_or s i 0 ≡ get_or s j 0 → ⊥)
    → (n : ℕ) × (creditor_rule (swap s i j) ≡ refuses n)
exchange_refused = refusals.exchange_refused creditor_rule sound

-- an exchange in the body leaves the layout as it was
layout_kept : (s : List ℕ) (i j : ℕ) → 4 ≤ i → 4 ≤ j → laid_out (swap s i j) ≡ laid_out s
unfolding laid_out
layout_kept s i j hi hj = rw (kept s i j hi hj 0 (omega arith), kept s i j hi hj 1 (omega arith), pair_digits_kept s i j hi hj)

-- "exchanging a neighbouring capital and digit, both in an RF body .., is accepted exactly for B with 1, M with 2, X with 3"
pub neighbours_accepted : (s : List ℕ) (i : ℕ) → creditor_rule s ≡ gives tt → 4 ≤ i → suc i < length s → Mixed (get_or s i 0) (get_or s (suc i) 0)
    → (creditor_rule (swap s i (suc i)) ≡ gives tt) ↔ Unseen (get_or s i 0) (get_or s (suc i) 0)
unfolding creditor_rule
neighbours_accepted s i p h l k = standards.neighbours_accepted standard s i p h l k refl (layout_kept s i (suc i) h (omega arith) ∙ (accepted s p).0.right_layout)

-- "A digit turned into a capital may go unfound."
pub digit_to_capital_unfound : (s : List ℕ) × (i : ℕ) × (d : ℕ) × (creditor_rule s ≡ gives tt) × Digit (get_or s i 0) × Capital d × (creditor_rule (set s i d) ≡ gives tt)
unfolding creditor_rule laid_out checks pair_of pair_digits is_plain is_digit is_capital every number_after written in_decimal number decimal_after
digit_to_capital_unfound = (bytes_of "RF4113", 5, code "A", refl, refl, refl, refl)

-- ---- the pair

plain_digit : (d : ℕ) → d < 10 → is_plain (48 + d) ≡ true
unfolding is_plain
plain_digit d h = rw (digit_is d h)

plain_rf : all_plain (bytes_of "RF") ≡ true
unfolding is_plain is_digit is_capital every
plain_rf = refl

module _ (body : List ℕ) (p : ℕ) (e : make_rule body ≡ gives p) where
  -- what a body has for which a pair is made
  made : AllYes (make_answers body) × (p ≡ pair_for (bytes_of "RF") body)
  unfolding make_rule
  made = making (make_answers body) (pair_for (bytes_of "RF") body) p e

  -- "For each body exactly one pair from 02 to 98 passes": the one that is made, among all from 00 to 99
  pub one_pair : (q : ℕ) → q < 100 → (creditor_rule (paired (bytes_of "RF") q body) ≡ gives tt) ↔ (q ≡ p)
  unfolding creditor_rule laid_out
  one_pair q l =
      let y = made.0 in
      let n = inside_is 1 21 (length body) y.right_count in
      let s = paired (bytes_of "RF") q body in
      rw made.1
      (standards.paired_accepted standard (code "R") (code "F") q body l plain_digit plain_rf y.right_bytes (inside 5 25 (length s) (omega arith) (omega arith)) refl
      (pair_digits_is (code "R") (code "F") body q l))

  pub made_in_range : (2 ≤ p) × (p ≤ 98)
  made_in_range = rw made.1 (made-within (bytes_of "RF") body)

-- an accepted reference begins with `RF` and a pair of digits
letters_are : (s : List ℕ) → 4 ≤ length s → laid_out s ≡ true → (take 2 s ≡ bytes_of "RF") × (pair_digits s ≡ true)
unfolding laid_out
letters_are [] l h = absurd (omega arith)
letters_are (a ∷ []) l h = absurd (omega arith)
letters_are (a ∷ b ∷ s) l h =
    let f = both_true (eqb a (code "R")) (eqb b (code "F") && pair_digits (a ∷ b ∷ s)) h in
    let g = both_true (eqb b (code "F")) (pair_digits (a ∷ b ∷ s)) f.1 in
    let e = eqb-true a (code "R") f.0 in
    let d = eqb-true b (code "F") g.0 in
    (λ j. e j ∷ d j ∷ [], g.1)

-- and making answers the pair of every accepted reference
pub made_again : (s : List ℕ) → creditor_rule s ≡ gives tt → make_rule (drop 4 s) ≡ gives (pair_of s)
unfolding make_rule
made_again s h =
    let (y, pair) = accepted s h in
    let n = inside_is 5 25 (length s) y.right_count in
    let (rf, digits) = letters_are s (omega arith) y.right_layout in
    let body = drop 4 s in
    let z : AllYes (make_answers body) =
    record {
      right_count = inside 1 21 (length body) (omega (arith, length-drop 4 s)) (omega (arith, length-drop 4 s));
      right_bytes = every_right is_plain (take 4 s) body (ap all_plain (take-append-drop 4 s) ∙ y.right_bytes);
      right_country = refl;
      right_layout = refl;
    } in
    goes_on (make_answers body) (gives (pair_for (bytes_of "RF") body)) z
    ∙ ap gives (sym (pair_is_made s (omega arith) digits pair ∙ ap (λ (t : List ℕ). pair_for t body) rf))

-- "00, 01 and 99 are always refused"
pub pair_refused : (s : List ℕ) → (pair_of s ≡ 0) ⊎ (pair_of s ≡ 1) ⊎ (pair_of s ≡ 99) → (n : ℕ) × (creditor_rule s ≡ refuses n)
pair_refused = refusals.pair_refused creditor_rule sound

-- "even where they leave 1"
abbrev LeavesOneRefused : List ℕ → Type 0
LeavesOneRefused s = (leaves s ≡ 1) × (creditor_rule s ≡ refuses 4)

pub leaves_one_refused : LeavesOneRefused (bytes_of "RF0072") × LeavesOneRefused (bytes_of "RF0154") × LeavesOneRefused (bytes_of "RF991X")
unfolding creditor_rule laid_out checks pair_of pair_digits is_plain is_digit is_capital every number_after written in_decimal number decimal_after
leaves_one_refused = ((refl, refl), (refl, refl), (refl, refl))
