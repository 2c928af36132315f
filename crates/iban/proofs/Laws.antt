-- What IBANs promise, each law under the paper's sentence, and that each call has one answer.
use Prim.Native.Nat.{ℕ, suc, ◌+◌, ◌<◌, ◌≤◌}
use Prim.Native.Char.{code}
use mathlib.Core.Path.{◌≡◌, refl, sym, ap, ◌∙◌}
use mathlib.Core.Bool.{true}
use mathlib.Core.List.{List, [], ◌∷◌}
use mathlib.Core.Logic.{◌⊎◌, ◌↔◌}
use native.Mathlib.Omega.{arith}
use lib.Dec.{eqb}
use lib.ListN.{length, get_or, set, take, drop, length-drop, take-append-drop}
use lib.Seq.{get_or-take, length-take-le}
use borrow.Author.Tests.{eq-eqb, eqb-true}
use Rattle.reasons.specs.Reasons.{gives, refuses, said}
use Rattle.reasons.specs.declared.Reason.{Reason}
use Rattle.std.specs.Prelude.{Result, is_some}
use Rattle.reasons.proofs.Laws.{said_one}
use Rattle.text.specs.Bytes.{bytes_of, within, is_digit, is_capital, every, swap}
use Rattle.text.specs.Numbers.{decimal_after}
use Rattle.text.proofs.Every.{every_left, every_right}
use Rattle.text.proofs.Tests.{inside, inside_is, both_true}
use Rattle.mod97.specs.Kinds.{Digit, Capital, SameKind, Mixed, Unseen}
use Rattle.mod97.specs.Text.{number, in_decimal, written, number_after}
use Rattle.mod97.specs.Pair.{leaves, pair_digits, pair_of, checks, paired, pair_for}
use Rattle.mod97.proofs.Refusals.{Sound}
use Rattle.mod97.proofs.Refusals as refusals
use Rattle.mod97.proofs.Standard.{AllYes, answers, goes_on, making}
use Rattle.mod97.proofs.Standard as standards
use Rattle.mod97.proofs.Pairs.{kept, pair_digits_kept, digit_is, pair_digits_is, made-within, pair_is_made}
use Rattle.countries.specs.Countries.{kind_fits, table, runs_in, row_of, listed, runs_of, kinds_of, fits, in_run_of_c}
use Rattle.countries.specs.declared.Kind.TheVariants.{Digits}
use Rattle.iban.specs.Iban.{is_allowed, all_allowed, laid_out, iban_rule, make_rule}
use Rattle.iban.proofs.Rule.{standard, make_answers}
use Rattle.iban.proofs.Places.{fits-swap, drop-swap, both_c}

-- ---- one answer

-- any two answers that the promise of `test` allows are equal
pub test_one : (s : List ℕ) (r q : Result (Unit {0}) Reason) → said r ≡ iban_rule s → said q ≡ iban_rule s → r ≡ q
test_one s r q e f = said_one r q (e ∙ sym f)

-- and so for `make`
pub make_one : (t s : List ℕ) (r q : Result ℕ Reason) → said r ≡ make_rule t s → said q ≡ make_rule t s → r ≡ q
make_one t s r q e f = said_one r q (e ∙ sym f)

-- ---- accepted texts

-- all that is asked is answered with yes, and the pair passes
accepted : (s : List ℕ) → iban_rule s ≡ gives tt → AllYes (answers standard s) × (checks s ≡ true)
unfolding iban_rule
accepted = standards.accepted standard

-- so the laws on refusals hold
sound : (s : List ℕ) → iban_rule s ≡ gives tt → Sound s
unfolding iban_rule
sound = standards.sound standard (omega arith) (omega arith)

-- "changing one character into another of the same kind (digit for digit, capital for capital) is refused"
pub change_refused : (s : List ℕ) (i d : ℕ) → iban_rule s ≡ gives tt → i < length s → SameKind (get_or s i 0) d → (get_or s i 0 ≡ d → ⊥)
    → (n : ℕ) × (iban_rule (set s i d) ≡ refuses n)
change_refused = refusals.change_refused iban_rule sound

-- "exchanging any two different characters of the same kind is refused"
pub exchange_refused : (s : List ℕ) (i j : ℕ) → iban_rule s ≡ gives tt → i < length s → j < length s
    → SameKind (get_or s i 0) (get_or s j 0) → (get_or s i 0 ≡ get_or s j 0 → ⊥)
    → (n : ℕ) × (iban_rule (swap s i j) ≡ refuses n)
exchange_refused = refusals.exchange_refused iban_rule sound

-- texts that begin with the same letters have the same country
module _ (t s : List ℕ) (e : get_or t 0 0 ≡ get_or s 0 0) (f : get_or t 1 0 ≡ get_or s 1 0) where
  same_listed : listed t ≡ listed s
  same_listed = λ j. is_some (row_of table (e j) (f j))

  same_fits : (body : List ℕ) → fits (kinds_of (runs_of t)) body ≡ fits (kinds_of (runs_of s)) body
  same_fits body = λ j. fits (kinds_of (runs_in (row_of table (e j) (f j)))) body

-- an exchange between two places of one kind leaves country and layout as they were
module _ (s : List ℕ) (m n : ℕ) (hm : 4 + m < length s) (hn : 4 + n < length s) where
  first_kept : (k : ℕ) → k < 4 → get_or (swap s (4 + m) (4 + n)) k 0 ≡ get_or s k 0
  first_kept = kept s (4 + m) (4 + n) (omega arith) (omega arith)

  country_kept : listed (swap s (4 + m) (4 + n)) ≡ listed s
  country_kept = same_listed (swap s (4 + m) (4 + n)) s (first_kept 0 (omega arith)) (first_kept 1 (omega arith))

  layout_kept : get_or (kinds_of (runs_of s)) m Digits ≡ get_or (kinds_of (runs_of s)) n Digits → laid_out s ≡ true → laid_out (swap s (4 + m) (4 + n)) ≡ true
  unfolding laid_out
  layout_kept e o =
      let t = swap s (4 + m) (4 + n) in
      let l = both_true (pair_digits s) (fits (kinds_of (runs_of s)) (drop 4 s)) o in
      let w = length-drop 4 s in
      rw (pair_digits_kept s (4 + m) (4 + n) (omega arith) (omega arith) ∙ l.0)
      (same_fits t s (first_kept 0 (omega arith)) (first_kept 1 (omega arith)) (drop 4 t)
      ∙ ap (fits (kinds_of (runs_of s))) (drop-swap s m n)
      ∙ fits-swap (kinds_of (runs_of s)) (drop 4 s) m n e (omega arith) (omega arith) l.1)

-- "exchanging a neighbouring capital and digit, both in .. one run of c, is accepted exactly for B with 1, M with 2, X with 3"
pub neighbours_accepted : (s : List ℕ) (m : ℕ) → iban_rule s ≡ gives tt → in_run_of_c (runs_of s) m ≡ true → suc (4 + m) < length s
    → Mixed (get_or s (4 + m) 0) (get_or s (suc (4 + m)) 0)
    → (iban_rule (swap s (4 + m) (suc (4 + m))) ≡ gives tt) ↔ Unseen (get_or s (4 + m) 0) (get_or s (suc (4 + m)) 0)
unfolding iban_rule
neighbours_accepted s m p run h k =
    let y = (accepted s p).0 in
    let c = both_c (runs_of s) m run in
    let e : 4 + suc m ≡ suc (4 + m) = omega arith in
    let country = country_kept s m (suc m) (omega arith) (omega arith) ∙ y.right_country in
    let layout = layout_kept s m (suc m) (omega arith) (omega arith) (c.0 ∙ sym c.1) y.right_layout in
    standards.neighbours_accepted standard s (4 + m) p (omega arith) h k (rw e at country) (rw e at layout)

-- "A digit turned into a capital may go unfound."
pub digit_to_capital_unfound : (s : List ℕ) × (i : ℕ) × (d : ℕ) × (iban_rule s ≡ gives tt) × Digit (get_or s i 0) × Capital d × (iban_rule (set s i d) ≡ gives tt)
unfolding iban_rule laid_out checks pair_of pair_digits is_digit is_capital every kind_fits table row_of kinds_of fits number_after written in_decimal number decimal_after
digit_to_capital_unfound = (bytes_of "FR1420041010050500013M02606", 15, code "Q", refl, refl, refl, refl)

-- ---- the pair

-- what a country and a body have for which a pair is made
made : (t s : List ℕ) (p : ℕ) → make_rule t s ≡ gives p → AllYes (make_answers t s) × (p ≡ pair_for t s)
unfolding make_rule
made t s p = making (make_answers t s) (pair_for t s) p

-- all that is used of what may stand in an IBAN: a digit may
digit_allowed : (d : ℕ) → d < 10 → is_allowed (48 + d) ≡ true
unfolding kind_fits
digit_allowed d h = rw (digit_is d h)

-- a country's text has two letters
letters_two : (t s : List ℕ) → AllYes (make_answers t s) → length t ≡ 2
letters_two t s y = eqb-true (length t) 2 (both_true (eqb (length t) 2) (within 1 30 (length s)) y.right_count).0

-- "For each body exactly one pair from 02 to 98 passes": the one that is made, among all from 00 to 99
pub one_pair : (country body : List ℕ) (p q : ℕ) → make_rule country body ≡ gives p → q < 100 → (iban_rule (paired country q body) ≡ gives tt) ↔ (q ≡ p)
unfolding iban_rule laid_out
one_pair [] body p q h l = absurd (omega (arith, letters_two [] body (made [] body p h).0))
one_pair (x ∷ []) body p q h l = absurd (omega (arith, letters_two (x ∷ []) body (made (x ∷ []) body p h).0))
one_pair (x ∷ y ∷ []) body p q h l =
    let t = x ∷ y ∷ [] in
    let (a, e) = made t body p h in
    let n = inside_is 1 30 (length body) (both_true (eqb 2 2) (within 1 30 (length body)) a.right_count).1 in
    let b = both_true (all_allowed t) (all_allowed body) a.right_bytes in
    let s = paired t q body in
    rw e
    (standards.paired_accepted standard x y q body l digit_allowed b.0 b.1 (inside 5 34 (length s) (omega arith) (omega arith)) a.right_country
    (rw (pair_digits_is x y body q l) a.right_layout))
one_pair (x ∷ y ∷ z ∷ t) body p q h l = absurd (omega (arith, letters_two (x ∷ y ∷ z ∷ t) body (made (x ∷ y ∷ z ∷ t) body p h).0))

pub made_in_range : (country body : List ℕ) (p : ℕ) → make_rule country body ≡ gives p → (2 ≤ p) × (p ≤ 98)
made_in_range country body p h = rw (made country body p h).1 (made-within country body)

-- and making answers the pair of every accepted IBAN
pub made_again : (s : List ℕ) → iban_rule s ≡ gives tt → make_rule (take 2 s) (drop 4 s) ≡ gives (pair_of s)
unfolding make_rule laid_out
made_again s h =
    let (y, pair) = accepted s h in
    let t = take 2 s in
    let body = drop 4 s in
    let n = inside_is 5 34 (length s) y.right_count in
    let l = both_true (pair_digits s) (fits (kinds_of (runs_of s)) body) y.right_layout in
    let first = get_or-take 2 s 0 0 (omega arith) in
    let second = get_or-take 2 s 1 0 (omega arith) in
    let z : AllYes (make_answers t body) =
    record {
      right_count = rw (eq-eqb (length t) 2 (length-take-le 2 s (omega arith))) (inside 1 30 (length body) (omega (arith, length-drop 4 s)) (omega (arith, length-drop 4 s)));
      right_bytes =
          rw (every_left is_allowed t (drop 2 s) (ap all_allowed (take-append-drop 2 s) ∙ y.right_bytes))
          (every_right is_allowed (take 4 s) body (ap all_allowed (take-append-drop 4 s) ∙ y.right_bytes));
      right_country = same_listed t s first second ∙ y.right_country;
      right_layout = same_fits t s first second body ∙ l.1;
    } in
    goes_on (make_answers t body) (gives (pair_for t body)) z ∙ ap gives (sym (pair_is_made s (omega arith) l.0 pair))

-- "00, 01 and 99 are always refused"
pub pair_refused : (s : List ℕ) → (pair_of s ≡ 0) ⊎ (pair_of s ≡ 1) ⊎ (pair_of s ≡ 99) → (n : ℕ) × (iban_rule s ≡ refuses n)
pair_refused = refusals.pair_refused iban_rule sound

-- "even where they leave 1"
abbrev LeavesOneRefused : List ℕ → Type 0
LeavesOneRefused s = (leaves s ≡ 1) × (iban_rule s ≡ refuses 4)

pub leaves_one_refused : LeavesOneRefused (bytes_of "DE00370400440532000052") × LeavesOneRefused (bytes_of "DE01370400440532000034") × LeavesOneRefused (bytes_of "DE99370400440532000016")
unfolding iban_rule laid_out checks pair_of pair_digits is_digit is_capital every kind_fits table row_of kinds_of fits number_after written in_decimal number decimal_after
leaves_one_refused = ((refl, refl), (refl, refl), (refl, refl))
