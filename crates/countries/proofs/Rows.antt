-- The table: its search, and the rules of its rows.
use Prim.Native.Nat.{ℕ, zero, suc, ◌+◌, ◌<◌, ◌≤◌}
use mathlib.Core.Path.{◌≡◌, refl, sym, ap, ◌∙◌}
use mathlib.Core.Bool.{Bool, true, false, cond, ◌&&◌, and-true}
use mathlib.Core.List.{List, [], ◌∷◌, map}
use native.Mathlib.Numerals.{add-one}
use native.Mathlib.Nat.{le_of_suc-le-suc, not-suc-le-zero}
use native.Mathlib.Omega.{arith}
use lib.Dec.{T, eqb, leb, leb→le, eqb→eq}
use lib.ListN.{length, get_or, drop, drop_of_length-le}
use lib.Pointwise.{pointwise}
use lib.Seq.{drop-cons}
use Rattle.std.proofs.Common.{Some, None}
use Rattle.std.specs.Option.{option_map}
use Rattle.text.proofs.Table.{entry}
use Rattle.countries.specs.Countries.{table, is_of, row_of, runs_in}
use Rattle.countries.specs.Stored.{stored}
use Rattle.countries.specs.declared.Run.{Run}
use Rattle.countries.specs.declared.Row.{Row}

abbrev no_row : Row
no_row = record { country = []; runs = [] }

-- ---- the rules of the rows

-- a row's letters are two
two_letters : (i : ℕ) → i < 34 → length (get_or table i no_row).country ≡ 2
unfolding table
two_letters i h = eqb→eq (length (get_or table i no_row).country) 2 (entry (λ r. eqb (length r.country) 2) table no_row tt i h)

-- the runs that are found have a rule that those of every row have, and no runs
runs_rule : (rule : List Run → Bool) (rs : List Row) (x y : ℕ) → T (rule []) → ((i : ℕ) → i < length rs → T (rule (get_or rs i no_row).runs))
    → T (rule (runs_in (row_of rs x y)))
unfolding row_of
runs_rule rule [] x y n h = n
runs_rule rule (r ∷ rs) x y n h = go (is_of x y r) (h 0 (omega arith)) (runs_rule rule rs x y n (λ i l. h (suc i) (omega arith)))
  where
    go : (t : Bool) → T (rule r.runs) → T (rule (runs_in (row_of rs x y))) → T (rule (runs_in (cond t (Some r) (row_of rs x y))))
    go true a b = a
    go false a b = b

-- "No row has more than three runs."
abbrev few_runs : List Run → Bool
few_runs runs = leb (length runs) 3

pub few_runs_lem : (x y : ℕ) → length (runs_in (row_of table x y)) ≤ 3
unfolding table
few_runs_lem x y =
    leb→le (length (runs_in (row_of table x y))) 3
    (runs_rule few_runs table x y tt (entry (λ r. few_runs r.runs) table no_row tt))

-- ---- the search

-- what is left of the search from the row i
module _ (rs : List Row) (x y i : ℕ) where
  hit : i < length rs → is_of x y (get_or rs i no_row) ≡ true → row_of (drop i rs) x y ≡ Some (get_or rs i no_row)
  unfolding row_of
  hit h e = rw (drop-cons rs i no_row h, e)

  passed_by : i < length rs → is_of x y (get_or rs i no_row) ≡ false → row_of (drop (i + 1) rs) x y ≡ row_of (drop i rs) x y
  unfolding row_of
  passed_by h e = rw (drop-cons rs i no_row h, add-one, e)

  none : length rs ≤ i → row_of (drop i rs) x y ≡ None
  unfolding row_of
  none h = rw (drop_of_length-le rs h)

mapped : {A B : Type 0} (f : A → B) (xs : List A) (d : A) (e : B) (k : ℕ) → k < length xs → get_or (map f xs) k e ≡ f (get_or xs k d)
mapped f [] d e k h = absurd (not-suc-le-zero h)
mapped f (x ∷ xs) d e zero h = refl
mapped f (x ∷ xs) d e (suc k) h = mapped f xs d e k (le_of_suc-le-suc h)

-- two letters are those of a country exactly where each is
both_letters : (s : List ℕ) (x y : ℕ) → length s ≡ 2 → pointwise eqb s (x ∷ y ∷ []) ≡ (eqb (get_or s 0 0) x && eqb (get_or s 1 0) y)
both_letters [] x y h = absurd (omega arith)
both_letters (a ∷ []) x y h = absurd (omega arith)
both_letters (a ∷ b ∷ []) x y h = ap (λ (t : Bool). eqb a x && t) (and-true (eqb b y))
both_letters (a ∷ b ∷ c ∷ s) x y h = absurd (omega arith)

-- a turn of the code's search, which has the table's rows as they are stored
module _ (rows : List Row) (x y i : ℕ) (kept : rows ≡ map stored table) (far : row_of (drop i table) x y ≡ row_of table x y) where
  module _ (h : i < 34) where
    row_is : get_or rows i no_row ≡ stored (get_or table i no_row)
    unfolding table
    row_is = ap (λ (rs : List Row). get_or rs i no_row) kept ∙ mapped stored table no_row no_row i h

    letters_are : pointwise eqb (get_or rows i no_row).country (x ∷ y ∷ []) ≡ is_of x y (get_or table i no_row)
    letters_are = ap (λ (r : Row). pointwise eqb r.country (x ∷ y ∷ [])) row_is ∙ both_letters (get_or table i no_row).country x y (two_letters i h)

    pub row_found : pointwise eqb (get_or rows i no_row).country (x ∷ y ∷ []) ≡ true → Some (get_or rows i no_row) ≡ option_map stored (row_of table x y)
    unfolding table
    row_found e =
        let w : row_of table x y ≡ Some (get_or table i no_row) = sym far ∙ hit table x y i h (sym letters_are ∙ e) in
        ap Some row_is ∙ sym (ap (option_map stored) w)

    pub row_passed : pointwise eqb (get_or rows i no_row).country (x ∷ y ∷ []) ≡ false → row_of (drop (i + 1) table) x y ≡ row_of table x y
    unfolding table
    row_passed e = passed_by table x y i h (sym letters_are ∙ e) ∙ far

  pub none_found : 34 ≤ i → None ≡ option_map stored (row_of table x y)
  unfolding table
  none_found h = sym (ap (option_map stored) (sym far ∙ none table x y i h))

-- a turn of the search, and its end
pub ruleset row_laws = (row_found, row_passed, none_found)
