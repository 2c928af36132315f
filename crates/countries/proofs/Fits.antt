-- A body by its runs, and place by place.
use Prim.Native.Nat.{ℕ, zero, suc, ◌+◌, ◌-◌, ◌<◌, ◌≤◌}
use mathlib.Core.Path.{◌≡◌, refl, sym, ap, ◌∙◌}
use mathlib.Core.Bool.{Bool, true, false, ◌&&◌, and-false, and_assoc}
use mathlib.Core.List.{List, [], ◌∷◌, ◌++◌}
use native.Mathlib.Omega.{arith}
use native.Mathlib.Nat.{le_of_suc-le-suc, not-suc-le-zero}
use native.Mathlib.Numerals.{add-one}
use lib.Dec.{eqb}
use lib.ListN.{length, get_or, take, drop, replicate, length-drop, drop_of_length-le}
use lib.Seq.{drop-cons, take_all}
use borrow.Author.Tests.{ne_eqb}
use Rattle.std.specs.Prelude.{Option, Some, None, is_some}
use Rattle.std.specs.Option.{option_map}
use Rattle.std.specs.List.{list_all}
use Rattle.text.specs.Bytes.{every}
use Rattle.countries.specs.Countries.{table, row_of, runs_in, kind_fits, kinds_of, fits}
use Rattle.countries.specs.Stored.{three, stored}
use Rattle.countries.specs.declared.Kind.{Kind}
use Rattle.countries.specs.declared.Kind.TheVariants.{Digits}
use Rattle.countries.specs.declared.Run.{Run}
use Rattle.countries.specs.declared.Row.{Row}
use Rattle.countries.proofs.Rows.{few_runs_lem}

-- what the library says of every byte
pub every_all : (f : ℕ → Bool) (s : List ℕ) → list_all f s ≡ every f s
unfolding every
every_all f [] = refl
every_all f (b ∷ s) = ap (λ (t : Bool). f b && t) (every_all f s)

-- a body with a run in front
fits_run : (k : Kind) (m : ℕ) (ks : List Kind) (s : List ℕ) → m ≤ length s
    → fits (replicate m k ++ ks) s ≡ (every (kind_fits k) (take m s) && fits ks (drop m s))
unfolding every fits
fits_run k zero ks s h = refl
fits_run k (suc m) ks [] h = absurd (not-suc-le-zero h)
fits_run k (suc m) ks (b ∷ s) h =
    ap (λ (t : Bool). kind_fits k b && t) (fits_run k m ks s (le_of_suc-le-suc h))
    ∙ sym (and_assoc (kind_fits k b) (every (kind_fits k) (take m s)) (fits ks (drop m s)))

-- and one that is too short for it
fits_short : (k : Kind) (m : ℕ) (ks : List Kind) (s : List ℕ) → length s < m → fits (replicate m k ++ ks) s ≡ false
unfolding fits
fits_short k zero ks s h = absurd (omega arith)
fits_short k (suc m) ks [] h = refl
fits_short k (suc m) ks (b ∷ s) h = rw (fits_short k m ks s (le_of_suc-le-suc h)) (and-false (kind_fits k b))

fits_none : (s : List ℕ) → fits [] s ≡ eqb (length s) 0
unfolding fits
fits_none [] = refl
fits_none (b ∷ s) = sym (ne_eqb (length (b ∷ s)) 0 (λ e. omega arith))

abbrev no_run : Run
no_run = record { size = 0; kind = Digits }

-- a turn of the code's test, of the run i on what is left of the body
module _ (runs : List Run) (s : List ℕ) (i : ℕ) (t : Bool) (far : fits (kinds_of (drop i runs)) s ≡ t) where
  module _ (h : i < length runs) where
    turn : fits (replicate (get_or runs i no_run).size (get_or runs i no_run).kind ++ kinds_of (drop (i + 1) runs)) s ≡ t
    unfolding kinds_of
    turn = ap (λ (n : ℕ). fits (replicate (get_or runs i no_run).size (get_or runs i no_run).kind ++ kinds_of (drop n runs)) s) (add-one i) ∙ (rw (drop-cons runs i no_run h) at far)

    pub run_short : length s < (get_or runs i no_run).size → false ≡ t
    run_short l = sym (fits_short (get_or runs i no_run).kind (get_or runs i no_run).size (kinds_of (drop (i + 1) runs)) s l) ∙ turn

    module _ (room : (get_or runs i no_run).size ≤ length s) where
      run_then : (every (kind_fits (get_or runs i no_run).kind) (take (get_or runs i no_run).size s) && fits (kinds_of (drop (i + 1) runs)) (drop (get_or runs i no_run).size s)) ≡ t
      run_then = sym (fits_run (get_or runs i no_run).kind (get_or runs i no_run).size (kinds_of (drop (i + 1) runs)) s room) ∙ turn

      pub run_misfit : every (kind_fits (get_or runs i no_run).kind) (take (get_or runs i no_run).size s) ≡ false → false ≡ t
      run_misfit e = sym (ap (λ (u : Bool). u && fits (kinds_of (drop (i + 1) runs)) (drop (get_or runs i no_run).size s)) e) ∙ run_then

      pub run_passed : (n : ℕ) → n ≡ length s - (get_or runs i no_run).size → every (kind_fits (get_or runs i no_run).kind) (take (get_or runs i no_run).size s) ≡ true
          → fits (kinds_of (drop (i + 1) runs)) (take n (drop (get_or runs i no_run).size s)) ≡ t
      run_passed n k e =
          ap (fits (kinds_of (drop (i + 1) runs))) (take_all n (drop (get_or runs i no_run).size s) (omega (arith, length-drop (get_or runs i no_run).size s)))
          ∙ sym (ap (λ (u : Bool). u && fits (kinds_of (drop (i + 1) runs)) (drop (get_or runs i no_run).size s)) e) ∙ run_then

  pub runs_end : length runs ≤ i → eqb (length s) 0 ≡ t
  unfolding kinds_of
  runs_end h = sym (fits_none s) ∙ ap (λ (rs : List Run). fits (kinds_of rs) s) (sym (drop_of_length-le runs {i = i} h)) ∙ far

-- the turns of the test, and its end
pub ruleset run_laws = (run_short, run_misfit, run_passed, runs_end)

-- the runs that the code has in place of the paper's have the same places
three_kinds : (runs : List Run) → length runs ≤ 3 → kinds_of (three runs) ≡ kinds_of runs
unfolding kinds_of
three_kinds [] h = refl
three_kinds (p ∷ []) h = refl
three_kinds (p ∷ q ∷ []) h = refl
three_kinds (p ∷ q ∷ r ∷ []) h = refl
three_kinds (p ∷ q ∷ r ∷ o ∷ runs) h = absurd (omega arith)

-- what the code finds of two letters, a row or none, says what the rule says: whether such a country is listed, and which bodies fit it
pub row_fits : (x y : ℕ) (o : Option Row) (s : List ℕ) → o ≡ option_map stored (row_of table x y)
    → (is_some o ≡ is_some (row_of table x y)) × (fits (kinds_of (runs_in o)) s ≡ fits (kinds_of (runs_in (row_of table x y))) s)
row_fits x y o s = go (row_of table x y) (few_runs_lem x y)
  where
    go : (p : Option Row) → length (runs_in p) ≤ 3 → o ≡ option_map stored p
        → (is_some o ≡ is_some p) × (fits (kinds_of (runs_in o)) s ≡ fits (kinds_of (runs_in p)) s)
    go None h e = rw e (refl, refl)
    go (Some w) h e = rw e (refl, ap (λ (ks : List Kind). fits ks s) (three_kinds w.runs h))

-- so of a row that it found
pub found_fits : (x y : ℕ) (r : Row) (s : List ℕ) → option_map stored (row_of table x y) ≡ Some r
    → (is_some (row_of table x y) ≡ true) × (fits (kinds_of r.runs) s ≡ fits (kinds_of (runs_in (row_of table x y))) s)
found_fits x y r s e = let w = row_fits x y (Some r) s (sym e) in (sym w.0, w.1)

-- and where it finds none the country isn't listed
pub none_listed : (x y : ℕ) → option_map stored (row_of table x y) ≡ None → is_some (row_of table x y) ≡ false
none_listed x y e = sym (row_fits x y None [] (sym e)).0
