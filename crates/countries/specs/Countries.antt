-- The countries of document 01, section "IBAN", and the kinds of their bodies.
use Rattle.std.specs.Prelude.{ℕ, ◌+◌, ◌-◌, Bool, true, false, cond, ◌&&◌, ◌||◌, List, [], ◌∷◌, ◌++◌, get_or, replicate, eqb, ltb, Option, Some, None, is_some}
use Prim.Native.String.{String}
use Rattle.countries.specs.declared.Kind.{Kind}
use Rattle.countries.specs.declared.Kind.TheVariants.{Digits, Capitals, Either}
use Rattle.countries.specs.declared.Run.{Run}
use Rattle.countries.specs.declared.Row.{Row}
use Rattle.text.specs.Bytes.{bytes_of, is_digit, is_capital}

-- "Body kinds: n digit, a capital, c digit or capital."
unfoldable pub kind_fits : Kind → ℕ → Bool
kind_fits Digits b = is_digit b
kind_fits Capitals b = is_capital b
kind_fits Either b = is_digit b || is_capital b

-- a run: so many characters of a kind, `4 a`
infix 90 ◌n
abbrev pub ◌n : ℕ → Run
m n = record { size = m; kind = Digits }

infix 90 ◌a
abbrev pub ◌a : ℕ → Run
m a = record { size = m; kind = Capitals }

infix 90 ◌c
abbrev pub ◌c : ℕ → Run
m c = record { size = m; kind = Either }

-- a row, of a country's letters and the runs of its body, for each of the countries that have these runs
infix 66 ◌for◌
abbrev pub ◌for◌ : List Run → List String → List Row
runs for [] = []
runs for (country ∷ more) = record { country = bytes_of country; runs = runs } ∷ (runs for more)

-- "Bodies"
unfoldable pub table : List Row
table =
    11 n ∷ [] for "NO" ∷ []
    ++ 12 n ∷ [] for "BE" ∷ []
    ++ 14 n ∷ [] for "DK" ∷ "FI" ∷ []
    ++ 15 n ∷ [] for "SI" ∷ []
    ++ 16 n ∷ [] for "AT" ∷ "EE" ∷ "LT" ∷ []
    ++ 17 n ∷ [] for "HR" ∷ []
    ++ 18 n ∷ [] for "DE" ∷ []
    ++ 20 n ∷ [] for "CZ" ∷ "ES" ∷ "SE" ∷ "SK" ∷ []
    ++ 21 n ∷ [] for "PT" ∷ []
    ++ 22 n ∷ [] for "IS" ∷ []
    ++ 24 n ∷ [] for "HU" ∷ "PL" ∷ []
    ++ 4 a ∷ 10 n ∷ [] for "NL" ∷ []
    ++ 4 a ∷ 14 n ∷ [] for "GB" ∷ "IE" ∷ []
    ++ 4 a ∷ 13 c ∷ [] for "LV" ∷ []
    ++ 4 a ∷ 16 c ∷ [] for "RO" ∷ []
    ++ 4 a ∷ 6 n ∷ 8 c ∷ [] for "BG" ∷ []
    ++ 4 a ∷ 5 n ∷ 18 c ∷ [] for "MT" ∷ []
    ++ 5 n ∷ 12 c ∷ [] for "CH" ∷ "LI" ∷ []
    ++ 3 n ∷ 13 c ∷ [] for "LU" ∷ []
    ++ 8 n ∷ 16 c ∷ [] for "CY" ∷ []
    ++ 7 n ∷ 16 c ∷ [] for "GR" ∷ []
    ++ 10 n ∷ 11 c ∷ 2 n ∷ [] for "FR" ∷ "MC" ∷ []
    ++ 1 a ∷ 10 n ∷ 12 c ∷ [] for "IT" ∷ "SM" ∷ []

-- the row is that of the country with letters x and y
abbrev pub is_of : ℕ → ℕ → Row → Bool
is_of x y r = eqb (get_or r.country 0 0) x && eqb (get_or r.country 1 0) y

-- the first such row among these
unfoldable pub row_of : List Row → ℕ → ℕ → Option Row
row_of [] x y = None
row_of (r ∷ rs) x y = cond (is_of x y r) (Some r) (row_of rs x y)

abbrev pub runs_in : Option Row → List Run
runs_in None = []
runs_in (Some r) = r.runs

-- the country whose letters begin a text: whether it is listed, and the runs of its body
abbrev pub listed : List ℕ → Bool
listed s = is_some (row_of table (get_or s 0 0) (get_or s 1 0))

abbrev pub runs_of : List ℕ → List Run
runs_of s = runs_in (row_of table (get_or s 0 0) (get_or s 1 0))

-- the kind of each place of a body, one run after another
unfoldable pub kinds_of : List Run → List Kind
kinds_of [] = []
kinds_of (r ∷ rs) = replicate r.size r.kind ++ kinds_of rs

-- a body has as many characters as there are places, and each fits the kind of its place
unfoldable pub fits : List Kind → List ℕ → Bool
fits [] [] = true
fits [] (b ∷ s) = false
fits (k ∷ ks) [] = false
fits (k ∷ ks) (b ∷ s) = kind_fits k b && fits ks s

abbrev pub is_c : Kind → Bool
is_c Digits = false
is_c Capitals = false
is_c Either = true

-- places m and m + 1 of a body, counted from 0, lie in "one run of c"
unfoldable pub in_run_of_c : List Run → ℕ → Bool
in_run_of_c [] m = false
in_run_of_c (r ∷ rs) m = cond (ltb m r.size) (is_c r.kind && ltb (m + 1) r.size) (in_run_of_c rs (m - r.size))
