-- What an IBAN asks, as mod97's laws of a standard take it, and its body as the code cuts it.
use Prim.Native.Nat.{ℕ, ◌-◌}
use mathlib.Core.Path.{◌≡◌}
use mathlib.Core.Bool.{◌&&◌}
use mathlib.Core.List.{List}
use native.Mathlib.Omega.{arith}
use lib.Dec.{eqb}
use lib.ListN.{length, take, drop, length-drop}
use lib.Seq.{take_all}
use Rattle.text.specs.Bytes.{within}
use Rattle.mod97.proofs.Standard.{Answers, Standard}
use Rattle.countries.specs.Countries.{listed, runs_of, kinds_of, fits}
use Rattle.countries.proofs.Fits.{found_fits, none_listed}
use Rattle.iban.specs.Iban.{is_allowed, all_allowed, laid_out}

abbrev pub standard : Standard
standard = record { low = 5; high = 34; allows = is_allowed; lists = listed; lays = laid_out }

abbrev pub make_answers : List ℕ → List ℕ → Answers
make_answers t s = record {
  count = eqb (length t) 2 && within 1 30 (length s);
  bytes = all_allowed t && all_allowed s;
  country = listed t;
  layout = fits (kinds_of (runs_of t)) s;
}

-- what stands behind the first four bytes, as the code cuts it
pub behind_four : (s : List ℕ) → take (length s - 4) (drop 4 s) ≡ drop 4 s
behind_four s = take_all (length s - 4) (drop 4 s) (omega (arith, length-drop 4 s))

-- what the code's row says of a country, and of a body
pub ruleset row_laws = (found_fits, none_listed, behind_four)
