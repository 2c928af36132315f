-- The IBAN of document 01 (ISO 13616).
use Rattle.std.specs.Prelude.{ℕ, Bool, ◌&&◌, List, eqb, length, drop}
use Rattle.reasons.specs.Reasons.{Outcome, gives, demand}
use Rattle.text.specs.Bytes.{within, every}
use Rattle.mod97.specs.Pair.{pair_digits, checks, pair_for}
use Rattle.countries.specs.Countries.{kind_fits, listed, runs_of, kinds_of, fits}
use Rattle.countries.specs.declared.Kind.TheVariants.{Either}

-- "each byte a digit or capital": what a place of kind c takes
abbrev pub is_allowed : ℕ → Bool
is_allowed b = kind_fits Either b

abbrev pub all_allowed : List ℕ → Bool
all_allowed s = every is_allowed s

-- "whole length, places 3 and 4 digits, body kinds"
unfoldable pub laid_out : List ℕ → Bool
laid_out s = pair_digits s && fits (kinds_of (runs_of s)) (drop 4 s)

-- "Order: length 5 to 34 (2); each byte a digit or capital (3); country listed (5); whole length, places 3 and 4 digits, body kinds (6);
-- check pair 02 to 98 and remainder 1 (4)."
unfoldable pub iban_rule : List ℕ → Outcome (Unit {0})
iban_rule s =
    demand (within 5 34 (length s)) 2
    (demand (all_allowed s) 3
    (demand (listed s) 5
    (demand (laid_out s) 6
    (demand (checks s) 4
    (gives tt)))))

-- "Making takes the country text and the body: country of 2 bytes and body of 1 to 30 (2), then 3, 5, 6; the answer is 98 less the
-- remainder with 00 in the check places."
unfoldable pub make_rule : List ℕ → List ℕ → Outcome ℕ
make_rule country body =
    demand (eqb (length country) 2 && within 1 30 (length body)) 2
    (demand (all_allowed country && all_allowed body) 3
    (demand (listed country) 5
    (demand (fits (kinds_of (runs_of country)) body) 6
    (gives (pair_for country body)))))
