-- The creditor reference of document 01 (ISO 11649).
use Rattle.std.specs.Prelude.{ℕ, Bool, ◌&&◌, ◌||◌, List, eqb, length, get_or}
use Prim.Native.Char.{code}
use Rattle.reasons.specs.Reasons.{Outcome, gives, demand}
use Rattle.text.specs.Bytes.{bytes_of, within, is_digit, is_capital, every}
use Rattle.mod97.specs.Pair.{pair_digits, checks, pair_for}

-- "digits or capitals"
unfoldable pub is_plain : ℕ → Bool
is_plain b = is_digit b || is_capital b

abbrev pub all_plain : List ℕ → Bool
all_plain s = every is_plain s

-- "`RF` and digits at 3 and 4"
unfoldable pub laid_out : List ℕ → Bool
laid_out s = eqb (get_or s 0 0) (code "R") && (eqb (get_or s 1 0) (code "F") && pair_digits s)

-- "Order: length 5 to 25 (2), bytes (3), `RF` and digits at 3 and 4 (6), pair 02 to 98 and remainder 1 (4)"
unfoldable pub creditor_rule : List ℕ → Outcome (Unit {0})
creditor_rule s =
    demand (within 5 25 (length s)) 2
    (demand (all_plain s) 3
    (demand (laid_out s) 6
    (demand (checks s) 4
    (gives tt))))

-- "Making takes a body of 1 to 21: 2, 3; answered alike."
unfoldable pub make_rule : List ℕ → Outcome ℕ
make_rule body =
    demand (within 1 21 (length body)) 2
    (demand (all_plain body) 3
    (gives (pair_for (bytes_of "RF") body)))
