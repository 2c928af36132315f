-- What is understood fits where it goes.
use Prim.Native.Nat.{ℕ, ◌/◌, ◌%◌, ◌≤◌}
use mathlib.Core.Path.{◌≡◌, sym, ap, ◌∙◌}
use mathlib.Core.Bool.{◌&&◌}
use mathlib.Core.List.{List}
use native.Mathlib.Omega.{arith}
use lib.Dec.{leb, ltb, eqb}
use lib.ListN.{length}
use borrow.Author.Tests.{leb-true}
use Rattle.text.specs.Bytes.{every, all_digits}
use Rattle.text.specs.Numbers.{decimal}
use Rattle.std.specs.Prelude.{Result, Ok}
use Rattle.reasons.specs.Reasons.{Outcome, gives, demand}
use Rattle.reasons.proofs.Laws.{passed}
use Rattle.numerals.specs.Numbers.{said_word, number_rule, is_hex, bytes_rule}
use Rattle.numerals.specs.declared.Unclear.{Unclear}

value : (n v : ℕ) → ◌≡◌ {A = Outcome ℕ} (gives v) (gives n) → v ≡ n
value n v e = cc

-- a number that is understood is no more than its field holds
pub number_fits : (w : List ℕ) (most n : ℕ) (r : Result ℕ Unclear) → said_word r ≡ number_rule w most → r ≡ Ok n → n ≤ most
unfolding number_rule
number_fits w most n r p q =
    let e = passed (ltb 0 (length w) && all_digits w) 1 (demand (leb (decimal w) most) 2 (gives (decimal w))) n (sym p ∙ ap said_word q) in
    let f = passed (leb (decimal w) most) 2 (gives (decimal w)) n e.1 in
    let l = leb-true (decimal w) most f.0 in
    omega (arith, l, value n (decimal w) f.1)

-- bytes that are understood are no more than there is room for
pub bytes_fit : (w : List ℕ) (room n : ℕ) (r : Result ℕ Unclear) → said_word r ≡ bytes_rule w room → r ≡ Ok n → n ≤ room
unfolding bytes_rule
bytes_fit w room n r p q =
    let e = passed (eqb (length w % 2) 0 && every is_hex w) 3 (demand (leb (length w / 2) room) 4 (gives (length w / 2))) n (sym p ∙ ap said_word q) in
    let f = passed (leb (length w / 2) room) 4 (gives (length w / 2)) n e.1 in
    let l = leb-true (length w / 2) room f.0 in
    omega (arith, l, value n (length w / 2) f.1)
