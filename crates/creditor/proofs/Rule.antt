-- What a creditor reference asks, as mod97's laws of a standard take it: it knows no countries.
use mathlib.Core.Bool.{true}
use mathlib.Core.List.{List}
use Prim.Native.Nat.{ℕ}
use lib.ListN.{length}
use Rattle.text.specs.Bytes.{within}
use Rattle.mod97.proofs.Standard.{Answers, Standard}
use Rattle.creditor.specs.Creditor.{is_plain, all_plain, laid_out}

abbrev pub standard : Standard
standard = record { low = 5; high = 25; allows = is_plain; lists = λ _. true; lays = laid_out }

abbrev pub make_answers : List ℕ → Answers
make_answers body = record { count = within 1 21 (length body); bytes = all_plain body; country = true; layout = true }
