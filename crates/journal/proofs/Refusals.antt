-- "Each is given exactly when its condition is the first to hold in the order stated for that call": book and release.
use Rattle.std.proofs.Common.{Option}
use Prim.Native.Nat.{ℕ}
use mathlib.Core.Path.{◌≡◌}
use mathlib.Core.Bool.{not}
use mathlib.Core.Logic.{◌↔◌}
use mathlib.Core.List.{List}
use lib.Dec.{eqb}
use lib.ListN.{length}
use Rattle.text.specs.Bytes.{within, all_digits}
use Rattle.reasons.specs.Reasons.{refuses}
use Rattle.reasons.proofs.Laws.{First, never, refuses_exactly}
use Rattle.luhn.specs.Luhn.{passes}
use Rattle.pan.specs.Pan.{pan_length}
use Rattle.slots.specs.Views.{formed, newest}
use Rattle.journal.specs.Rules.{full, book_rule, release_rule}

module _ (m : Option ℕ) (j : List ℕ) (n : ℕ) where
  -- "16, 2, 3, 4 (Luhn), 17, 19 (newest is 4,294,967,295), 18 (all N slots held)"
  pub book_refuses : (pan : List ℕ) (label amount : ℕ) → (book_rule m j pan label amount ≡ refuses n) ↔
      First (formed m) 16 n
      (First (pan_length (length pan)) 2 n
      (First (all_digits pan) 3 n
      (First (passes pan) 4 n
      (First (not (eqb amount 0)) 17 n
      (First (not (eqb (newest m) 4294967295)) 19 n
      (First (not (full j)) 18 n ⊥))))))
  unfolding book_rule
  book_refuses pan label amount =
      refuses_exactly _ 16 _ n
      (refuses_exactly _ 2 _ n
      (refuses_exactly _ 3 _ n
      (refuses_exactly _ 4 _ n
      (refuses_exactly _ 17 _ n
      (refuses_exactly _ 19 _ n
      (refuses_exactly _ 18 _ n (never _ n)))))))

  -- "16, then 20 if s is 0 or above the newest"
  pub release_refuses : (s : ℕ) → (release_rule m j s ≡ refuses n) ↔ First (formed m) 16 n (First (within 1 (newest m) s) 20 n ⊥)
  unfolding release_rule
  release_refuses s = refuses_exactly _ 16 _ n (refuses_exactly _ 20 _ n (never _ n))
