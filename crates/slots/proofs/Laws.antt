-- The paper's sentences on well-formed journals.
use Prim.Native.Nat.{ℕ, ◌≤◌, ◌<◌, ◌*◌}
use mathlib.Core.Path.{◌≡◌}
use mathlib.Core.List.{List}
use native.Mathlib.Omega.{arith}
use lib.ListN.{length, get_or, replicate, length-replicate, get_or-replicate}
use Rattle.slots.specs.Journal.{Formed}

-- "Well formed: .. either every byte is zero": such a journal has no newest serial,
pub zeros_formed : (n : ℕ) → 1 ≤ n → n ≤ 2048 → Formed (replicate (32 * n) 0) n 0
zeros_formed n l h =
    let e : length {A = ℕ} (replicate (32 * n) 0) ≡ 32 * n = length-replicate (32 * n) 0 in
    record {
      size = e;
      least = l;
      most = h;
      stands = λ s a b. absurd (omega arith);
      rest = λ i a b. get_or-replicate (32 * n) i 0 0 (omega arith);
      order = λ s t a b. absurd (omega arith);
    }

-- and one that has none is such a journal
pub formed_zeros : (j : List ℕ) (n : ℕ) → Formed j n 0 → (i : ℕ) → i < length j → get_or j i 0 ≡ 0
formed_zeros j n f i h = f.rest i (omega arith) h
