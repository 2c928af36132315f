-- Two facts of 97, each by a test that antt computes: every number from 1 to 96 has an inverse, and 10 has order 96.
--
use Prim.Native.Nat.{ℕ, suc, ◌*◌, ◌%◌, ◌^◌, ◌<◌}
use mathlib.Core.Path.{◌≡◌}
use mathlib.Core.Bool.{Bool, not}
use lib.Dec.{T, eqb, eqb→eq, T_not}
use Rattle.text.proofs.Below.{all_below, below}
use Rattle.text.proofs.Modulo.{mul_cancel}

-- the inverse of w is w to the 95
inverts : ℕ → Bool
inverts w = eqb ((suc w ^ 95 * suc w) % 97) 1

inverts_all : T (all_below inverts 96)
unfolding inverts
inverts_all = tt

pub inverse : (w : ℕ) → w < 96 → (suc w ^ 95 * suc w) % 97 ≡ 1
unfolding inverts
inverse w h = eqb→eq ((suc w ^ 95 * suc w) % 97) 1 (below inverts 96 inverts_all w h)

-- a factor below 97 that is not 0 may be cancelled: 97 is prime
pub cancels : (w a b : ℕ) → w < 96 → (suc w * a) % 97 ≡ (suc w * b) % 97 → a % 97 ≡ b % 97
cancels w a b h e = mul_cancel 97 (suc w ^ 95) (suc w) a b (inverse w h) e

-- no power of 10 from the first to the 95th leaves 1
not_one : ℕ → Bool
not_one e = not (eqb (10 ^ suc e % 97) 1)

not_one_all : T (all_below not_one 95)
unfolding not_one
not_one_all = tt

one : (n : ℕ) → n ≡ 1 → T (eqb n 1)
one n h = rw h tt

pub order : (e : ℕ) → e < 95 → 10 ^ suc e % 97 ≡ 1 → ⊥
unfolding not_one
order e h p = T_not (eqb (10 ^ suc e % 97) 1) (below not_one 95 not_one_all e h) (one (10 ^ suc e % 97) p)
