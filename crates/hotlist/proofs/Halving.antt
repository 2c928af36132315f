-- The search: what is left of the list halves at each look.
use Prim.Native.Nat.{ℕ, suc, ◌+◌, ◌-◌, ◌*◌, ◌^◌, ◌≤◌, ◌<◌}
use mathlib.Core.Path.{◌≡◌, ap, ◌∙◌}
use mathlib.Core.Bool.{true, false}
use mathlib.Core.List.{List}
use native.Mathlib.Omega.{arith}
use native.Mathlib.Nat.{pow-suc, lt_of_le_of_lt, lt_of_lt_of_le}
use native.Mathlib.Decide.{ℕ_discrete, dec_lt}
use lib.ListN.{length, get_or}
use Rattle.hotlist.specs.Hotlist.{rises, stands}
use Rattle.hotlist.proofs.Rising.{rises_up_to, stands-not}

-- x stands from low to below high or nowhere, and looks are left to find it
pub record Bracket (s : List ℕ) (x low high looks : ℕ) : Type 0 where
  pub in_order : low ≤ high
  pub in_list : high ≤ length s
  pub below : (k : ℕ) → k < low → get_or s k 0 < x
  pub above : (k : ℕ) → high ≤ k → k < length s → x < get_or s k 0
  pub looked : looks ≤ 14
  pub left : high - low < 2 ^ (14 - looks)

module _ (s : List ℕ) (x : ℕ) where
  pub start : length s ≤ 8192 → Bracket s x 0 (length s) 0
  start h =
      record {
        in_order = omega arith;
        in_list = omega arith;
        below = λ k l. absurd (omega arith);
        above = λ k l g. absurd (omega arith);
        looked = omega arith;
        left = omega arith;
      }

  -- once nothing is left
  pub nowhere : (low high looks : ℕ) → Bracket s x low high looks → high ≤ low → stands x s ≡ false
  nowhere low high looks b h = stands-not x s (λ k l e. not_there k l e (dec_lt k low))
    where
      not_there : (k : ℕ) → k < length s → get_or s k 0 ≡ x → Dec (k < low) → ⊥
      not_there k l e (yes g) = omega (arith, b.below k g)
      not_there k l e (no n) = omega (arith, b.above k (omega arith) l)

  -- one look
  module _ (low high looks : ℕ) (b : Bracket s x low high looks) (h : low < high) where
    pub look_left : looks < 14
    look_left = by (ℕ_discrete looks 14)
      where
        by : Dec (looks ≡ 14) → looks < 14
        by (no n) = omega (arith, b.looked)
        by (yes e) = let z : high - low < 2 ^ (14 - 14) = rw e at b.left in absurd (omega arith)

    -- half as many after it
    half : 2 ^ (14 - looks) ≡ 2 * 2 ^ (14 - (looks + 1))
    half =
        let e : 14 - looks ≡ suc (14 - (looks + 1)) = omega (arith, look_left) in
        ap (λ (k : ℕ). 2 ^ k) e ∙ pow-suc 2 (14 - (looks + 1)) ∙ omega arith

    -- at a number between, with at most half of the rest on either side
    module _ (r : rises s ≡ true) (middle : ℕ) (l : low ≤ middle) (m : middle < high) where
      pub upper : 2 * (high - (middle + 1)) ≤ high - low → get_or s middle 0 < x → Bracket s x (middle + 1) high (looks + 1)
      upper few g =
          record {
            in_order = omega arith;
            in_list = b.in_list;
            below = λ k n. lt_of_le_of_lt (rises_up_to s k middle r (omega arith) (omega (arith, b.in_list))) g;
            above = b.above;
            looked = omega (arith, look_left);
            left = omega (arith, half, b.left);
          }

      pub lower : 2 * (middle - low) ≤ high - low → x < get_or s middle 0 → Bracket s x low middle (looks + 1)
      lower few g =
          record {
            in_order = l;
            in_list = omega (arith, b.in_list);
            below = b.below;
            above = λ k n o. lt_of_lt_of_le g (rises_up_to s middle k r n o);
            looked = omega (arith, look_left);
            left = omega (arith, half, b.left);
          }
