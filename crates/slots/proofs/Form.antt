-- The newest serial is the highest that stands in a slot, so that there is only one.
use Prim.Native.Nat.{ℕ, ◌≤◌, ◌<◌, ◌+◌, ◌-◌, ◌*◌, ◌/◌, ◌%◌}
use mathlib.Core.Path.{◌≡◌, ap, ◌∙◌, subst}
use mathlib.Core.Bool.{true, false}
use mathlib.Core.List.{List}
use native.Mathlib.Omega.{arith}
use native.Mathlib.Decide.{dec_lt}
use native.Mathlib.Nat.{mod-lt, le_antisymm}
use borrow.Author.Tests.{eqb-true, eq-eqb}
use lib.Dec.{eqb}
use lib.ListN.{length}
use Rattle.text.specs.Bytes.{within}
use Rattle.text.proofs.Tests.{both_true, inside, inside_is}
use Rattle.text.specs.Numbers.{u32_at}
use Rattle.slots.specs.Record.{Good}
use Rattle.slots.specs.Journal.{sized, place, Formed}
use Rattle.slots.proofs.Ranges.{differ}
use Rattle.slots.proofs.Ring.{kept_at}

module _ (j : List ℕ) (n b : ℕ) (f : Formed j n b) where
  empty : (k : ℕ) → k < n → b ≤ k → u32_at j (32 * k) ≡ 0
  unfolding u32_at
  empty k hk h =
      let s = f.size in
      omega (
        arith,
        f.rest (32 * k) (omega arith) (omega arith),
        f.rest (32 * k + 1) (omega arith) (omega arith),
        f.rest (32 * k + 2) (omega arith) (omega arith),
        f.rest (32 * k + 3) (omega arith) (omega arith),
      )

  -- no slot has a serial above the newest
  pub serial_le : (k : ℕ) → k < n → u32_at j (32 * k) ≤ b
  serial_le k hk = go (dec_lt k b)
    where
      kept : (s : ℕ) × (b - n < s) × (s ≤ b) × ((s - 1) % n ≡ k) → u32_at j (32 * k) ≤ b
      kept w =
          let g : Good j (place n w.0) w.0 = f.stands w.0 w.1 w.2 in
          let e : u32_at j (32 * k) ≡ w.0 = subst (λ (m : ℕ). u32_at j (32 * m) ≡ w.0) w.3 g.serial in
          omega (arith, e, w.2)

      go : Dec (k < b) → u32_at j (32 * k) ≤ b
      go (yes h) = kept (kept_at n b k hk h)
      go (no h) = omega (arith, empty k hk (omega arith))

  -- the newest serial is at most any bound of the slots' serials
  pub le_top : (t : ℕ) → ((k : ℕ) → k < n → u32_at j (32 * k) ≤ t) → b ≤ t
  le_top t above = go (dec_lt 0 b)
    where
      go : Dec (0 < b) → b ≤ t
      go (yes h) =
          let l = f.least in
          let g : Good j (place n b) b = f.stands b (omega arith) (omega arith) in
          omega (arith, g.serial, above ((b - 1) % n) (mod-lt (b - 1) (omega arith)))
      go (no h) = omega arith

-- whatever newest serial a journal has, it is the highest serial of its slots
pub formed_top : (j : List ℕ) (n t : ℕ) → length j ≡ 32 * n → ((k : ℕ) → k < n → u32_at j (32 * k) ≤ t)
    → ((m : ℕ) → ((k : ℕ) → k < n → u32_at j (32 * k) ≤ m) → t ≤ m)
    → (n' b : ℕ) → Formed j n' b → Formed j n t
formed_top j n t size above least n' b f =
    let s : length j ≡ 32 * n' = f.size in
    let en : n' ≡ n = omega arith in
    let g : Formed j n b = subst (λ (m : ℕ). Formed j m b) en f in
    let eb : b ≡ t = le_antisymm (le_top j n b g t above) (least b (serial_le j n b g)) in
    subst (λ (x : ℕ). Formed j n x) eb g

-- a journal has one newest serial
pub formed_one : (j : List ℕ) (n b c : ℕ) → Formed j n b → Formed j n c → b ≡ c
formed_one j n b c f g = le_antisymm (le_top j n b f c (serial_le j n c g)) (le_top j n c g b (serial_le j n b f))

-- ---- the length

pub is_sized : (len : ℕ) → sized len ≡ true → (len ≡ 32 * (len / 32)) × (1 ≤ len / 32) × (len / 32 ≤ 2048)
unfolding sized
is_sized len h =
    let p = both_true (eqb (len % 32) 0) (within 1 2048 (len / 32)) h in
    let z : len % 32 ≡ 0 = eqb-true (len % 32) 0 p.0 in
    let w = inside_is 1 2048 (len / 32) p.1 in
    (omega arith, w.0, w.1)

pub sized_is : (n : ℕ) → 1 ≤ n → n ≤ 2048 → sized (32 * n) ≡ true
unfolding sized
sized_is n l h =
    let z : 32 * n % 32 ≡ 0 = omega arith in
    let q : 32 * n / 32 ≡ n = omega arith in
    simp (eq-eqb (32 * n % 32) 0 z, inside 1 2048 (32 * n / 32) (omega arith) (omega arith))

pub not-sized : (j : List ℕ) → sized (length j) ≡ false → (n b : ℕ) → Formed j n b → ⊥
not-sized j h n b f = differ (sized (length j)) h (ap sized f.size ∙ sized_is n f.least f.most)
