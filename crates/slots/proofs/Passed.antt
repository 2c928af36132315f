-- What the walk down the serials has passed: the records above s are good and in order.
use Prim.Native.Nat.{ℕ, ◌≤◌, ◌<◌, ◌-◌}
use mathlib.Core.Path.{◌≡◌, refl, sym, ap, ◌∙◌, subst, subst⁻¹}
use mathlib.Core.Bool.{Bool, true, false, not}
use mathlib.Core.List.{List}
use native.Mathlib.Omega.{arith}
use native.Mathlib.Decide.{dec_lt}
use Rattle.slots.specs.Record.{Good, is_held, is_released, state_at}
use Rattle.slots.specs.Journal.{place, state_of, Stands, Ordered}
use Rattle.slots.proofs.Ranges.{down_more, differ}
use Rattle.slots.proofs.States.{not_both, state_released}

-- a good record that is not held is released
pub good_released : (j : List ℕ) (at s : ℕ) → Good j at s → is_held (state_at j at) ≡ false → is_released (state_at j at) ≡ true
good_released j at s g e = state_released (state_at j at) g.state e

-- a record told by its place is told by its serial
pub good_at : (j : List ℕ) (n at s : ℕ) → at ≡ place n s → (Good j at s → Good j (place n s) s) × (Good j (place n s) s → Good j at s)
good_at j n at s e = (subst (λ (x : ℕ). Good j x s) e, subst⁻¹ (λ (x : ℕ). Good j x s) e)

pub held_at : (j : List ℕ) (n at s : ℕ) (t : Bool) → at ≡ place n s → t ≡ is_held (state_at j at) → t ≡ is_held (state_of j n s)
held_at j n at s t e f = f ∙ ap (λ (x : ℕ). is_held (state_at j x)) e

-- what the flag says: a released record was passed, or every record passed is held
pub Flag : List ℕ → ℕ → ℕ → ℕ → Bool → Type 0
Flag j n b s true = (t : ℕ) × (s < t) × (t ≤ b) × (is_released (state_of j n t) ≡ true)
Flag j n b s false = (t : ℕ) → s < t → t ≤ b → is_held (state_of j n t) ≡ true

pub record Passed (j : List ℕ) (n b s : ℕ) (gone : Bool) : Type 0 where
  pub most : s ≤ b
  pub goods : (t : ℕ) → s < t → t ≤ b → Good j (place n t) t
  pub order : (u t : ℕ) → s < u → u ≤ b → s < t → t ≤ b → is_released (state_of j n u) ≡ true → is_held (state_of j n t) ≡ true → u < t
  pub flag : Flag j n b s gone

module _ (j : List ℕ) (n b : ℕ) where
  pub start : Passed j n b b false
  unfolding Flag
  start = record {
    most = omega arith;
    goods = λ t l h. absurd (omega arith);
    order = λ u t l h m k. absurd (omega arith);
    flag = λ t l h. absurd (omega arith);
  }

  -- a held record above which every one is held
  held_turn : (s : ℕ) → 0 < s → Passed j n b s false → Good j (place n s) s → is_held (state_of j n s) ≡ true → Passed j n b (s - 1) false
  unfolding Flag
  held_turn s pos p g e =
      let all : (t : ℕ) → s - 1 < t → t ≤ b → is_held (state_of j n t) ≡ true = down_more (λ (t : ℕ). is_held (state_of j n t) ≡ true) s b pos p.flag e in
      let m = p.most in
      record {
        most = omega arith;
        goods = down_more (λ (t : ℕ). Good j (place n t) t) s b pos p.goods g;
        order = λ u t l h k q r w. absurd (not_both (state_of j n u) (all u l h) r);
        flag = all;
      }

  -- a released record below any
  released_turn : (s : ℕ) (gone : Bool) → 0 < s → Passed j n b s gone → Good j (place n s) s → is_held (state_of j n s) ≡ false → Passed j n b (s - 1) true
  unfolding Flag
  released_turn s gone pos p g e =
      let m = p.most in
      record {
        most = omega arith;
        goods = down_more (λ (t : ℕ). Good j (place n t) t) s b pos p.goods g;
        order = λ u t l h k q r w. go u t l h k q r w (dec_lt s t);
        flag = (s, omega arith, m, good_released j (place n s) s g e);
      }
    where
      above : (u t : ℕ) → s - 1 < u → u ≤ b → s < t → t ≤ b → is_released (state_of j n u) ≡ true → is_held (state_of j n t) ≡ true → Dec (s < u) → u < t
      above u t l h k q r w (yes y) = p.order u t y h k q r w
      above u t l h k q r w (no y) = omega arith

      go : (u t : ℕ) → s - 1 < u → u ≤ b → s - 1 < t → t ≤ b → is_released (state_of j n u) ≡ true → is_held (state_of j n t) ≡ true → Dec (s < t) → u < t
      go u t l h k q r w (yes y) = above u t l h y q r w (dec_lt s u)
      go u t l h k q r w (no y) =
          let z : t ≡ s = omega arith in
          absurd (differ (is_held (state_of j n s)) e (subst (λ (x : ℕ). is_held (state_of j n x) ≡ true) z w))

  pub turn : (s : ℕ) (gone held : Bool) → 0 < s → Passed j n b s gone → Good j (place n s) s → held ≡ is_held (state_of j n s)
      → (held ≡ true → gone ≡ false) → Passed j n b (s - 1) (not held)
  turn s gone true pos p g e h = held_turn s pos (subst (λ (t : Bool). Passed j n b s t) (h refl) p) g (sym e)
  turn s gone false pos p g e h = released_turn s gone pos p g (sym e)

  -- a held record below a released one
  pub late : (s : ℕ) (gone : Bool) → Passed j n b s gone → gone ≡ true → b - n < s → is_held (state_of j n s) ≡ true → Ordered j n b → ⊥
  unfolding Flag
  late s gone p e l h o =
      let f : Flag j n b s true = subst (λ (t : Bool). Flag j n b s t) e p.flag in
      let m = p.most in
      let z : f.0 < s = o f.0 s (omega (arith, f.1)) f.2 l m f.3 h in
      omega (arith, z, f.1)

  pub done : (s : ℕ) (gone : Bool) → Passed j n b s gone → s ≤ b - n → Stands j n b × Ordered j n b
  done s gone p h = ((λ t l k. p.goods t (omega arith) k), λ u t l k m q. p.order u t (omega arith) k (omega arith) q)
