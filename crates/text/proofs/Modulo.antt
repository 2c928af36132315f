-- Equal remainders: the laws of sums and products, over any divisor, and those that divide.
use Prim.Native.Nat.{ℕ, suc, ◌+◌, ◌*◌, ◌%◌, ◌/◌}
use mathlib.Core.Path.{◌≡◌, refl, sym, ap, ◌∙◌}
use native.Mathlib.Omega.{arith}
use native.Mathlib.Nat.{add-mod, div-add-mod, mul-add, mul_left_comm, mul-add-mod_self_left, mul_comm, mul_assoc, add-mul-mod_self_left}

module _ (m : ℕ) where
  -- a factor's remainder may stand for the factor
  pub mul_mod : (k a : ℕ) → (k * (a % m)) % m ≡ (k * a) % m
  mul_mod k a =
      sym (mul-add-mod_self_left m (k * (a / m)) (k * (a % m)))
      ∙ ap (λ (x : ℕ). x % m) (ap (λ (x : ℕ). x + k * (a % m)) (mul_left_comm m k (a / m)) ∙ sym (mul-add k (m * (a / m)) (a % m)) ∙ ap (λ (x : ℕ). k * x) (div-add-mod a m))

  pub mul_cong : (k a b : ℕ) → a % m ≡ b % m → (k * a) % m ≡ (k * b) % m
  mul_cong k a b h = sym (mul_mod k a) ∙ ap (λ (x : ℕ). (k * x) % m) h ∙ mul_mod k b

  pub add_cong : (a b c d : ℕ) → a % m ≡ b % m → c % m ≡ d % m → (a + c) % m ≡ (b + d) % m
  add_cong a b c d h l = add-mod a c m ∙ ap (λ (x : ℕ). (x + c % m) % m) h ∙ ap (λ (x : ℕ). (b % m + x) % m) l ∙ sym (add-mod b d m)

  -- a factor that has an inverse may be cancelled
  unit : (i k a : ℕ) → (i * k) % m ≡ 1 % m → (i * (k * a)) % m ≡ a % m
  unit i k a h =
      ap (λ (x : ℕ). x % m) (sym (mul_assoc i k a) ∙ mul_comm (i * k) a)
      ∙ mul_cong a (i * k) 1 h
      ∙ ap (λ (x : ℕ). x % m) (omega arith)

  pub mul_cancel : (i k a b : ℕ) → (i * k) % m ≡ 1 % m → (k * a) % m ≡ (k * b) % m → a % m ≡ b % m
  mul_cancel i k a b u h = sym (unit i k a u) ∙ mul_cong i (k * a) (k * b) h ∙ unit i k b u

-- what is added on both sides may be taken away, since k * v more makes a multiple of the divisor
whole : (k v x : ℕ) → (x + v + k * v) % suc k ≡ x % suc k
whole k v x = ap (λ (y : ℕ). y % suc k) (omega arith) ∙ add-mul-mod_self_left x (suc k) v

pub add_cancel : (k v a b : ℕ) → (a + v) % suc k ≡ (b + v) % suc k → a % suc k ≡ b % suc k
add_cancel k v a b h = sym (whole k v a) ∙ add_cong (suc k) (a + v) (b + v) (k * v) (k * v) h refl ∙ whole k v b
