-- What a remainder finds: a changed character, two exchanged ones, two neighbours of one digit and of two. Over the characters' numbers.
--
use Prim.Native.Nat.{ℕ, zero, suc, ◌+◌, ◌*◌, ◌-◌, ◌%◌, ◌^◌, ◌<◌, ◌≤◌}
use mathlib.Core.Path.{◌≡◌, refl, sym, ap, ◌∙◌}
use mathlib.Core.Bool.{Bool, true, false, cond}
use mathlib.Core.List.{List, [], ◌∷◌, ◌++◌}
use mathlib.Core.Logic.{inl, inr}
use native.Mathlib.Omega.{arith}
use native.Mathlib.Nat.{mul_comm, suc-add, mod-eq_of_lt}
use native.Mathlib.Decide.{dec_le, ℕ_discrete}
use lib.Dec.{ltb}
use lib.Pow.{pow-add}
use lib.ListN.{length}
use Rattle.text.proofs.Modulo.{add_cancel}
use Rattle.mod97.specs.Text.{number, number_after}
use Rattle.mod97.proofs.Laws.{shift, shift_one, shift_two, number-none, number_cons, number_at, number_inj}
use Rattle.mod97.proofs.Numbers.{OneDigit, TwoDigits, Alike}
use Rattle.mod97.proofs.Prime.{cancels, order}

-- what is used of two characters that are alike
record Kin (c d : ℕ) : Type 0 where
  shifts : shift d ≡ shift c
  small_c : number c < 97
  small_d : number d < 97

kin : (c d : ℕ) → Alike c d → Kin c d
kin c d (inl (h, k)) = record { shifts = shift_one d k ∙ sym (shift_one c h); small_c = omega arith; small_d = omega arith }
kin c d (inr (h, k)) = record { shifts = shift_two d k.0 ∙ sym (shift_two c h.0); small_c = h.1; small_d = k.1 }

-- the remainder is the same after one character became another like it only where the two have one number
pub change : (n : ℕ) (x y : List ℕ) (c d : ℕ) → Alike c d
    → number_after n (x ++ c ∷ y) % 97 ≡ number_after n (x ++ d ∷ y) % 97 → number c ≡ number d
change n x y c d s h =
    let k = kin c d s in
    let a = number_after n x * shift c in
    let e : (a + number c) % 97 ≡ (a + number d) % 97 =
    number_inj y (a + number c) (a + number d) (sym (ap (λ (m : ℕ). m % 97) (number_at n x c y)) ∙ h ∙ ap (λ (m : ℕ). m % 97) (number_at n x d y) ∙ ap (λ (m : ℕ). number_after (number_after n x * m + number d) y % 97) k.shifts) in
    let f : number c % 97 ≡ number d % 97 =
    add_cancel 96 a (number c) (number d) (ap (λ (m : ℕ). m % 97) (omega arith) ∙ e ∙ ap (λ (m : ℕ). m % 97) (omega arith)) in
    omega (arith, k.small_c, k.small_d, f)

-- what a text's characters shift by, all together: a power of ten
scale : List ℕ → ℕ
scale [] = 1
scale (c ∷ s) = shift c * scale s

linear : (n : ℕ) (s : List ℕ) → number_after n s ≡ n * scale s + number_after 0 s
unfolding scale
linear n [] = rw (number-none n, number-none 0) (omega arith)
linear n (c ∷ s) =
    number_cons n c s
    ∙ linear (n * shift c + number c) s
    ∙ omega (arith, linear (0 * shift c + number c) s, number_cons 0 c s)

-- a shift is the first or the second power of ten
shift_tens : (c : ℕ) → (e : ℕ) × (e < 2) × (shift c ≡ 10 ^ suc e)
unfolding shift
shift_tens c = go (ltb (number c) 10)
  where
    go : (b : Bool) → (e : ℕ) × (e < 2) × (cond b 10 100 ≡ 10 ^ suc e)
    go true = (0, omega arith, refl)
    go false = (1, omega arith, refl)

scale_tens : (s : List ℕ) → (e : ℕ) × (e ≤ 2 * length s) × (scale s ≡ 10 ^ e)
unfolding scale
scale_tens [] = (0, omega arith, refl)
scale_tens (c ∷ s) =
    let (e, h, p) = shift_tens c in
    let (f, k, q) = scale_tens s in
    (suc e + f, omega arith, ap (λ (m : ℕ). m * scale s) p ∙ ap (λ (m : ℕ). 10 ^ suc e * m) q ∙ sym (pow-add 10 (suc e) f))

-- the heart of it: u and v at two places whose weights differ by a factor E that does not leave 1
apart : (u w E : ℕ) → u + w < 97 → (E % 97 ≡ 1 → ⊥) → (u * E + (u + w)) % 97 ≡ ((u + w) * E + u) % 97 → w ≡ 0
apart u zero E h n e = refl
apart u (suc w) E h n e =
    absurd (n (cancels w E 1 (omega arith)
    (sym (add_cancel 96 (u * E + u) (suc w * 1) (suc w * E) (ap (λ (m : ℕ). m % 97) (omega arith) ∙ e ∙ ap (λ (m : ℕ). m % 97) (omega arith))))))

ordered : (u v E : ℕ) → u ≤ v → v < 97 → (E % 97 ≡ 1 → ⊥) → (u * E + v) % 97 ≡ (v * E + u) % 97 → u ≡ v
ordered u v E l h n e =
    let p : u + (v - u) ≡ v = omega arith in
    let z : v - u ≡ 0 = apart u (v - u) E (omega arith) n (rw p e) in
    omega arith

weighed : (u v E : ℕ) → u < 97 → v < 97 → (E % 97 ≡ 1 → ⊥) → (u * E + v) % 97 ≡ (v * E + u) % 97 → u ≡ v
weighed u v E hu hv n e = go (dec_le u v)
  where
    go : Dec (u ≤ v) → u ≡ v
    go (yes l) = ordered u v E l hv n e
    go (no l) = sym (ordered v u E (omega arith) hu n (sym e))

-- the factor between two places does not leave 1 where fewer than 47 characters stand between them
factor : (c : ℕ) (y : List ℕ) → length y < 47 → (scale y * shift c) % 97 ≡ 1 → ⊥
factor c y h p =
    let (e, l, q) = shift_tens c in
    let (f, k, r) = scale_tens y in
    order (e + f) (omega arith) (ap (λ (m : ℕ). m % 97) (ap (λ (m : ℕ). 10 ^ m) (sym (suc-add e f)) ∙ pow-add 10 (suc e) f ∙ mul_comm (10 ^ suc e) (10 ^ f) ∙ sym (ap (λ (m : ℕ). m * shift c) r ∙ ap (λ (m : ℕ). 10 ^ f * m) q)) ∙ p)

-- a text by two of its characters
two : (n : ℕ) (x y z : List ℕ) (c d : ℕ)
    → number_after n (x ++ c ∷ (y ++ d ∷ z)) ≡ number_after (((number_after n x * shift c + number c) * scale y + number_after 0 y) * shift d + number d) z
two n x y z c d =
    number_at n x c (y ++ d ∷ z)
    ∙ number_at (number_after n x * shift c + number c) y d z
    ∙ ap (λ (m : ℕ). number_after (m * shift d + number d) z) (linear (number_after n x * shift c + number c) y)

-- what both have in common goes
plain : (A k W Y u v : ℕ) → (((A * k + u) * W + Y) * k + v) % 97 ≡ (((A * k + v) * W + Y) * k + u) % 97
    → (u * (W * k) + v) % 97 ≡ (v * (W * k) + u) % 97
plain A k W Y u v e =
    add_cancel 96 ((A * k * W + Y) * k) (u * (W * k) + v) (v * (W * k) + u)
    (ap (λ (m : ℕ). m % 97) (omega arith) ∙ e ∙ ap (λ (m : ℕ). m % 97) (omega arith))

-- the remainder is the same after two characters that are alike were exchanged only where the two have one number
pub exchange : (n : ℕ) (x y z : List ℕ) (c d : ℕ) → Alike c d → length y < 47
    → number_after n (x ++ c ∷ (y ++ d ∷ z)) % 97 ≡ number_after n (x ++ d ∷ (y ++ c ∷ z)) % 97 → number c ≡ number d
exchange n x y z c d s h e =
    let k = kin c d s in
    let A = number_after n x in
    let W = scale y in
    let Y = number_after 0 y in
    let p = two n x y z c d ∙ ap (λ (m : ℕ). number_after (((A * shift c + number c) * W + Y) * m + number d) z) k.shifts in
    let q = two n x y z d c ∙ ap (λ (m : ℕ). number_after (((A * m + number d) * W + Y) * shift c + number c) z) k.shifts in
    let i = number_inj z (((A * shift c + number c) * W + Y) * shift c + number d) (((A * shift c + number d) * W + Y) * shift c + number c)
    (sym (ap (λ (m : ℕ). m % 97) p) ∙ e ∙ ap (λ (m : ℕ). m % 97) q) in
    weighed (number c) (number d) (W * shift c) k.small_c k.small_d (factor c y h) (plain A (shift c) W Y (number c) (number d) i)

-- a text by two neighbours
beside : (n : ℕ) (x z : List ℕ) (c d : ℕ)
    → number_after n (x ++ c ∷ d ∷ z) ≡ number_after ((number_after n x * shift c + number c) * shift d + number d) z
beside n x z c d = number_at n x c (d ∷ z) ∙ number_cons (number_after n x * shift c + number c) d z

pin : (u v : ℕ) → v % 97 ≡ (11 * u) % 97 → u < 10 → 10 ≤ v → v < 97 → v ≡ 11 * u
pin u v e h g l = go (ℕ_discrete u 9)
  where
    w : v % 97 ≡ v
    w = mod-eq_of_lt (omega arith)

    go : Dec (u ≡ 9) → v ≡ 11 * u
    go (yes p) = let z : v % 97 ≡ 2 = e ∙ rw p in omega (arith, w, z)
    go (no p) = sym w ∙ e ∙ mod-eq_of_lt (omega arith)

unseen : (A u v : ℕ) → ((A * 100 + v) * 10 + u) % 97 ≡ ((A * 10 + u) * 100 + v) % 97 → u < 10 → 10 ≤ v → v < 97 → v ≡ 11 * u
unseen A u v e h g l =
    let i : (9 * v) % 97 ≡ (9 * (11 * u)) % 97 =
    add_cancel 96 (A * 1000 + v + u) (9 * v) (9 * (11 * u)) (ap (λ (m : ℕ). m % 97) (omega arith) ∙ e ∙ ap (λ (m : ℕ). m % 97) (omega arith)) in
    let j : v % 97 ≡ (11 * u) % 97 = cancels 8 v (11 * u) (omega arith) i in
    pin u v j h g l

-- neighbours of two digits and of one, exchanged, leave the remainder exactly where the one number is eleven times the other
module _ (n : ℕ) (x z : List ℕ) (c d : ℕ) (hc : TwoDigits c) (hd : OneDigit d) where
  pub neighbours : number_after n (x ++ c ∷ d ∷ z) % 97 ≡ number_after n (x ++ d ∷ c ∷ z) % 97 → number c ≡ 11 * number d
  neighbours e =
      let i = number_inj z ((number_after n x * shift c + number c) * shift d + number d) ((number_after n x * shift d + number d) * shift c + number c)
      (sym (ap (λ (m : ℕ). m % 97) (beside n x z c d)) ∙ e ∙ ap (λ (m : ℕ). m % 97) (beside n x z d c)) in
      let j = rw (shift_two c hc.0, shift_one d hd) at i in
      unseen (number_after n x) (number d) (number c) j hd hc.0 hc.1

  pub neighbours_kept : number c ≡ 11 * number d → number_after n (x ++ c ∷ d ∷ z) % 97 ≡ number_after n (x ++ d ∷ c ∷ z) % 97
  neighbours_kept e =
      ap (λ (m : ℕ). m % 97) (beside n x z c d)
      ∙ ap (λ (m : ℕ). number_after m z % 97) (rw (shift_two c hc.0, shift_one d hd) (omega arith))
      ∙ sym (ap (λ (m : ℕ). m % 97) (beside n x z d c))
