-- The laws of masking.
use Prim.Native.Nat.{ℕ, ◌-◌}
use mathlib.Core.Path.{◌≡◌, sym, ap, ◌∙◌}
use mathlib.Core.Bool.{true}
use mathlib.Core.List.{List, ◌++◌}
use lib.ListN.{length, take, drop}
use Rattle.std.specs.Prelude.{Result}
use lib.Seq.{take_at, drop_at}
use Rattle.reasons.specs.declared.Reason.{Reason}
use Rattle.reasons.proofs.Laws.{said_one}
use Rattle.pan.specs.Pan.{pan_length, front_shown, back_shown, front, back, shown, stars, masked, Masks}
use Rattle.pan.proofs.Masked.{front_length, head_length}

-- any two outcomes that masking allows are equal
pub mask_one : (pan out : List ℕ) (r q : Result (Unit {0}) Reason) (k l : List ℕ) → Masks pan out r k → Masks pan out q l → (r ≡ q) × (k ≡ l)
mask_one pan out r q k l f g = (said_one r q (f.0 ∙ sym g.0), f.1 ∙ sym g.1)

-- texts that are equal as a whole, and whose fronts are equally long, are equal front and back
split_same : (p q s t : List ℕ) (n : ℕ) → length p ≡ n → length q ≡ n → p ++ s ≡ q ++ t → (p ≡ q) × (s ≡ t)
split_same p q s t n lp lq e =
    (sym (take_at p s n lp) ∙ ap (take n) e ∙ take_at q t n lq, sym (drop_at p s n lp) ∙ ap (drop n) e ∙ drop_at q t n lq)

module _ (a b : List ℕ) (ha : pan_length (length a) ≡ true) (e : length a ≡ length b) where
  other : pan_length (length b) ≡ true
  other = rw e at ha

  -- "Two PANs of one length with equal first six and last four give equal masked text,
  pub equal_shown : shown a ≡ shown b → masked a ≡ masked b
  unfolding masked
  equal_shown s =
      let p = split_same (front a) (front b) (back a) (back b) (front_shown (length b)) (front_length a ha ∙ ap front_shown e) (front_length b other) s in
      cc (p.0, p.1, e)

  -- and two that differ in these don't."
  pub equal_masked : masked a ≡ masked b → shown a ≡ shown b
  unfolding masked
  equal_masked m =
      let n = length b - back_shown (length b) in
      let p = split_same (front a ++ stars (length a)) (front b ++ stars (length b)) (back a) (back b) n (head_length a ha ∙ ap (λ (k : ℕ). k - back_shown k) e) (head_length b other) m in
      let q = split_same (front a) (front b) (stars (length a)) (stars (length b)) (front_shown (length b)) (front_length a ha ∙ ap front_shown e) (front_length b other) p.0 in
      cc (p.1, q.0)
