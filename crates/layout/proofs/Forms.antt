-- The PAN and one field, by the definitions and by the grammar.
use Prim.Native.Nat.{ℕ, zero, suc, suc-le-suc, ◌+◌, ◌<◌}
use mathlib.Core.Path.{◌≡◌, refl, sym, ap, ◌∙◌, subst}
use mathlib.Core.Bool.{Bool, true, false, cond}
use mathlib.Core.List.{List, [], ◌∷◌, ◌++◌}
use native.Mathlib.Omega.{arith}
use native.Mathlib.Numerals.{add-one}
use native.Mathlib.Nat.{add-zero, not-suc-le-zero}
use lib.Dec.{eqb}
use lib.ListN.{length, get_or, take, drop, take-append-drop, get_or-append}
use lib.Seq.{drop-cons, drop-drop, get_or-drop, take_at}
use borrow.Author.Tests.{eqb-true, eq-eqb, ne_eqb}
use Rattle.std.proofs.Common.{Option, None, Some}
use Rattle.std.specs.List.{prefix_len}
use Rattle.text.specs.Bytes.{is_digit, every, all_digits}
use Rattle.text.proofs.Tests.{both_true}
use Rattle.text.proofs.Every.{every_at, every_head}
use Rattle.text.proofs.Numbers.{digit_small}
use Rattle.reasons.specs.Reasons.{gives, demand}
use Rattle.reasons.proofs.Laws.{passed}
use Rattle.layout.specs.Layout.{mark, is_expiry, is_service, mark_at, field_rule, past}
use Rattle.layout.specs.Grammar.{written, Passes, placed, field_in}
use Rattle.layout.specs.declared.Track.{Track}
use Rattle.layout.specs.declared.Track.TheVariants.{Two, One}

-- a byte that is not 0 stands within the text
pub present_byte : (s : List ℕ) (i : ℕ) → 0 < get_or s i 0 → i < length s
present_byte [] i h = absurd (not-suc-le-zero h)
present_byte (x ∷ s) zero h = omega arith
present_byte (x ∷ s) (suc i) h = suc-le-suc (present_byte s i h)

-- what stands at the front of the rest of a text
pub front_byte : (s : List ℕ) (q : ℕ) (r : List ℕ) → drop q s ≡ r → get_or s q 0 ≡ get_or r 0 0
front_byte s q r e = sym (get_or-drop q s 0 0 ∙ ap (λ (m : ℕ). get_or s m 0) (add-zero q)) ∙ ap (λ (l : List ℕ). get_or l 0 0) e

-- ---- the PAN

module _ (f : ℕ → Bool) where
  -- bytes that pass a test and then one that doesn't: as many as a text starts with
  pub lead_is : (p : List ℕ) (b : ℕ) (y : List ℕ) → every f p ≡ true → f b ≡ false → prefix_len f (p ++ b ∷ y) ≡ length p
  lead_is [] b y d e = rw e
  lead_is (x ∷ p) b y d e = let t = every_head f x p d in rw t.0 (omega (arith, lead_is p b y t.1 e))

  lead_by : (b : ℕ) (s : List ℕ) (x : Bool) → f b ≡ x → every f (take (prefix_len f s) s) ≡ true → every f (take (prefix_len f (b ∷ s)) (b ∷ s)) ≡ true
  unfolding every
  lead_by b s true e h = let m : 1 + prefix_len f s ≡ suc (prefix_len f s) = omega arith in simp (e, m) h
  lead_by b s false e h = simp e

  pub lead_pass : (s : List ℕ) → every f (take (prefix_len f s) s) ≡ true
  unfolding every
  lead_pass [] = refl
  lead_pass (b ∷ s) = lead_by b s (f b) refl (lead_pass s)

-- ---- a field, the mark or a piece of n bytes that passes the test; what passes is n digits, and the mark is none

mark_over : (k : Track) → 57 < mark k
mark_over Two = omega arith
mark_over One = omega arith

pub record Digits (n : ℕ) (test : List ℕ → Bool) : Type 0 where
  pub some : 0 < n
  pub size : (t : List ℕ) → test t ≡ true → length t ≡ n
  pub digits : (t : List ℕ) → test t ≡ true → all_digits t ≡ true

pub expiry_is : Digits 4 is_expiry
unfolding is_expiry
expiry_is = record {
  some = omega arith;
  size = λ t e. eqb-true (length t) 4 (both_true (eqb (length t) 4) _ e).0;
  digits = λ t e. (both_true (all_digits t) _ (both_true (eqb (length t) 4) _ e).1).0;
}

pub service_is : Digits 3 is_service
unfolding is_service
service_is = record {
  some = omega arith;
  size = λ t e. eqb-true (length t) 3 (both_true (eqb (length t) 3) _ e).0;
  digits = λ t e. (both_true (eqb (length t) 3) _ e).1;
}

module _ (k : Track) (n : ℕ) (test : List ℕ → Bool) (ok : Digits n test) (s : List ℕ) (q : ℕ) where
  -- a written field is found
  pub field_found : (o : Option (List ℕ)) (y : List ℕ) → drop q s ≡ written k o ++ y → Passes test o → field_rule k test n s q ≡ gives (placed q o)
  unfolding field_rule
  field_found None y e h = rw (eq-eqb (get_or s q 0) (mark k) (front_byte s q (mark k ∷ y) e))
  field_found (Some t) y e h =
      let l : 0 < length t = omega (arith, ok.size t h, ok.some) in
      let d : is_digit (get_or t 0 0) ≡ true = every_at is_digit t 0 (ok.digits t h) l in
      let b : get_or s q 0 ≡ get_or t 0 0 = front_byte s q (t ++ y) e ∙ get_or-append t y 0 0 l in
      let w : take n (drop q s) ≡ t = ap (take n) e ∙ take_at t y n (ok.size t h) in
      rw (ne_eqb (get_or s q 0) (mark k) (λ z. omega (arith, mark_over k, digit_small (get_or t 0 0) d)), w, h)

  pub past_written : (o : Option (List ℕ)) → Passes test o → past n q (placed q o) ≡ q + length (written k o)
  past_written None h = refl
  past_written (Some t) h = ap (λ (m : ℕ). q + m) (sym (ok.size t h))

  -- and a found one is written
  pub record Written (f : Option ℕ) : Type 0 where
    pub text : drop q s ≡ written k (field_in n s f) ++ drop (past n q f) s
    pub right : Passes test (field_in n s f)
    pub place : placed q (field_in n s f) ≡ f

  pub field_written : (f : Option ℕ) → field_rule k test n s q ≡ gives f → Written f
  unfolding field_rule
  field_written f e = by (mark_at k s q) refl e
    where
      by : (b : Bool) → mark_at k s q ≡ b → cond b (gives None) (demand (test (take n (drop q s))) 6 (gives (Some q))) ≡ gives f → Written f
      by true h g =
          let z : None ≡ f = cc in
          let b : get_or s q 0 ≡ mark k = eqb-true (get_or s q 0) (mark k) h in
          subst Written z (record { text = rw (add-one, ← b) (drop-cons s q 0 (present_byte s q (omega (arith, mark_over k)))); right = tt; place = refl })
      by false h g =
          let p = passed (test (take n (drop q s))) 6 (gives (Some q)) f g in
          let y : gives (Some q) ≡ gives f = p.1 in
          let z : Some q ≡ f = cc in
          subst Written z (record { text = rw (← drop-drop) (sym (take-append-drop n (drop q s))); right = p.0; place = refl })
