-- "Each is given exactly when its condition is the first to hold": the reading's 8 to 13, one way, in their order.
use Prim.Native.Nat.{ℕ, suc, ◌+◌, ◌-◌}
use mathlib.Core.Path.{◌≡◌, refl, sym, ap, ◌∙◌}
use mathlib.Core.Bool.{Bool, true, false, cond}
use mathlib.Core.Logic.{◌⊎◌, ◌↔◌, inl, inr, ⊎_elim}
use mathlib.Core.List.{List, [], ◌∷◌, ◌++◌}
use lib.Bits.{bit_xor}
use lib.Dec.{leb, eqb}
use lib.ListN.{length, take, drop}
use Rattle.reasons.specs.Reasons.{Outcome, refuses}
use Rattle.reasons.proofs.Laws.{First, Either, never, refuses_exactly, either_exactly, refused_number}
use Rattle.stream.specs.Stream.{number, odd}
use Rattle.chars.specs.Reading.{Letters, Format, next, all_zero, finish, body, skip, begins, read_one}

module _ (d : ℕ) (s : List Bool) (n : ℕ) where
  -- "fewer than five bits left is 9, even parity is 10"
  pub next_refuses : (next d s ≡ refuses n) ↔ First (leb (suc d) (length s)) 9 n (First (odd (take (suc d) s)) 10 n ⊥)
  unfolding next
  next_refuses = refuses_exactly _ 9 _ n (refuses_exactly _ 10 _ n (never _ n))

  -- "Then the LRC character: 9, 10, 12. All bits after it must be zero, else 13"
  pub finish_refuses : (x : ℕ) (out : List ℕ) → (finish d x out s ≡ refuses n)
      ↔ Either (next d s) n (λ c. First (eqb c x) 12 n (First (all_zero (drop (suc d) s)) 13 n ⊥))
  unfolding finish
  finish_refuses x out = either_exactly (next d s) _ n (λ c. refuses_exactly _ 12 _ n (refuses_exactly _ 13 _ n (never out n)))

-- what refuses where one of two is chosen
chosen : {A : Type 0} (t : Bool) (o q : Outcome A) (n : ℕ) → (cond t o q ≡ refuses n) ↔ (((t ≡ true) × (o ≡ refuses n)) ⊎ ((t ≡ false) × (q ≡ refuses n)))
chosen {A = A} t o q n = (by t, ⊎_elim (λ h. ap (λ (b : Bool). cond b o q) h.0 ∙ h.1) (λ h. ap (λ (b : Bool). cond b o q) h.0 ∙ h.1))
  where
    by : (b : Bool) → cond b o q ≡ refuses n → ((b ≡ true) × (o ≡ refuses n)) ⊎ ((b ≡ false) × (q ≡ refuses n))
    by true e = inl (refl, e)
    by false e = inr (refl, e)

module _ (l : Letters) (x : ℕ) (out : List ℕ) (s : List Bool) (n : ℕ) where
  -- "If the 39th character .. isn't the end sentinel, 11": where no more may come
  pub long_refuses : (body l 0 x out s ≡ refuses n) ↔ (n ≡ 11)
  unfolding body
  long_refuses = (λ e. sym (refused_number 11 n e), λ h. ap {B = Outcome (List ℕ)} refuses (sym h))

  -- "Then characters one by one .. Stop at the first end sentinel"
  pub body_refuses : (k : ℕ) → (body l (suc k) x out s ≡ refuses n) ↔ Either (next l.data_bits s) n (λ c.
      ((eqb c l.end_number ≡ true) × (finish l.data_bits (bit_xor x c) out (drop (suc l.data_bits) s) ≡ refuses n))
      ⊎ ((eqb c l.end_number ≡ false) × (body l k (bit_xor x c) (out ++ ((l.base + c) ∷ [])) (drop (suc l.data_bits) s) ≡ refuses n)))
  unfolding body
  body_refuses k = either_exactly (next l.data_bits s) _ n (λ c. chosen (eqb c l.end_number) _ _ n)

module _ (f : Format) (s : List Bool) (n : ℕ) where
  -- "The five bits from there must exist and be 11010, else 8"
  pub one_refuses : (read_one f s ≡ refuses n) ↔ First (begins f.start (skip s)) 8 n
      (body f.letters (f.limit - 1) (number (take f.letters.data_bits f.start)) [] (drop (suc f.letters.data_bits) (skip s)) ≡ refuses n)
  unfolding read_one
  one_refuses = refuses_exactly _ 8 _ n (λ e. e, λ e. e)
