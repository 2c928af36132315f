-- One character of a stream, and the close behind the end sentinel: what the functions find is what the definitions say.
use mathlib.Core.Path.{◌≡◌, refl, sym, ap, ap₂, ◌∙◌, subst}
use mathlib.Core.Bool.{Bool, true}
use mathlib.Core.List.{List, [], ◌∷◌}
use Prim.Native.Nat.{ℕ, suc, ◌+◌, ◌-◌, ◌*◌, ◌%◌, ◌^◌, ◌≤◌, ◌<◌}
use native.Mathlib.Omega.{arith}
use native.Mathlib.Nat.{lt_of_lt_of_le}
use native.Mathlib.Numerals.{add-one}
use lib.Pow.{pow_mono}
use lib.ListN.{length, take, drop, length-drop, length-take}
use lib.Seq.{take-take}
use lib.Dec.{leb, eqb}
use lib.Count
use lib.Count.{ones_step}
use borrow.Author.Tests.{lt-leb, le-leb, leb-true, ne_eqb, eq-eqb}
use Rattle.reasons.specs.Reasons.{gives, refuses, demand}
use Rattle.reasons.proofs.Laws.{passed}
use Rattle.stream.specs.Stream.{bit_n, number, ones, odd, odd_ones}
use Rattle.stream.specs.Bits.{all_bits}
use Rattle.stream.specs.declared.Stream.{Stream}
use Rattle.chars.specs.Reading.{next, all_zero, finish}
use Rattle.stream.proofs.Streams.{part, length-stream}
use Rattle.stream.proofs.Numbers.{lowest, above, number_lt, number-take}

-- ones of a number are the ones of its bits
ones-number : (l : List Bool) → Count.ones (number l) ≡ ones l
unfolding number ones Count.ones
ones-number [] = refl
ones-number (b ∷ l) =
    ones_step (bit_n b + 2 * number l) ∙ ap₂ (λ (x y : ℕ). x + Count.ones y) (lowest b l) (above b l)
    ∙ ap (λ (x : ℕ). bit_n b + x) (ones-number l)

-- the character in front, w being the number of all its bits
pub char_is : (d : ℕ) (l : List Bool) (w : ℕ) (t : Bool) → suc d ≤ length l → number (take (suc d) l) ≡ w → odd_ones w ≡ t
    → demand t 10 (gives (w % 2 ^ d)) ≡ next d l
unfolding next
char_is d l w t h e o =
    let p : odd (take (suc d) l) ≡ t = ap (λ (m : ℕ). eqb (m % 2) 1) (sym (ones-number (take (suc d) l)) ∙ ap Count.ones e) ∙ o in
    let n : number (take d l) ≡ w % 2 ^ d =
    ap number (sym (take-take d (suc d) l (omega arith))) ∙ number-take d (take (suc d) l) ∙ ap (λ (m : ℕ). m % 2 ^ d) e in
    rw (le-leb (suc d) (length l) h, p, n)

module _ (s : Stream) (p d : ℕ) (at_most : p ≤ s.count) where
  left : length (drop p (all_bits s)) ≡ s.count - p
  left = rw (length-drop, length-stream)

  pub next_cut : s.count - p ≤ d → refuses 9 ≡ next d (drop p (all_bits s))
  unfolding next
  next_cut h = rw (lt-leb (suc d) (length (drop p (all_bits s))) (rw left (omega arith)))

  pub next_is : d < s.count - p → (w : ℕ) (t : Bool) → w ≡ number (part (all_bits s) p (d + 1)) → odd_ones w ≡ t
      → demand t 10 (gives (w % 2 ^ d)) ≡ next d (drop p (all_bits s))
  next_is h w t e o = char_is d (drop p (all_bits s)) w t (rw left h) (sym (rw add-one at e)) o

-- a character that is there has all its bits, an odd count of ones among them, and a small number
module _ (d : ℕ) (s : List Bool) (n : ℕ) (found : next d s ≡ gives n) where
  tests : (leb (suc d) (length s) ≡ true) × (demand (odd (take (suc d) s)) 10 (gives (number (take d s))) ≡ gives n)
  unfolding next
  tests = passed (leb (suc d) (length s)) 9 _ n found

  pub char_long : suc d ≤ length s
  char_long = leb-true _ _ tests.0

  pub char_odd : odd (take (suc d) s) ≡ true
  char_odd = (passed (odd (take (suc d) s)) 10 _ n tests.1).0

  pub char_number : number (take d s) ≡ n
  char_number = let e : gives (number (take d s)) ≡ gives n = (passed (odd (take (suc d) s)) 10 _ n tests.1).1 in cc

  pub char_lt : n < 2 ^ d
  char_lt =
      let q : length (take d s) ≤ d = rw length-take (omega arith) in
      lt_of_lt_of_le (subst (λ (m : ℕ). m < 2 ^ length (take d s)) char_number (number_lt (take d s))) (pow_mono q)

-- so that its bits end within the stream
pub char_fits : (s : Stream) (p d n : ℕ) → p ≤ s.count → next d (drop p (all_bits s)) ≡ gives n → p + d + 1 ≤ s.count
char_fits s p d n h e =
    let q : suc d ≤ length (drop p (all_bits s)) = char_long d (drop p (all_bits s)) n e in
    omega (arith, rw (length-drop, length-stream) at q)

-- the close: its outcome, by what stands behind the end sentinel
module _ (d x : ℕ) (out : List ℕ) (s : List Bool) where
  pub close_refused : (n : ℕ) → refuses n ≡ next d s → refuses n ≡ finish d x out s
  unfolding finish
  close_refused n e = rw (← e)

  module _ (n : ℕ) (e : gives n ≡ next d s) where
    pub close_wrong : (n ≡ x → ⊥) → refuses 12 ≡ finish d x out s
    unfolding finish
    close_wrong h = rw (← e, ne_eqb n x h)

    pub close_right : (t : Bool) → n ≡ x → all_zero (drop (suc d) s) ≡ t → demand t 13 (gives out) ≡ finish d x out s
    unfolding finish
    close_right t h z = rw (← e, eq-eqb n x h, z)
