-- The start sentinel: what the functions find there is what the definition says.
use mathlib.Core.Path.{◌≡◌, refl, sym, ap, ◌∙◌}
use mathlib.Core.Bool.{Bool, true, false}
use mathlib.Core.List.{List, [], ◌∷◌}
use Prim.Native.Nat.{ℕ, suc, ◌+◌, ◌-◌, ◌≤◌, ◌<◌}
use native.Mathlib.Omega.{arith}
use native.Mathlib.Numerals.{add-one}
use native.Mathlib.Nat.{not-suc-le-zero, le_of_suc-le-suc, mod-eq_of_lt}
use lib.ListN.{length, get_or, take, drop, length-drop}
use lib.Seq.{drop-drop, drop-cons}
use Rattle.reasons.specs.Reasons.{refuses, demand}
use Rattle.stream.specs.Stream.{number, bits_of}
use Rattle.stream.specs.Bits.{all_bits}
use Rattle.stream.specs.declared.Stream.{Stream}
use Rattle.chars.specs.Reading.{begins, skip, body, read_one}
use Rattle.chars.specs.Shape.{letters_of, format_of}
use Rattle.chars.specs.declared.shape.Shape.{Shape}
use Rattle.stream.proofs.Streams.{length-stream}
use Rattle.stream.proofs.Numbers.{length-bits_of, number-bits_of}

begins_short : (p s : List Bool) → length s < length p → begins p s ≡ false
unfolding begins
begins_short [] s h = absurd (not-suc-le-zero h)
begins_short (a ∷ p) [] h = refl
begins_short (true ∷ p) (true ∷ s) h = begins_short p s (le_of_suc-le-suc h)
begins_short (true ∷ p) (false ∷ s) h = refl
begins_short (false ∷ p) (true ∷ s) h = refl
begins_short (false ∷ p) (false ∷ s) h = begins_short p s (le_of_suc-le-suc h)

begins_eq : (p s : List Bool) → length p ≤ length s → number (take (length p) s) ≡ number p → begins p s ≡ true
unfolding begins number
begins_eq [] s h e = refl
begins_eq (a ∷ p) [] h e = absurd (not-suc-le-zero h)
begins_eq (true ∷ p) (true ∷ s) h e = begins_eq p s (le_of_suc-le-suc h) (omega arith)
begins_eq (true ∷ p) (false ∷ s) h e = absurd {0} (omega arith)
begins_eq (false ∷ p) (true ∷ s) h e = absurd {0} (omega arith)
begins_eq (false ∷ p) (false ∷ s) h e = begins_eq p s (le_of_suc-le-suc h) (omega arith)

begins_ne : (p s : List Bool) → length p ≤ length s → (number (take (length p) s) ≡ number p → ⊥) → begins p s ≡ false
unfolding begins number
begins_ne [] s h e = absurd (e refl)
begins_ne (a ∷ p) [] h e = absurd (not-suc-le-zero h)
begins_ne (true ∷ p) (true ∷ s) h e = begins_ne p s (le_of_suc-le-suc h) (λ q. e (omega arith))
begins_ne (true ∷ p) (false ∷ s) h e = refl
begins_ne (false ∷ p) (true ∷ s) h e = refl
begins_ne (false ∷ p) (false ∷ s) h e = begins_ne p s (le_of_suc-le-suc h) (λ q. e (omega arith))

-- what is not skipped begins with a one
skip_true : (s : List Bool) (b : Bool) (t : List Bool) → skip s ≡ b ∷ t → b ≡ true
unfolding skip
skip_true [] b t e = cc
skip_true (false ∷ s) b t e = skip_true s b t e
skip_true (true ∷ s) b t e = cc

module _ (h : Shape) (s : Stream) (p : ℕ) (skipped : skip (all_bits s) ≡ drop p (all_bits s)) (at_most : p ≤ s.count) where
  left : (q : ℕ) → length (drop q (all_bits s)) ≡ s.count - q
  left q = rw (length-drop, length-stream)

  by_test : (b : Bool) → begins (true ∷ bits_of h.size h.start) (drop p (all_bits s)) ≡ b
      → demand b 8 (body (letters_of h.size h.last h.base) (h.limit - 1) h.first [] (drop (p + 1 + h.size) (all_bits s)))
      ≡ read_one (format_of h) (all_bits s)
  unfolding read_one
  by_test b e =
      let q : p + suc h.size ≡ p + 1 + h.size = omega arith in
      rw (skipped, e, h.first_is, drop-drop, q)

  pub start_cut : s.count - p ≤ h.size → refuses 8 ≡ read_one (format_of h) (all_bits s)
  start_cut k = by_test false (begins_short (true ∷ bits_of h.size h.start) (drop p (all_bits s)) (rw (left p, length-bits_of) (omega arith)))

  module _ (k : h.size < s.count - p) (x : ℕ) (e : x ≡ number (take h.size (drop (p + 1) (all_bits s)))) where
    one_first : drop p (all_bits s) ≡ true ∷ drop (p + 1) (all_bits s)
    one_first =
        let d : drop p (all_bits s) ≡ get_or (all_bits s) p false ∷ drop (p + 1) (all_bits s) =
        rw add-one (drop-cons (all_bits s) p false (rw length-stream (omega arith))) in
        let t : get_or (all_bits s) p false ≡ true = skip_true (all_bits s) _ _ (skipped ∙ d) in
        d ∙ ap (λ (b : Bool). b ∷ drop (p + 1) (all_bits s)) t

    rest : begins (true ∷ bits_of h.size h.start) (drop p (all_bits s)) ≡ begins (bits_of h.size h.start) (drop (p + 1) (all_bits s))
    unfolding begins
    rest = rw one_first

    start_is : number (bits_of h.size h.start) ≡ h.start
    start_is = number-bits_of h.size h.start ∙ mod-eq_of_lt h.start_fits

    long : length (bits_of h.size h.start) ≤ length (drop (p + 1) (all_bits s))
    long = rw (length-bits_of, left (p + 1)) (omega arith)

    after_first : number (take (length (bits_of h.size h.start)) (drop (p + 1) (all_bits s))) ≡ x
    after_first = rw length-bits_of (sym e)

    pub start_other : (x ≡ h.start → ⊥) → refuses 8 ≡ read_one (format_of h) (all_bits s)
    start_other o =
        by_test false (rest ∙ begins_ne (bits_of h.size h.start) (drop (p + 1) (all_bits s)) long
        (λ q. o (sym after_first ∙ q ∙ start_is)))

    pub start_found : x ≡ h.start
        → body (letters_of h.size h.last h.base) (h.limit - 1) h.first [] (drop (p + 1 + h.size) (all_bits s))
        ≡ read_one (format_of h) (all_bits s)
    start_found o =
        by_test true (rest ∙ begins_eq (bits_of h.size h.start) (drop (p + 1) (all_bits s)) long
        (after_first ∙ o ∙ sym (start_is)))
