-- Two characters at a look: what the table says of ten bits is what the next two characters are, and one look is two turns.
use mathlib.Core.Path.{◌≡◌, refl, sym, ap, ◌∙◌}
use mathlib.Core.Bool.{Bool, true, false, ◌&&◌, cond}
use mathlib.Core.List.{List}
use Prim.Native.Nat.{ℕ, ◌+◌, ◌-◌, ◌*◌, ◌/◌, ◌%◌, ◌≤◌, ◌<◌}
use native.Mathlib.Omega.{arith}
use lib.Bits.{bit_xor}
use lib.ListN.{length, take, drop, set, length-set, length-drop}
use lib.Seq.{take-take, take-add, drop-drop, drop_at, length-take-le}
use Rattle.reasons.specs.Reasons.{gives}
use Rattle.stream.specs.Stream.{number, odd_ones}
use Rattle.stream.proofs.Streams.{part}
use Rattle.stream.proofs.Numbers.{number-take, number-drop}
use Rattle.pairs.specs.Pairs.{pair_of, GoOn, with_two}
use Rattle.chars.specs.Reading.{Letters, next, body}
use Rattle.chars.proofs.Chars.{char_is}
use Rattle.chars.proofs.Bodies.{turn}

-- the table's number for the ten bits in front, where it isn't 256: both characters are there
module _ (l : List Bool) (long : 10 ≤ length l) (w : ℕ) (is : w ≡ number (take 10 l)) where
  first : number (take 5 l) ≡ w % 32
  first = ap number (sym (take-take 5 10 l (omega arith))) ∙ number-take 5 (take 10 l) ∙ ap (λ (n : ℕ). n % 32) (sym is)

  second : number (take 5 (drop 5 l)) ≡ w / 32
  second =
      let halves : drop 5 (take 10 l) ≡ take 5 (drop 5 l) =
      ap (drop 5) (take-add 5 5 l) ∙ drop_at (take 5 l) (take 5 (drop 5 l)) 5 (length-take-le 5 l (omega arith)) in
      ap number (sym halves) ∙ number-drop 5 (take 10 l) ∙ ap (λ (n : ℕ). n / 32) (sym is)

  both_there : (r : ℕ) → r ≡ pair_of w → r < 256 → (gives (r % 16) ≡ next 4 l) × (gives (r / 16) ≡ next 4 (drop 5 l))
  unfolding pair_of
  both_there r e h = by (odd_ones (w % 32)) (odd_ones (w / 32)) refl refl e
    where
      by : (t u : Bool) → odd_ones (w % 32) ≡ t → odd_ones (w / 32) ≡ u → r ≡ cond (t && u) (16 * (w / 32 % 16) + w % 16) 256
          → (gives (r % 16) ≡ next 4 l) × (gives (r / 16) ≡ next 4 (drop 5 l))
      by true true a b q =
          let x : r % 16 ≡ w % 32 % 16 = omega arith in
          let y : r / 16 ≡ w / 32 % 16 = omega arith in
          let d : 5 ≤ length (drop 5 l) = rw length-drop (omega arith) in
          (ap gives x ∙ char_is 4 l (w % 32) true (omega arith) first a, ap gives y ∙ char_is 4 (drop 5 l) (w / 32) true d second b)
      by true false a b q = absurd (omega arith)
      by false u a b q = absurd (omega arith)

-- one look is two turns: the bytes with two characters more
module _ (l : Letters) (s : List Bool) (p more len x r : ℕ) (out : List ℕ) (four : l.data_bits ≡ 4) (there : p + 10 ≤ length s)
    (room : len + 1 < more) (fits : more ≤ length out) (is : r ≡ pair_of (number (part s p 10))) (on : GoOn l.end_number r) where
  chars : (gives (r % 16) ≡ next 4 (drop p s)) × (gives (r / 16) ≡ next 4 (drop 5 (drop p s)))
  chars = both_there (drop p s) (rw length-drop (omega arith)) _ refl r is on.both

  char_in : (q i : ℕ) → q ≡ p + i → (n : ℕ) → gives n ≡ next 4 (drop i (drop p s))
      → gives n ≡ next l.data_bits (drop q s)
  char_in q i e n f = rw (four, e, ← drop-drop) f

  two_turns : body l (more - len) x (take len out) (drop p s)
      ≡ body l (more - (len + 2)) (bit_xor (bit_xor x (r % 16)) (r / 16)) (take (len + 2) (with_two out len l.base r)) (drop (p + 10) s)
  two_turns =
      let i : p + l.data_bits + 1 + l.data_bits + 1 ≡ p + 10 = omega arith in
      let j : len + 1 + 1 ≡ len + 2 = omega arith in
      turn l s p more len x (r % 16) out (omega arith) (char_in p 0 (omega arith) (r % 16) chars.0) (omega arith) on.one
      ∙ turn l s (p + l.data_bits + 1) more (len + 1) (bit_xor x (r % 16)) (r / 16) (set out len (l.base + r % 16)) (omega arith)
      (char_in (p + l.data_bits + 1) 5 (omega arith) (r / 16) chars.1) (rw length-set (omega arith)) on.other
      ∙ rw (i, j)

  -- and what is left behind them, in the bytes and the exclusive or that take_two leaves
  pub two_taken : (y : ℕ) (new : List ℕ) → y ≡ bit_xor (bit_xor x (r % 16)) (r / 16) → new ≡ with_two out len l.base r
      → body l (more - len) x (take len out) (drop p s) ≡ body l (more - (len + 2)) y (take (len + 2) new) (drop (p + 10) s)
  two_taken y new e w = two_turns ∙ rw (e, w)

pub length_two : (out : List ℕ) (len base r : ℕ) → length (with_two out len base r) ≡ length out
length_two out len base r = rw (length-set, length-set)
