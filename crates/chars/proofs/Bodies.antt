-- The characters one by one: one turn of the loop, and its ends.
use mathlib.Core.Path.{◌≡◌, sym, ap, ◌∙◌}
use mathlib.Core.Bool.{Bool}
use mathlib.Core.List.{List, [], ◌∷◌, ◌++◌}
use Prim.Native.Nat.{ℕ, suc, ◌+◌, ◌-◌, ◌^◌, ◌≤◌, ◌<◌}
use native.Mathlib.Omega.{arith}
use native.Mathlib.Numerals.{add-one}
use native.Mathlib.Nat.{lt_of_lt_of_le}
use lib.ListN.{length, take, drop, set}
use lib.Seq.{take-suc-set, drop-drop}
use lib.Bits.{bit_xor}
use lib.Pow.{pow_mono}
use borrow.Author.Tests.{eq-eqb, ne_eqb}
use Rattle.reasons.specs.Reasons.{gives, refuses}
use Rattle.chars.specs.Reading.{Letters, next, finish, body}

module _ (l : Letters) (x : ℕ) (out : List ℕ) (m : ℕ) (p : List Bool) where
  pub body_none : m ≡ 0 → refuses 11 ≡ body l m x out p
  unfolding body
  body_none e = rw e

  module _ (some : 0 < m) where
    one_more : m ≡ suc (m - 1)
    one_more = omega arith

    pub body_refused : (n : ℕ) → refuses n ≡ next l.data_bits p → refuses n ≡ body l m x out p
    unfolding body
    body_refused n e = rw (one_more, ← e)

    module _ (n : ℕ) (e : gives n ≡ next l.data_bits p) where
      pub body_end : n ≡ l.end_number → finish l.data_bits (bit_xor x n) out (drop (suc l.data_bits) p) ≡ body l m x out p
      unfolding body
      body_end o = rw (one_more, ← e, eq-eqb n l.end_number o)

      pub body_more : (n ≡ l.end_number → ⊥)
          → body l m x out p ≡ body l (m - 1) (bit_xor x n) (out ++ ((l.base + n) ∷ [])) (drop (suc l.data_bits) p)
      unfolding body
      body_more o = ap (λ (k : ℕ). body l k x out p) one_more ∙ rw (← e, ne_eqb n l.end_number o)

module _ (l : Letters) (s : List Bool) (p more len x n : ℕ) (out : List ℕ) (h : len < more)
    (e : gives n ≡ next l.data_bits (drop p s)) where
  past : p + suc l.data_bits ≡ p + l.data_bits + 1
  past = omega arith

  -- the end sentinel, and the close behind it
  pub ends : n ≡ l.end_number
      → finish l.data_bits (bit_xor x n) (take len out) (drop (p + l.data_bits + 1) s)
      ≡ body l (more - len) x (take len out) (drop p s)
  ends o = sym (rw (drop-drop, past)) ∙ body_end l x (take len out) (more - len) (drop p s) (omega arith) n e o

  -- another character: the bytes with one more
  pub turn : len < length out → (n ≡ l.end_number → ⊥)
      → body l (more - len) x (take len out) (drop p s)
      ≡ body l (more - (len + 1)) (bit_xor x n) (take (len + 1) (set out len (l.base + n))) (drop (p + l.data_bits + 1) s)
  turn b o =
      let q : more - len - 1 ≡ more - (len + 1) = omega arith in
      body_more l x (take len out) (more - len) (drop p s) (omega arith) n e o
      ∙ rw (q, drop-drop, past, add-one len, take-suc-set out len (l.base + n) b)

-- a character's byte is one
pub byte_fits : (d n b : ℕ) → d ≤ 6 → b ≤ 128 → n < 2 ^ d → b + n < 256
byte_fits d n b h k l = let q : n < 64 = lt_of_lt_of_le l (pow_mono h) in omega arith
