-- Any two outcomes that a call's promise allows are equal. Of a part that is a piece of a line the promise says the bytes; where it lies nobody asks.
use Prim.Native.Nat.{ℕ}
use mathlib.Core.Path.{◌≡◌, sym, ◌∙◌}
use mathlib.Core.Bool.{Bool}
use mathlib.Core.List.{List}
use lib.ListN.{drop}
use denote.Ref.{Bor}
use Rattle.script.specs.Words.{first_word, after_words, word, spaces, gap, plain, same}

module _ (s r q : Bor (List ℕ)) where
  pub from_word_one : (k : ℕ) → r.now ≡ after_words k s.now → q.now ≡ after_words k s.now → r.now ≡ q.now
  from_word_one k a b = a ∙ sym b

  pub word_at_one : (i : ℕ) → r.now ≡ first_word (drop i s.now) → q.now ≡ first_word (drop i s.now) → r.now ≡ q.now
  word_at_one i a b = a ∙ sym b

  pub word_one : (k : ℕ) → r.now ≡ word k s.now → q.now ≡ word k s.now → r.now ≡ q.now
  word_one k a b = a ∙ sym b

  pub text_of_one : r.now ≡ plain s.now → q.now ≡ plain s.now → r.now ≡ q.now
  text_of_one a b = a ∙ sym b

pub operands_one : (s : List ℕ) (x y : ℕ) → x ≡ spaces s → y ≡ spaces s → x ≡ y
operands_one s x y a b = a ∙ sym b

pub has_gap_one : (s : List ℕ) (x y : Bool) → x ≡ gap s → y ≡ gap s → x ≡ y
has_gap_one s x y a b = a ∙ sym b

pub is_same_one : (s t : List ℕ) (x y : Bool) → x ≡ same s t → y ≡ same s t → x ≡ y
is_same_one s t x y a b = a ∙ sym b
