-- Any two outcomes that a call's promise allows are equal.
use Prim.Native.Nat.{ℕ}
use mathlib.Core.Path.{◌≡◌, refl, sym, ap, ◌∙◌}
use mathlib.Core.List.{List, [], ◌∷◌}
use lib.ListN.{length, get_or}
use Rattle.std.specs.Prelude.{Result, Ok, Err}
use Rattle.reasons.specs.Reasons.{Outcome, refuses}
use Rattle.reasons.proofs.Laws.{gives_refuses, refused_number}
use Rattle.numerals.specs.Numbers.{why_number, number_rule, said_word, bytes_rule, bytes_room, hex_text}
use Rattle.numerals.specs.declared.Unclear.{Unclear}
use Rattle.numerals.specs.declared.Unclear.TheVariants.{NotNumber, LargeNumber, NotBytes, ManyBytes}

-- why a word isn't understood, by its number
why_of : ℕ → Unclear
why_of n = get_or (NotNumber ∷ NotNumber ∷ LargeNumber ∷ NotBytes ∷ ManyBytes ∷ []) n NotNumber

back : (u : Unclear) → why_of (why_number u) ≡ u
unfolding why_of
back NotNumber = refl
back LargeNumber = refl
back NotBytes = refl
back ManyBytes = refl

unclear_one : {A : Type 0} (a b : Unclear) → ◌≡◌ {A = Outcome A} (refuses (why_number a)) (refuses (why_number b)) → a ≡ b
unclear_one a b e = sym (back a) ∙ ap why_of (refused_number (why_number a) (why_number b) e) ∙ back b

word_told : {A : Type 0} (r q : Result A Unclear) → said_word r ≡ said_word q → r ≡ q
word_told (Ok x) (Ok y) e = let n : x ≡ y = cc in ap Ok n
word_told (Ok x) (Err b) e = gives_refuses x (why_number b) e
word_told (Err a) (Ok y) e = gives_refuses y (why_number a) (sym e)
word_told (Err a) (Err b) e = ap Err (unclear_one a b e)

pub number_in_one : (w : List ℕ) (most : ℕ) (r q : Result ℕ Unclear) → said_word r ≡ number_rule w most → said_word q ≡ number_rule w most → r ≡ q
number_in_one w most r q a b = word_told r q (a ∙ sym b)

pub bytes_in_one : (w out : List ℕ) (r q : Result ℕ Unclear) (k l : List ℕ) → (said_word r ≡ bytes_rule w (length out)) × (k ≡ bytes_room w out)
    → (said_word q ≡ bytes_rule w (length out)) × (l ≡ bytes_room w out) → (r ≡ q) × (k ≡ l)
bytes_in_one w out r q k l a b = (word_told r q (a.0 ∙ sym b.0), a.1 ∙ sym b.1)

pub hex_of_one : (b : ℕ) (x y : List ℕ) → x ≡ hex_text (b ∷ []) → y ≡ hex_text (b ∷ []) → x ≡ y
hex_of_one b x y f g = f ∙ sym g
