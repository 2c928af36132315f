-- The words of a line: parted by one space (byte 32).
use Rattle.std.specs.Prelude.{ℕ, zero, suc, ◌-◌, Bool, true, false, cond, ◌&&◌, ◌||◌, List, [], ◌∷◌, eqb, length, get_or}

abbrev pub is_space : ℕ → Bool
is_space b = eqb b 32

-- the line up to its first space
unfoldable pub first_word : List ℕ → List ℕ
first_word [] = []
first_word (b ∷ s) = cond (is_space b) [] (b ∷ first_word s)

-- the line after its first space
unfoldable pub after_word : List ℕ → List ℕ
after_word [] = []
after_word (b ∷ s) = cond (is_space b) s (after_word s)

-- the line after its first k spaces
unfoldable pub after_words : ℕ → List ℕ → List ℕ
after_words zero s = s
after_words (suc k) s = after_words k (after_word s)

-- word k of a line, the first being word 0: empty where there is none
abbrev pub word : ℕ → List ℕ → List ℕ
word k s = first_word (after_words k s)

-- how many words follow the first: one for each space
unfoldable pub spaces : List ℕ → ℕ
spaces [] = 0
spaces (b ∷ s) = cond (is_space b) (suc (spaces s)) (spaces s)

-- whether a word of the rest of a line is empty, `space` being whether a space, or the line's start, stands before the rest
unfoldable pub gap_after : Bool → List ℕ → Bool
gap_after space [] = space
gap_after space (b ∷ s) = (space && is_space b) || gap_after (is_space b) s

-- whether a word of a line is empty
abbrev pub gap : List ℕ → Bool
gap s = gap_after true s

-- the text that a word writes: `-` (45) alone stands for the empty one
unfoldable pub plain : List ℕ → List ℕ
plain [] = []
plain (b ∷ []) = cond (eqb b 45) [] (b ∷ [])
plain (a ∷ b ∷ s) = a ∷ b ∷ s

-- a byte that may stand at a line's end: a space, or the carriage return (13) of a line that ends in CR LF
abbrev pub is_blank : ℕ → Bool
is_blank b = is_space b || eqb b 13

-- a byte and what is left of the line after it: a blank before nothing is left out
unfoldable pub left_of : ℕ → List ℕ → List ℕ
left_of b [] = cond (is_blank b) [] (b ∷ [])
left_of b (c ∷ s) = b ∷ c ∷ s

-- a line without the blanks at its end
unfoldable pub trimmed : List ℕ → List ℕ
trimmed [] = []
trimmed (b ∷ s) = left_of b (trimmed s)

-- a tag is a word that ends in a colon (58)
abbrev pub is_tag : List ℕ → Bool
is_tag w = eqb (get_or w (length w - 1) 0) 58

-- a line without its tag, a first word that is one
unfoldable pub untagged : List ℕ → List ℕ
untagged s = cond (is_tag (first_word s)) (after_word s) s

-- a text without its spaces
unfoldable pub solid : List ℕ → List ℕ
solid [] = []
solid (b ∷ s) = cond (is_space b) (solid s) (b ∷ solid s)

-- whether two texts are the same
unfoldable pub same : List ℕ → List ℕ → Bool
same [] [] = true
same [] (b ∷ t) = false
same (a ∷ s) [] = false
same (a ∷ s) (b ∷ t) = eqb a b && same s t
