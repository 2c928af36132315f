-- Numbers in decimal and bytes in hexadecimal, as words write them.
use Rattle.std.specs.Prelude.{ℕ, ◌+◌, ◌-◌, ◌*◌, ◌/◌, ◌%◌, Bool, cond, ◌&&◌, List, [], ◌∷◌, leb, ltb, eqb, length, Result, Ok, Err}
use Rattle.text.specs.Bytes.{within, every, all_digits}
use Rattle.text.specs.Numbers.{decimal, put}
use Rattle.reasons.specs.Reasons.{Outcome, gives, refuses, demand, after}
use Rattle.numerals.specs.declared.Unclear.{Unclear}
use Rattle.numerals.specs.declared.Unclear.TheVariants.{NotNumber, LargeNumber, NotBytes, ManyBytes}

-- why a word isn't understood, by numbers of this crate's own
abbrev pub why_number : Unclear → ℕ
why_number NotNumber = 1
why_number LargeNumber = 2
why_number NotBytes = 3
why_number ManyBytes = 4

-- what is understood of a word, in these terms
abbrev pub said_word : {A : Type 0} → Result A Unclear → Outcome A
said_word (Ok v) = gives v
said_word (Err why) = refuses (why_number why)

-- a number: one digit or more, and not above the most that its field holds
unfoldable pub number_rule : List ℕ → ℕ → Outcome ℕ
number_rule w most =
    demand (ltb 0 (length w) && all_digits w) 1
    (demand (leb (decimal w) most) 2
    (gives (decimal w)))

-- what a hexadecimal digit, capital or small, stands for; 16 for any other byte
unfoldable pub hex_value : ℕ → ℕ
hex_value b = cond (within 48 57 b) (b - 48) (cond (within 65 70 b) (b - 55) (cond (within 97 102 b) (b - 87) 16))

unfoldable pub is_hex : ℕ → Bool
is_hex b = ltb (hex_value b) 16

-- the bytes that pairs of hexadecimal digits write
unfoldable pub bytes_in : List ℕ → List ℕ
bytes_in [] = []
bytes_in (a ∷ []) = []
bytes_in (a ∷ b ∷ s) = (16 * hex_value a + hex_value b) ∷ bytes_in s

-- bytes: hexadecimal digits in pairs, and no more than there is room for; the answer is their count
unfoldable pub bytes_rule : List ℕ → ℕ → Outcome ℕ
bytes_rule w room =
    demand (eqb (length w % 2) 0 && every is_hex w) 3
    (demand (leb (length w / 2) room) 4
    (gives (length w / 2)))

-- the room afterwards: the bytes at its front, and where the word isn't understood all as it was
unfoldable pub bytes_room : List ℕ → List ℕ → List ℕ
bytes_room w out = after (bytes_rule w (length out)) out (λ n. put out 0 (bytes_in w))

-- the hexadecimal digit that stands for n below 16, and the text of bytes
unfoldable pub glyph : ℕ → ℕ
glyph n = cond (ltb n 10) (48 + n) (55 + n)

unfoldable pub hex_text : List ℕ → List ℕ
hex_text [] = []
hex_text (b ∷ s) = glyph (b / 16) ∷ glyph (b % 16) ∷ hex_text s
