-- The line in which the system tells of a process: `P (NAME) STATE ..`, its fields parted by one space.
use Rattle.std.specs.Prelude.{ℕ, Bool, cond, ◌||◌, List, [], ◌∷◌, eqb}
use Rattle.script.specs.Words.{word, same}

-- what follows the last `)` (41) of a text, `best` where it has none
unfoldable pub after_last : List ℕ → List ℕ → List ℕ
after_last [] best = best
after_last (b ∷ s) best = cond (eqb b 41) (after_last s s) (after_last s best)

-- what follows the name, which stands in parentheses and may hold some
abbrev pub after_name : List ℕ → List ℕ
after_name s = after_last s []

-- whether a process of this state has ended: `Z` (90) a zombie, `X` (88) dead
unfoldable pub ended : List ℕ → Bool
ended state = same state (90 ∷ []) || same state (88 ∷ [])

-- field 22, when the process started; empty where it has ended
-- (a space follows the name, so that the state, field 3, is word 1 of what follows, and field 22 word 20)
unfoldable pub start_time : List ℕ → List ℕ
start_time s = cond (ended (word 1 (after_name s))) [] (word 20 (after_name s))
