-- What tell and show answer, in the paper's order.
use Rattle.std.specs.Prelude.{ℕ, ◌+◌, ◌≡◌, Bool, ◌&&◌, List, length, Option, Result}
use Rattle.std.specs.Borrow.{Bor}
use Rattle.text.specs.Bytes.{within}
use Rattle.text.specs.Parts.{PartOf}
use Rattle.reasons.specs.Reasons.{Outcome, gives, refuses, demand, number_in, said}
use Rattle.reasons.specs.declared.Reason.{Reason}
use Rattle.slots.specs.Record.{is_held}
use Rattle.slots.specs.Journal.{slots_of, place, state_of}
use Rattle.slots.specs.Views.{formed, newest, Seen}
use Rattle.held.specs.Held.{low_of, held_list, sum_of, first_of}
use Rattle.held.specs.declared.Told.{Told}

-- ---- tell

unfoldable pub tell_rule : Option ℕ → List ℕ → Outcome Told
tell_rule m j =
    demand (formed m) 16
    (gives (record {
      count = length (held_list j (newest m));
      sum = sum_of (held_list j (newest m));
      oldest = first_of (held_list j (newest m));
      newest = newest m;
    }))

-- ---- show

-- serial s is held in a journal with newest serial b
unfoldable pub held_in : List ℕ → ℕ → ℕ → Bool
held_in j b s = within (low_of j b + 1) b s && is_held (state_of j (slots_of j) s)

-- where its record begins
unfoldable pub show_rule : Option ℕ → List ℕ → ℕ → Outcome ℕ
show_rule m j s =
    demand (formed m) 16
    (demand (held_in j (newest m) s) 20
    (gives (place (slots_of j) s)))

-- r is the record's own 32 bytes, a part of the journal, and where the call refuses the empty part at its start
pub data Shows (j : Bor (List ℕ)) : Outcome ℕ → Bor (List ℕ) → Type 0 where
  the_record : {at : ℕ} {r : Bor (List ℕ)} → PartOf j at 32 r → Shows j (gives at) r
  nothing : {n : ℕ} {r : Bor (List ℕ)} → PartOf j 0 0 r → Shows j (refuses n) r

-- ---- the promises: what a call allows, given a journal j, as answer r

abbrev pub TellsOf : List ℕ → Result Told Reason → Type 0
TellsOf j r = Seen j (λ m. said r ≡ tell_rule m j)

abbrev pub Finds : List ℕ → ℕ → Result ℕ Reason → Type 0
Finds j s r = Seen j (λ m. said r ≡ show_rule m j s)

abbrev pub ShowsOf : Bor (List ℕ) → ℕ → Bor (List ℕ) → Type 0
ShowsOf j s r = Seen j.now (λ m. Shows j (show_rule m j.now s) r)

abbrev pub NumberOfShow : List ℕ → ℕ → ℕ → Type 0
NumberOfShow j s x = Seen j (λ m. x ≡ number_in (show_rule m j s))
