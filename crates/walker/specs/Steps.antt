-- A walk by steps, for callers who hold no walker: each step is asked for by a serial.
use Rattle.std.specs.Prelude.{ℕ, zero, suc, max, ◌-◌, ◌≡◌, List, [], ◌∷◌, take, drop, Option}
use Rattle.reasons.specs.Reasons.{Outcome, gives, demand, and_then}
use Rattle.slots.specs.Journal.{slots_of, place}
use Rattle.slots.specs.Views.{formed, newest}
use Rattle.held.specs.Held.{low_of, held_after, first_of}
use Rattle.held.specs.Rules.{tell_rule}
use Rattle.walker.specs.Walk.{held_rule, next_of}

-- ---- steps that check the journal anew

-- the serial of the first held record above s in a journal with newest serial b, 0 for none
unfoldable pub first_above : List ℕ → ℕ → ℕ → ℕ
first_above j b s = first_of (held_after j (slots_of j) (max (low_of j b) s) (b - max (low_of j b) s))

-- where its record begins, 0 where the walk is done
abbrev pub walk_place : List ℕ → ℕ → ℕ
walk_place j zero = 0
walk_place j (suc s) = place (slots_of j) (suc s)

-- the first held record above s: its serial, and where it begins
unfoldable pub walk_rule : Option ℕ → List ℕ → ℕ → Outcome (ℕ × ℕ)
walk_rule m j s = demand (formed m) 16 (gives (first_above j (newest m) s, walk_place j (first_above j (newest m) s)))

-- ---- a start that checks the journal, and steps that don't

-- the oldest held serial, 0 for none
unfoldable pub start_rule : Option ℕ → List ℕ → Outcome ℕ
start_rule m j = and_then (tell_rule m j) (λ t. gives t.oldest)

-- the record of serial s, where it stands held in its slot: where it begins, and the serial after, 0 for done
unfoldable pub step_rule : List ℕ → ℕ → Outcome (ℕ × ℕ)
step_rule j s = and_then (held_rule j s) (λ at. gives (at, next_of j s))

-- ---- whole walks on a journal that stays; `Calls s y`: a step asked for by the serial s, and answered y

-- the records given from above the serial s on, until a step says done
pub data Above (j : List ℕ) (Calls : ℕ → ℕ × ℕ → Type 0) : ℕ → List (List ℕ) → Type 0 where
  above_done : {s : ℕ} → Calls s (0, 0) → Above j Calls s []
  above_next : {s t at : ℕ} {rs : List (List ℕ)} → (t ≡ 0 → ⊥) → Calls s (t, at) → Above j Calls t rs → Above j Calls s (take 32 (drop at j) ∷ rs)

-- the records given from the serial s on, until there is no serial to go on with
pub data Onward (j : List ℕ) (Calls : ℕ → ℕ × ℕ → Type 0) : ℕ → List (List ℕ) → Type 0 where
  onward_done : Onward j Calls 0 []
  onward_next : {s t at : ℕ} {rs : List (List ℕ)} → (s ≡ 0 → ⊥) → Calls s (at, t) → Onward j Calls t rs → Onward j Calls s (take 32 (drop at j) ∷ rs)
