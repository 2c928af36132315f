-- What a walker gives: the record of its serial, the serial after, and the whole walk.
use Rattle.std.specs.Prelude.{ℕ, zero, suc, ◌+◌, ◌-◌, ◌≡◌, Bool, not, cond, ◌&&◌, List, [], ◌∷◌, ◌++◌, eqb}
use Rattle.text.specs.Bytes.{within}
use Rattle.reasons.specs.Reasons.{Outcome, gives, demand, after, number_in}
use Rattle.slots.specs.Record.{is_held, serial_at}
use Rattle.slots.specs.Journal.{slots_of, place, state_of}
use Rattle.slots.specs.Views.{Seen}
use Rattle.held.specs.Held.{record_at}
use Rattle.held.specs.Rules.{tell_rule}
use Rattle.walker.specs.declared.Walker.{Walker}

-- the record of serial s stands held in its slot; any journal and any serial may be asked for, also by a walker put together by hand
unfoldable pub held_here : List ℕ → ℕ → Bool
held_here j s =
    within 1 2048 (slots_of j)
    && (not (eqb s 0)
    && (eqb (serial_at j (place (slots_of j) s)) s
    && is_held (state_of j (slots_of j) s)))

-- where it begins
unfoldable pub held_rule : List ℕ → ℕ → Outcome ℕ
held_rule j s = demand (held_here j s) 20 (gives (place (slots_of j) s))

-- the serial after s where its record is held, and else 0, for done; the last serial has none after it, and done stays done
unfoldable pub next_of : List ℕ → ℕ → ℕ
next_of j s = cond (within 1 4294967294 s && held_here j (s + 1)) (s + 1) 0

-- "It starts with 16 or at the oldest held": the serial, 0 for none, and the companion's number
abbrev pub StartsAt : List ℕ → ℕ → Type 0
StartsAt j s = Seen j (λ m. s ≡ after (tell_rule m j) 0 (λ t. t.oldest))

abbrev pub StartNumber : List ℕ → ℕ → Type 0
StartNumber j x = Seen j (λ m. x ≡ number_in (tell_rule m j))

-- what a walker at serial s gives at one step
unfoldable pub given : List ℕ → ℕ → List (List ℕ)
given j s = cond (held_here j s) (record_at j (slots_of j) s ∷ []) []

-- what a walker at serial s gives until it is done, in at most so many steps
unfoldable pub walk : List ℕ → ℕ → ℕ → List (List ℕ)
walk j s zero = []
walk j s (suc steps) = cond (eqb s 0) [] (given j s ++ walk j (next_of j s) steps)

-- the records from serial s on, each after the one before, until there is none, in at most so many steps
unfoldable pub on_from : List ℕ → ℕ → ℕ → List (List ℕ)
on_from j s zero = []
on_from j s (suc steps) = cond (held_here j s) (record_at j (slots_of j) s ∷ on_from j (next_of j s) steps) []

-- what is to come from a walker: serials rise, so that it is done after so many steps
abbrev pub to_come : Walker → List (List ℕ)
to_come w = on_from w.journal.now w.next (4294967296 - w.next)
