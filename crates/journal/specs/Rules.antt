-- What book and release answer and leave, in the paper's order.
use Rattle.std.specs.Prelude.{ℕ, zero, suc, ◌+◌, ◌-◌, ◌*◌, ◌≡◌, Bool, true, not, cond, ◌&&◌, List, [], ◌∷◌, length, set, eqb, Option, Result}
use Rattle.text.specs.Bytes.{within, all_digits}
use Rattle.text.specs.Numbers.{put}
use Rattle.reasons.specs.Reasons.{Outcome, gives, demand, after, said}
use Rattle.reasons.specs.declared.Reason.{Reason}
use Rattle.luhn.specs.Luhn.{passes}
use Rattle.pan.specs.Pan.{pan_length}
use Rattle.slots.specs.Record.{is_held, freed_state, state_at, record32}
use Rattle.slots.specs.Journal.{slots_of, place, state_of}
use Rattle.slots.specs.Views.{formed, newest, Seen}
use Rattle.slots.specs.Writes.{Write, record_writes}
use Rattle.held.specs.Held.{low_of, held_up_to, sum_of}
use Rattle.journal.specs.declared.Released.{Released}

-- ---- book

-- what a text says of itself as a card number
unfoldable pub pan_rule : List ℕ → Outcome (Unit {0})
pan_rule pan =
    demand (pan_length (length pan)) 2
    (demand (all_digits pan) 3
    (demand (passes pan) 4
    (gives tt)))

-- the first k slots are held
unfoldable pub held_slots : List ℕ → ℕ → Bool
held_slots j zero = true
held_slots j (suc k) = held_slots j k && is_held (state_at j (32 * k))

-- all slots are held
abbrev pub full : List ℕ → Bool
full j = held_slots j (slots_of j)

unfoldable pub book_rule : Option ℕ → List ℕ → List ℕ → ℕ → ℕ → Outcome ℕ
book_rule m j pan label amount =
    demand (formed m) 16
    (demand (pan_length (length pan)) 2
    (demand (all_digits pan) 3
    (demand (passes pan) 4
    (demand (not (eqb amount 0)) 17
    (demand (not (eqb (newest m) 4294967295)) 19
    (demand (not (full j)) 18
    (gives (newest m + 1))))))))

-- the serial's record is written whole into its slot, as held; no other byte changes
unfoldable pub book_bytes : Option ℕ → List ℕ → List ℕ → ℕ → ℕ → ℕ → List ℕ
book_bytes m j pan label amount clock =
    after (book_rule m j pan label amount) j (λ s. put j (place (slots_of j) s) (record32 s clock amount label pan))

-- its writes, in order
unfoldable pub book_writes : Option ℕ → List ℕ → List ℕ → ℕ → ℕ → ℕ → List Write
book_writes m j pan label amount clock =
    after (book_rule m j pan label amount) [] (λ s. record_writes (record32 s clock amount label pan) (place (slots_of j) s))

-- ---- release

unfoldable pub release_rule : Option ℕ → List ℕ → ℕ → Outcome Released
release_rule m j s =
    demand (formed m) 16
    (demand (within 1 (newest m) s) 20
    (gives (record { count = length (held_up_to j (newest m) s); sum = sum_of (held_up_to j (newest m) s) })))

-- the state byte of the record at `at` released, where it was held
unfoldable pub freed_at : List ℕ → ℕ → List ℕ
freed_at j at = cond (is_held (state_at j at)) (set j (at + 15) (freed_state (state_at j at))) j

-- the m serials after low released, where they were held
unfoldable pub freed_after : List ℕ → ℕ → ℕ → ℕ → List ℕ
freed_after j n low zero = j
freed_after j n low (suc m) = freed_after (freed_at j (place n (low + 1))) n (low + 1) m

unfoldable pub release_bytes : Option ℕ → List ℕ → ℕ → List ℕ
release_bytes m j s = after (release_rule m j s) j (λ _. freed_after j (slots_of j) (low_of j (newest m)) (s - low_of j (newest m)))

-- the writes of that, in order: one state byte for each held record of the m serials after low
unfoldable pub free_writes : List ℕ → ℕ → ℕ → ℕ → List Write
free_writes j n low zero = []
free_writes j n low (suc m) =
    cond (is_held (state_of j n (low + 1)))
    (record { place = place n (low + 1) + 15; byte = freed_state (state_of j n (low + 1)) } ∷ free_writes j n (low + 1) m)
    (free_writes j n (low + 1) m)

unfoldable pub release_writes : Option ℕ → List ℕ → ℕ → List Write
release_writes m j s = after (release_rule m j s) [] (λ _. free_writes j (slots_of j) (low_of j (newest m)) (s - low_of j (newest m)))

-- ---- the promises: what a call allows, given a journal j, as answer r and as bytes k at exit

abbrev pub Books : List ℕ → List ℕ → ℕ → ℕ → ℕ → Result ℕ Reason → List ℕ → Type 0
Books j pan label amount clock r k =
    Seen j (λ m. (said r ≡ book_rule m j pan label amount) × (k ≡ book_bytes m j pan label amount clock))

abbrev pub Releases : List ℕ → ℕ → Result Released Reason → List ℕ → Type 0
Releases j s r k = Seen j (λ m. (said r ≡ release_rule m j s) × (k ≡ release_bytes m j s))
