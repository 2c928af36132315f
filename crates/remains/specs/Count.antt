-- What the slots of a journal come to, by what each of them says (house; beyond document 01).
use Rattle.std.specs.Prelude.{ℕ, zero, suc, ◌+◌, List, length}
use Rattle.reasons.specs.Reasons.{Outcome, gives, demand}
use Rattle.slots.specs.Journal.{slots_of, sized}
use Rattle.remains.specs.Slot.{told_at}
use Rattle.remains.specs.declared.Slot.{Slot}
use Rattle.remains.specs.declared.Slot.TheVariants.{Free, Held, Released, Damaged}
use Rattle.remains.specs.declared.Counts.{Counts}

abbrev pub counted : Counts → Slot → Counts
counted c Free = c
counted c (Held f) = record { held = c.held + 1; sum = c.sum + f.amount; released = c.released; damaged = c.damaged }
counted c (Released f) = record { held = c.held; sum = c.sum; released = c.released + 1; damaged = c.damaged }
counted c (Damaged f t) = record { held = c.held; sum = c.sum; released = c.released; damaged = c.damaged + 1 }

-- of the first m slots: how many are held, released and damaged, and the sum of the held amounts
unfoldable pub count_of : (ℕ → Slot) → ℕ → Counts
count_of slot zero = record { held = 0; sum = 0; released = 0; damaged = 0 }
count_of slot (suc m) = counted (count_of slot m) (slot m)

unfoldable pub count_rule : List ℕ → Outcome Counts
count_rule j = demand (sized (length j)) 16 (gives (count_of (told_at j) (slots_of j)))
