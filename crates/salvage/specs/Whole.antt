-- Why a journal as a whole isn't well formed, slot by slot (house; beyond document 01). The newest serial is the one that most whole records agree
-- with, so that one bad serial that happens to belong in its slot doesn't make all others look wrong.
use Rattle.std.specs.Prelude.{ℕ, zero, suc, ◌+◌, ◌-◌, ◌%◌, ◌<◌, ◌≡◌, Bool, cond, ◌&&◌, ◌||◌, List, eqb, leb, ltb, length, get_or}
use Rattle.reasons.specs.Reasons.{Outcome, gives, demand, and_then}
use Rattle.slots.specs.Journal.{slots_of, sized}
use Rattle.remains.specs.Slot.{told_at, look_rule}
use Rattle.remains.specs.declared.Slot.{Slot}
use Rattle.remains.specs.declared.Slot.TheVariants.{Free, Held, Released, Damaged}
use Rattle.salvage.specs.declared.inner.Poll.{Poll}
use Rattle.salvage.specs.declared.Agreed.{Agreed}
use Rattle.salvage.specs.declared.Verdict.{Verdict}
use Rattle.salvage.specs.declared.Verdict.TheVariants as verdict

-- ---- serials

-- the serial of a whole record, and of one that is held; 0 for any other slot
abbrev pub serial_in : Slot → ℕ
serial_in Free = 0
serial_in (Held f) = f.serial
serial_in (Released f) = f.serial
serial_in (Damaged f t) = 0

abbrev pub held_in : Slot → ℕ
held_in Free = 0
held_in (Held f) = f.serial
held_in (Released f) = 0
held_in (Damaged f t) = 0

-- a journal of n slots whose newest serial is b keeps serial s
unfoldable pub agrees : ℕ → ℕ → ℕ → Bool
agrees n b s = ltb (b - n) s && leb s b

-- ---- the newest, `serial` being the serial in each of n slots, 0 for none

-- how many of the first m slots agree that it is b
unfoldable pub votes : (ℕ → ℕ) → ℕ → ℕ → ℕ → ℕ
votes serial n b zero = 0
votes serial n b (suc m) = votes serial n b m + cond (agrees n b (serial m)) 1 0

abbrev pub poll_of : (ℕ → ℕ) → ℕ → ℕ → Poll
poll_of serial n b = record { serial = b; votes = votes serial n b n }

-- the one of two serials that more slots agree with, of equals the higher
unfoldable pub preferred : Poll → Poll → Poll
preferred a c = cond (ltb a.votes c.votes || (eqb a.votes c.votes && ltb a.serial c.serial)) c a

-- the one of the first m slots that most slots agree with; serial 0 for none
unfoldable pub leader : (ℕ → ℕ) → ℕ → ℕ → Poll
leader serial n zero = poll_of serial n 0
leader serial n (suc m) = preferred (leader serial n m) (poll_of serial n (serial m))

-- a list has the serials of a journal's slots
abbrev pub Serials : List ℕ → List ℕ → Type 0
Serials j serials = (k : ℕ) → k < slots_of j → get_or serials k 0 ≡ serial_in (told_at j k)

abbrev pub newest_of : List ℕ → ℕ
newest_of j = (leader (λ (k : ℕ). serial_in (told_at j k)) (slots_of j) (slots_of j)).serial

-- ---- the oldest held record that agrees with the newest, b, `held` being the held serial in each slot

-- the lower of two serials; 0 is none
abbrev pub lower : ℕ → ℕ → ℕ
lower a c = cond (eqb c 0) a (cond (eqb a 0 || ltb c a) c a)

unfoldable pub lowest : (ℕ → ℕ) → ℕ → ℕ → ℕ → ℕ
lowest held n b zero = 0
lowest held n b (suc m) = lower (lowest held n b m) (cond (agrees n b (held m)) (held m) 0)

abbrev pub oldest_of : List ℕ → ℕ → ℕ
oldest_of j b = lowest (λ (k : ℕ). held_in (told_at j k)) (slots_of j) b (slots_of j)

-- the newest serial and the oldest held one; 16 for a length that is no journal's
unfoldable pub agree_rule : List ℕ → Outcome Agreed
agree_rule j = demand (sized (length j)) 16 (gives (record { newest = newest_of j; oldest = oldest_of j (newest_of j) }))

-- ---- one slot as a part of the whole

-- the serial that belongs in slot k of n where b is the newest: the one above b − n and up to b; 0 where none has come so far
unfoldable pub due : ℕ → ℕ → ℕ → ℕ
due n b k = cond (ltb k b) (b - (b - 1 - k) % n) 0

-- what is wrong with a slot in which serial d is due, 0 for none, h being the oldest held serial, 0 for none

abbrev pub free_verdict : ℕ → Verdict
free_verdict d = cond (eqb d 0) verdict.Fine (verdict.Missing d)

abbrev pub held_verdict : ℕ → ℕ → Verdict
held_verdict s d = cond (eqb s d) verdict.Fine (verdict.Disagrees s)

abbrev pub released_verdict : ℕ → ℕ → ℕ → Verdict
released_verdict s d h = cond (eqb s d) (cond (ltb 0 h && ltb h d) (verdict.Above d h) verdict.Fine) (verdict.Disagrees s)

abbrev pub verdict_of : Slot → ℕ → ℕ → Verdict
verdict_of Free d h = free_verdict d
verdict_of (Held f) d h = held_verdict f.serial d
verdict_of (Released f) d h = released_verdict f.serial d h
verdict_of (Damaged f t) d h = verdict.Damaged d

abbrev pub verdict_at : List ℕ → ℕ → ℕ → ℕ → Verdict
verdict_at j b h k = verdict_of (told_at j k) (due (slots_of j) b k) h

-- what is wrong with slot k where b is the newest serial and h the oldest held one; the refusals are those of a look at the slot
abbrev pub judge_rule : List ℕ → ℕ → ℕ → ℕ → Outcome Verdict
judge_rule j k b h = and_then (look_rule j k) (λ s. gives (verdict_of s (due (slots_of j) b k) h))
