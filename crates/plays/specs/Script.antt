-- A script of calls, records of 128 bytes: the call in a record, and what calls come to.
use Rattle.std.specs.Prelude.{ℕ, min, ◌+◌, ◌*◌, ◌/◌, ◌%◌, ◌≤◌, ◌<◌, ◌≡◌, cond, List, [], ◌∷◌, eqb, leb, get_or, length, take, drop, Result, Ok, Err}
use Rattle.std.specs.Borrow.{Bor}
use Rattle.std.specs.Simd.{first_chunks}
use Rattle.text.specs.Numbers.{u16_at, u32_at}
use Rattle.reasons.specs.Reasons.{Outcome, gives, refuses, demand}
use Rattle.journal.specs.declared.Released.{Released}
use Rattle.layout.specs.declared.Track.{Track}
use Rattle.layout.specs.declared.Track.TheVariants.{Two, One}
use Rattle.dates.specs.Dates.{date}
use Rattle.dates.specs.declared.Date.{Date}
use Rattle.payer.specs.Payer.{Terms, given}
use Rattle.history.specs.History.{Call, book, swipe, release, reads, aside, AnswerTo, Does, Done}
use Rattle.history.specs.History.{Effect, booked_one, released_to, nothing, effect_of, booked, takings, freed_count, freed_sum}
use Rattle.plays.specs.declared.Totals.{Totals}
use Rattle.plays.specs.declared.Unplayed.{Unplayed}
use Rattle.plays.specs.declared.Unplayed.TheVariants.{NotWhole, TooLong}

-- ---- the script

-- kind 0 (1 book, 2 release, 3 swipe of track 2, 4 of track 1), PAN length 1, label 2 to 3, amount 4 to 7, clock 8 to 11, serial 12 to 15 (of a swipe
-- the host's date: year 12 to 13, month 14, day 15), bit count 16 to 19; 20 to 127 the PAN, from the front, or the stream; what a kind has no use for
-- is ignored

abbrev pub kind_at : List ℕ → ℕ → ℕ
kind_at s at = get_or s at 0

abbrev pub label_at : List ℕ → ℕ → ℕ
label_at s at = u16_at s (at + 2)

abbrev pub amount_at : List ℕ → ℕ → ℕ
amount_at s at = u32_at s (at + 4)

abbrev pub clock_at : List ℕ → ℕ → ℕ
clock_at s at = u32_at s (at + 8)

abbrev pub serial_at : List ℕ → ℕ → ℕ
serial_at s at = u32_at s (at + 12)

abbrev pub date_at : List ℕ → ℕ → Date
date_at s at = date (u16_at s (at + 12)) (get_or s (at + 14) 0) (get_or s (at + 15) 0)

abbrev pub bits_at : List ℕ → ℕ → ℕ
bits_at s at = u32_at s (at + 16)

-- as long as byte 1 says, at most the 108 bytes that there is room for
abbrev pub pan_at : List ℕ → ℕ → List ℕ
pan_at s at = take (min (get_or s (at + 1) 0) 108) (drop (at + 20) s)

abbrev pub stream_at : List ℕ → ℕ → List ℕ
stream_at s at = take 108 (drop (at + 20) s)

-- the swipe in the record at `at`, of this track, on these terms, lent this scratch
abbrev pub swipe_at : Track → List ℕ → Terms → List ℕ → ℕ → Call
swipe_at k s terms scratch at = swipe (given k (stream_at s at) (bits_at s at) terms (date_at s at)) (amount_at s at) scratch

-- the call in the record at `at`; a record of another kind makes none
unfoldable pub call_at : List ℕ → Terms → List ℕ → ℕ → Call
call_at s terms scratch at =
    cond (eqb (kind_at s at) 1) (book (pan_at s at) (label_at s at) (amount_at s at))
    (cond (eqb (kind_at s at) 2) (release (serial_at s at))
    (cond (eqb (kind_at s at) 3) (swipe_at Two s terms scratch at)
    (cond (eqb (kind_at s at) 4) (swipe_at One s terms scratch at)
    aside)))

-- "a script too long for its sums is refused by a number of its own", 99; one that is no whole number of records with 6, before that
unfoldable pub script_rule : List ℕ → Outcome (Unit {0})
script_rule s =
    demand (eqb (length s % 128) 0) 6
    (demand (leb (length s / 128) 1048576) 99
    (gives tt))

-- a script cut into its records, or why it isn't
abbrev pub Cut : List ℕ → Result (Bor (List (List ℕ))) Unplayed → Type 0
Cut s (Ok r) = (script_rule s ≡ gives tt) × (r.now ≡ first_chunks 128 (length s / 128) s)
Cut s (Err NotWhole) = script_rule s ≡ refuses 6
Cut s (Err TooLong) = script_rule s ≡ refuses 99

-- ---- what calls come to

-- a booking, a swipe or a release that did nothing was refused
abbrev pub idle : Effect → ℕ
idle (booked_one p) = 0
idle (released_to s c y) = 0
idle nothing = 1

abbrev pub refused_in : Call → Effect → ℕ
refused_in (book pan label amount) e = idle e
refused_in (swipe card amount scratch) e = idle e
refused_in (release s) e = idle e
refused_in (reads q) e = 0
refused_in aside e = 0

abbrev pub skipped_in : Call → ℕ
skipped_in (book pan label amount) = 0
skipped_in (swipe card amount scratch) = 0
skipped_in (release s) = 0
skipped_in (reads q) = 0
skipped_in aside = 1

unfoldable pub refused_count : List Done → ℕ
refused_count [] = 0
refused_count (d ∷ ds) = refused_in d.call (effect_of d) + refused_count ds

unfoldable pub skipped_count : List Done → ℕ
skipped_count [] = 0
skipped_count (d ∷ ds) = skipped_in d.call + skipped_count ds

-- the totals of these calls
pub record TotalsOf (ds : List Done) (r : Totals) : Type 0 where
  pub booked_is : r.booked ≡ length (booked ds)
  pub takings_is : r.takings ≡ takings (booked ds)
  pub released_is : r.released ≡ freed_count ds
  pub remitted_is : r.remitted ≡ freed_sum ds
  pub refused_is : r.refused ≡ refused_count ds
  pub skipped_is : r.skipped ≡ skipped_count ds

-- ---- what the functions promise

-- the scratch after a call
abbrev pub scratch_left : (c : Call) → AnswerTo c → List ℕ → List ℕ
scratch_left (book pan label amount) r t = t
scratch_left (swipe card amount scratch) r t = r.scratch
scratch_left (release s) r t = t
scratch_left (reads q) r t = t
scratch_left aside r t = t

-- nothing was booked or released
abbrev pub Nothing : ℕ → ℕ → Totals → Type 0
Nothing refused skipped r = (r.booked ≡ 0) × (r.takings ≡ 0) × (r.released ≡ 0) × (r.remitted ≡ 0) × (r.refused ≡ refused) × (r.skipped ≡ skipped)

-- one payment of this amount was booked
abbrev pub Paid : ℕ → Totals → Type 0
Paid amount r = (r.booked ≡ 1) × (r.takings ≡ amount) × (r.released ≡ 0) × (r.remitted ≡ 0) × (r.refused ≡ 0) × (r.skipped ≡ 0)

-- so much was released
abbrev pub Freed : Released → Totals → Type 0
Freed y r = (r.booked ≡ 0) × (r.takings ≡ 0) × (r.released ≡ y.count) × (r.remitted ≡ y.sum) × (r.refused ≡ 0) × (r.skipped ≡ 0)

-- no number of r is larger than so many records can make it
abbrev pub Bounded : ℕ → Totals → Type 0
Bounded i r =
    (r.booked ≤ i) × (r.takings ≤ 4294967295 * i) × (r.released ≤ 2048 * i) × (r.remitted ≤ 8796093020160 * i) × (r.refused ≤ i) × (r.skipped ≤ i)

-- one call was made and came to r
pub record PlaysOne (c : Call) (clock : ℕ) (t j : List ℕ) (r : Totals) (u k : List ℕ) : Type 0 where
  pub answer : AnswerTo c
  pub does : Does j clock c answer k
  pub scratch : u ≡ scratch_left c answer t
  pub totals : TotalsOf (record { clock = clock; call = c; answer = answer; after = k } ∷ []) r
  pub small : Bounded 1 r

-- their sums are 64-bit numbers
abbrev pub Fits : Totals → Totals → Type 0
Fits t u =
    (t.booked + u.booked < 18446744073709551616) × (t.takings + u.takings < 18446744073709551616)
    × (t.released + u.released < 18446744073709551616) × (t.remitted + u.remitted < 18446744073709551616)
    × (t.refused + u.refused < 18446744073709551616) × (t.skipped + u.skipped < 18446744073709551616)

pub record Adds (t u r : Totals) : Type 0 where
  pub booked : r.booked ≡ t.booked + u.booked
  pub takings : r.takings ≡ t.takings + u.takings
  pub released : r.released ≡ t.released + u.released
  pub remitted : r.remitted ≡ t.remitted + u.remitted
  pub refused : r.refused ≡ t.refused + u.refused
  pub skipped : r.skipped ≡ t.skipped + u.skipped
