-- Who pays: the card number that a stripe says, the label of its range, and the days that the card has left (document 01, 'The swipe'; requests E1,
-- for cards on track 1, E7, for expired ones, and E8, for blocked ones).
use Rattle.std.specs.Prelude.{ℕ, ◌+◌, ◌-◌, ◌≤◌, ◌≡◌, true, not, Option, Result, Ok, Err, List, length, take, drop}
use Rattle.text.specs.Bytes.{all_digits}
use Rattle.reasons.specs.Reasons.{Outcome, gives, refuses, demand, and_then, number_of}
use Rattle.reasons.specs.declared.Reason.{Reason}
use Rattle.luhn.specs.Luhn.{passes}
use Rattle.pan.specs.Pan.{pan_length}
use Rattle.ranges.specs.Ranges.{table_ok, label_rule}
use Rattle.hotlist.specs.Hotlist.{list_ok, listed}
use Rattle.chars.specs.Reading.{Format}
use Rattle.bits.specs.Reading.{read_rule}
use Rattle.bits.specs.declared.Read.{Read as Way}
use Rattle.bits.specs.declared.Read.TheVariants.{Forward, Reversed}
use Rattle.track1.specs.Track1.{track1}
use Rattle.track2.specs.Track2.{track2}
use Rattle.layout.specs.Layout.{is_expiry, layout_rule}
use Rattle.layout.specs.Grammar.{Passes, field_in}
use Rattle.layout.specs.declared.Track.{Track}
use Rattle.layout.specs.declared.Track.TheVariants.{Two, One}
use Rattle.layout1.specs.Layout1.{layout1_rule}
use Rattle.dates.specs.Dates.{left_rule}
use Rattle.dates.specs.declared.Date.{Date}
use Rattle.payer.specs.declared.Spot.{Spot}
use Rattle.payer.specs.declared.Paying.{Paying}
use Rattle.payer.specs.declared.Terms.{Terms as Lent}

-- ---- what differs between the tracks

-- how the bits are read
abbrev pub format : Track → Format
format Two = track2
format One = track1

-- how many characters were read, whichever way
abbrev pub count_of : Way → ℕ
count_of (Forward n) = n
count_of (Reversed n) = n

-- where PAN and expiry stand in the characters: the PAN's first digit and how many there are
abbrev pub spot : ℕ → ℕ → Option ℕ → Spot
spot a n e = record { at = a; digits = n; expiry = e }

-- the characters' division, "layout 6"
abbrev pub division_rule : Track → List ℕ → Outcome Spot
division_rule Two chars = and_then (layout_rule chars) (λ d. gives (spot 0 d.pan d.expiry))
division_rule One chars = and_then (layout1_rule chars) (λ d. gives (spot 1 d.pan d.expiry))

-- ---- what is the same

-- "scratch under 37 (1)", "with 76 bytes of scratch": as much as the reading asks of its output
abbrev pub room : Track → ℕ
room k = (format k).limit - 2

-- on what terms a card pays: both tables, and the hot list beside its PAN length
pub record Terms : Type 0 where
  pub site : List ℕ
  pub acquirer : List ℕ
  pub hot : List ℕ
  pub digits : ℕ

abbrev pub terms : List ℕ → List ℕ → List ℕ → ℕ → Terms
terms i a h n = record { site = i; acquirer = a; hot = h; digits = n }

-- those that a call is lent
abbrev pub terms_of : Lent → Terms
terms_of t = terms t.site.now t.acquirer.now t.hot.now t.digits

-- what the box's tests have shown of the terms before a card is read
pub record Sound (t : Terms) : Type 0 where
  pub site_right : table_ok t.site ≡ true
  pub acquirer_right : table_ok t.acquirer ≡ true
  pub hot_right : list_ok t.hot t.digits ≡ true

-- what a card is told from: the track, the stream and its bit count, the terms, and the host's date
pub record Given : Type 0 where
  pub track : Track
  pub stream : List ℕ
  pub bits : ℕ
  pub terms : Terms
  pub date : Date

abbrev pub given : Track → List ℕ → ℕ → Terms → Date → Given
given k s n t a = record { track = k; stream = s; bits = n; terms = t; date = a }

-- what a swipe makes of it: the PAN, the label of its range, and the days that the card has left on that date, or that it has no expiry
pub record Payer : Type 0 where
  pub pan : List ℕ
  pub label : ℕ
  pub left : Option ℕ

-- of a PAN and its expiry: "Luhn 4, 15", 24 "just after 15", and 22, "the last check before booking"
unfoldable pub payer_rule : Terms → Date → List ℕ → Option (List ℕ) → Outcome Payer
payer_rule t a pan expiry =
    demand (passes pan) 4
    (and_then (label_rule t.site t.acquirer pan)
    (λ l. and_then (left_rule a expiry)
    (λ d. demand (not (listed t.hot t.digits pan)) 22
    (gives (record { pan = pan; label = l; left = d })))))

-- the n characters from a place on
abbrev pub part_of : List ℕ → ℕ → ℕ → List ℕ
part_of chars a n = take n (drop a chars)

-- of the characters between the sentinels: "layout 6", then their PAN and expiry
unfoldable pub chars_rule : Track → Terms → Date → List ℕ → Outcome Payer
chars_rule k t a chars = and_then (division_rule k chars) (λ c. payer_rule t a (part_of chars c.at c.digits) (field_in 4 chars c.expiry))

-- of the stripe: "the reading's refusals", with an output that is long enough, then the characters
unfoldable pub card_rule : Given → Outcome Payer
card_rule g =
    and_then (read_rule (format g.track) g.stream g.bits (room g.track))
    (λ t. chars_rule g.track g.terms g.date t.chars)

-- ---- what the answers say in the paper's terms

-- a card's PAN stands in the characters s
abbrev pub said_card : Result Paying Reason → List ℕ → Outcome Payer
said_card (Ok c) s = gives (record { pan = part_of s c.at c.digits; label = c.label; left = c.left })
said_card (Err r) s = refuses (number_of r)

abbrev pub pan_end : Result Paying Reason → ℕ
pan_end (Ok c) = c.at + c.digits
pan_end (Err r) = 0

-- a PAN stands in the characters at its place, 13 to 19 digits; and an expiry, if there is one, at its own
pub record Divided (chars : List ℕ) (c : Spot) : Type 0 where
  pub fits : c.at + c.digits ≤ length chars
  pub count : pan_length (length (part_of chars c.at c.digits)) ≡ true
  pub digits : all_digits (part_of chars c.at c.digits) ≡ true
  pub expiry_right : Passes is_expiry (field_in 4 chars c.expiry)
