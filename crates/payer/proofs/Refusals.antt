-- "then the reading's refusals, layout 6, Luhn 4, 15", 24 "just after 15", and 22 last: each is given exactly when its condition is the first to hold,
-- on either track.
use Prim.Native.Nat.{ℕ}
use mathlib.Core.Path.{◌≡◌, refl, ap, ◌∙◌}
use mathlib.Core.Bool.{not}
use mathlib.Core.Logic.{◌↔◌, ◌⊎◌}
use mathlib.Core.List.{List, []}
use Rattle.std.proofs.Common.{Option, None}
use Rattle.reasons.specs.Reasons.{gives, refuses, demand, and_then}
use Rattle.reasons.proofs.Laws.{First, Either, never, refuses_exactly, either_exactly, either_where, made_of}
use Rattle.luhn.specs.Luhn.{passes}
use Rattle.ranges.specs.Ranges.{place_rule, label_rule}
use Rattle.ranges.proofs.Laws.{NoRange, place_refuses}
use Rattle.hotlist.specs.Hotlist.{listed}
use Rattle.hotlist.proofs.Laws as hot
use Rattle.bits.specs.Reading.{Track as Read, read_rule}
use Rattle.layout.specs.Grammar.{field_in}
use Rattle.layout.specs.declared.Track.{Track}
use Rattle.dates.specs.Dates.{left_rule}
use Rattle.dates.specs.declared.Date.{Date}
use Rattle.dates.specs.Days.{Expired}
use Rattle.dates.proofs.Laws.{left_refuses}
use Rattle.payer.specs.declared.Spot.{Spot}
use Rattle.payer.specs.Payer.{format, division_rule, room, Terms, Given, payer_rule, part_of, chars_rule, card_rule}

module _ (t : Terms) (a : Date) (n : ℕ) where
  -- the label is refused where the place is: 15, where no record of either table fits
  label_refuses : (pan : List ℕ) → (label_rule t.site t.acquirer pan ≡ refuses n) ↔ ((n ≡ 15) × NoRange t.site t.acquirer pan)
  unfolding label_rule
  label_refuses pan =
      let m = made_of (place_rule t.site t.acquirer pan) _ n in
      let p = place_refuses t.site t.acquirer pan n in
      (λ e. p.0 (m.0 e), λ h. m.1 (p.1 h))

  -- what follows the label: 24 for an expired card, and 22 where a card that isn't is listed
  abbrev pub AfterLabel : List ℕ → Option (List ℕ) → Type 0
  AfterLabel pan x = ((n ≡ 24) × Expired a x) ⊎ ((d : Option ℕ) × (left_rule a x ≡ gives d) × First (not (listed t.hot t.digits pan)) 22 n ⊥)

  -- of a PAN and its expiry: "Luhn 4, 15", then those
  abbrev pub PanRefuses : List ℕ → Option (List ℕ) → Type 0
  PanRefuses pan x =
      First (passes pan) 4 n
      (((n ≡ 15) × NoRange t.site t.acquirer pan)
      ⊎ ((l : ℕ) × (label_rule t.site t.acquirer pan ≡ gives l) × AfterLabel pan x))

  pub payer_refuses : (pan : List ℕ) (x : Option (List ℕ)) → (payer_rule t a pan x ≡ refuses n) ↔ PanRefuses pan x
  unfolding payer_rule
  payer_refuses pan x =
      refuses_exactly _ 4 _ n
      (either_where (label_rule t.site t.acquirer pan) _ n (label_refuses pan)
      (λ l. either_where (left_rule a x) _ n (left_refuses a x n)
      (λ d. refuses_exactly _ 22 _ n (never _ n))))

  -- of the characters: "layout 6", then their PAN and expiry
  abbrev pub CharsRefuse : Track → List ℕ → Type 0
  CharsRefuse k chars = Either (division_rule k chars) n (λ (c : Spot). PanRefuses (part_of chars c.at c.digits) (field_in 4 chars c.expiry))

  pub chars_refuse : (k : Track) (chars : List ℕ) → (chars_rule k t a chars ≡ refuses n) ↔ CharsRefuse k chars
  unfolding chars_rule
  chars_refuse k chars = either_exactly (division_rule k chars) _ n (λ c. payer_refuses (part_of chars c.at c.digits) (field_in 4 chars c.expiry))

-- of the stripe: "the reading's refusals", then the characters
abbrev pub CardRefuses : Given → ℕ → Type 0
CardRefuses g n =
    Either (read_rule (format g.track) g.stream g.bits (room g.track)) n (λ (t : Read).
    CharsRefuse g.terms g.date n g.track t.chars)

pub card_refuses : (g : Given) (n : ℕ) → (card_rule g ≡ refuses n) ↔ CardRefuses g n
unfolding card_rule
card_refuses g n =
    either_exactly (read_rule (format g.track) g.stream g.bits (room g.track)) _ n
    (λ t. chars_refuse g.terms g.date n g.track t.chars)

-- "An empty list blocks nothing": with one a card pays as if there were none
pub empty_blocks_nothing : (t : Terms) (a : Date) (pan : List ℕ) (x : Option (List ℕ)) → t.hot ≡ []
    → payer_rule t a pan x
    ≡ demand (passes pan) 4
    (and_then (label_rule t.site t.acquirer pan) (λ l. and_then (left_rule a x) (λ d. gives (record { pan = pan; label = l; left = d }))))
unfolding payer_rule
empty_blocks_nothing t a pan x e = rw (ap (λ (s : List ℕ). listed s t.digits pan) e ∙ hot.empty_blocks_nothing t.digits pan)

-- "A card with no expiry isn't refused for it": on every date it pays as it would on any other, and "gets an answer of its own, no number"
pub no_expiry : (t : Terms) (a : Date) (pan : List ℕ) → payer_rule t a pan None
    ≡ demand (passes pan) 4
    (and_then (label_rule t.site t.acquirer pan)
    (λ l. demand (not (listed t.hot t.digits pan)) 22 (gives (record { pan = pan; label = l; left = None }))))
unfolding payer_rule
no_expiry t a pan = refl
