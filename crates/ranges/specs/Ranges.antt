-- Range tables, and the look-up of a card number in them (document 01, 'Card numbers, masking and ranges').
use Rattle.std.specs.Prelude.{ℕ, zero, suc, ◌+◌, ◌-◌, ◌*◌, ◌/◌, ◌%◌, Bool, true, cond, ◌&&◌, Option, Some, None, List, leb, ltb, eqb, length, get_or, take}
use Rattle.std.specs.Borrow.{Bor}
use Rattle.text.specs.Bytes.{within, all_digits}
use Rattle.text.specs.Numbers.{u16_at, u32_at, decimal}
use Rattle.text.specs.Parts.{PartOf}
use Rattle.reasons.specs.Reasons.{Outcome, gives, refuses, demand, and_then}
use Rattle.pan.specs.Pan.{pan_length}
use Rattle.ranges.specs.declared.Place.{Place}
use Rattle.ranges.specs.declared.Place.TheVariants.{Site, Acquirer}

-- the table's byte length is a multiple of 16, and not over 65,536
unfoldable pub table_ok : List ℕ → Bool
table_ok t = eqb (length t % 16) 0 && leb (length t) 65536

-- of the record that begins at `at`: low at 0 to 3, high at 4 to 7, label at 8 to 9, shortest PAN at 10, longest at 11; 12 to 15 are ignored
abbrev pub low : List ℕ → ℕ → ℕ
low t at = u32_at t at

abbrev pub high : List ℕ → ℕ → ℕ
high t at = u32_at t (at + 4)

abbrev pub label : List ℕ → ℕ → ℕ
label t at = u16_at t (at + 8)

abbrev pub shortest : List ℕ → ℕ → ℕ
shortest t at = get_or t (at + 10) 0

abbrev pub longest : List ℕ → ℕ → ℕ
longest t at = get_or t (at + 11) 0

-- of a PAN: its first eight digits, as a number
abbrev pub prefix_of : List ℕ → ℕ
prefix_of pan = decimal (take 8 pan)

-- the record fits a PAN of n digits whose first eight are p: p lies from low to high and n from shortest to longest, ends included
unfoldable pub fits : List ℕ → ℕ → ℕ → ℕ → Bool
fits t at p n = within (low t at) (high t at) p && within (shortest t at) (longest t at) n

-- how wide a record is: "high less low", which is never below 0 where the record fits
abbrev pub width : List ℕ → ℕ → ℕ
width t at = high t at - low t at

-- a record is narrower than the best of those before it, or there is none
abbrev pub narrower : List ℕ → ℕ → Option ℕ → Bool
narrower t at None = true
narrower t at (Some best) = ltb (width t at) (width t best)

-- the best of the records up to the one at `at`, given the best of those before it: "of equals, the earlier"
abbrev pub better : List ℕ → ℕ → ℕ → ℕ → Option ℕ → Option ℕ
better t p n at best = cond (fits t at p n && narrower t at best) (Some at) best

-- of the first m records, where "the fitting record with the smallest high less low; of equals, the earlier" begins
unfoldable pub best_of : List ℕ → ℕ → ℕ → ℕ → Option ℕ
best_of t p n zero = None
best_of t p n (suc m) = better t p n (16 * m) (best_of t p n m)

-- the choice within one table (document 02, E4)
unfoldable pub choice : List ℕ → ℕ → ℕ → Option ℕ
choice t p n = best_of t p n (length t / 16)

-- the site's choice, else the acquirer's, else 15
abbrev pub site_first : Option ℕ → Option ℕ → Outcome Place
site_first (Some at) other = gives (Site at)
site_first None (Some at) = gives (Acquirer at)
site_first None None = refuses 15

-- where the record of a PAN stands, in tables that passed
unfoldable pub place_rule : List ℕ → List ℕ → List ℕ → Outcome Place
place_rule site acquirer pan = site_first (choice site (prefix_of pan) (length pan)) (choice acquirer (prefix_of pan) (length pan))

-- the look-up: 14 (site, then acquirer), 2, 3, 15
unfoldable pub range_rule : List ℕ → List ℕ → List ℕ → Outcome Place
range_rule site acquirer pan =
    demand (table_ok site) 14
    (demand (table_ok acquirer) 14
    (demand (pan_length (length pan)) 2
    (demand (all_digits pan) 3
    (place_rule site acquirer pan))))

-- the label of the record at a place
abbrev pub label_at : List ℕ → List ℕ → Place → ℕ
label_at site acquirer (Site at) = label site at
label_at site acquirer (Acquirer at) = label acquirer at

-- the label of a PAN's record, in tables that passed
unfoldable pub label_rule : List ℕ → List ℕ → List ℕ → Outcome ℕ
label_rule site acquirer pan = and_then (place_rule site acquirer pan) (λ w. gives (label_at site acquirer w))

-- r is the record's own 16 bytes, a part of the table that holds it; where the call refuses, the empty part at the start of the site's
pub data LooksUp (site acquirer : Bor (List ℕ)) : Outcome Place → Bor (List ℕ) → Type 0 where
  of_site : {at : ℕ} {r : Bor (List ℕ)} → PartOf site at 16 r → LooksUp site acquirer (gives (Site at)) r
  of_acquirer : {at : ℕ} {r : Bor (List ℕ)} → PartOf acquirer at 16 r → LooksUp site acquirer (gives (Acquirer at)) r
  nothing : {n : ℕ} {r : Bor (List ℕ)} → PartOf site 0 0 r → LooksUp site acquirer (refuses n) r
