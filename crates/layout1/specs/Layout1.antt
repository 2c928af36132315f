-- The characters between track 1's sentinels (request E1; ISO/IEC 7813), divided.
use Rattle.std.specs.Prelude.{ℕ, ◌+◌, ◌-◌, List, ◌&&◌, get_or, drop, eqb}
use Rattle.std.specs.List.{prefix_len}
use Rattle.text.specs.Bytes.{within}
use Rattle.reasons.specs.Reasons.{Outcome, gives, demand, and_then}
use Rattle.pan.specs.Pan.{pan_length}
use Rattle.layout.specs.Layout.{is_named, lead, mark_at, expiry_rule, Cut, field_cut, cut_of}
use Rattle.layout.specs.declared.Fields.{Fields as Behind}
use Rattle.layout.specs.declared.Track.TheVariants.{One}
use Rattle.layout1.specs.declared.Fields.{Fields}

-- how long the name is that stands behind a PAN of p digits and `^`
abbrev pub name_length : List ℕ → ℕ → ℕ
name_length s p = prefix_len is_named (drop (p + 2) s)

-- the fields behind a name of n characters, told with it
abbrev pub with_name : ℕ → Outcome Behind → Outcome Fields
with_name n o = and_then o (λ d. gives (record { pan = d.pan; name = n; expiry = d.expiry; service = d.service; rest = d.rest }))

-- "expiry of four digits or `^`, service code of three digits or `^`, discretionary data (perhaps none)", behind the name and its `^`
unfoldable pub fields_rule : List ℕ → ℕ → ℕ → Outcome Fields
fields_rule s p n = with_name n (expiry_rule One s p (p + n + 3))

-- "name of 2 to 26 characters, `^`"
unfoldable pub name_rule : List ℕ → ℕ → Outcome Fields
name_rule s p = demand (within 2 26 (name_length s p) && mark_at One s (p + name_length s p + 2)) 6 (fields_rule s p (name_length s p))

-- "format code `B`, PAN, `^`"; anything else is 6
unfoldable pub layout1_rule : List ℕ → Outcome Fields
layout1_rule s =
    demand (eqb (get_or s 0 0) 66 && (pan_length (lead (drop 1 s)) && mark_at One s (lead (drop 1 s) + 1))) 6
    (name_rule s (lead (drop 1 s)))

-- "PAN, name and the rest come back as parts of the characters": each part's start and size; a refusal, and an absent field, give an empty part
abbrev pub pan_cut : Outcome Fields → Cut
pan_cut o = cut_of (λ (d : Fields). record { start = 1; size = d.pan }) o

abbrev pub name_cut : Outcome Fields → Cut
name_cut o = cut_of (λ (d : Fields). record { start = d.pan + 2; size = d.name }) o

abbrev pub expiry_cut : Outcome Fields → Cut
expiry_cut o = cut_of (λ (d : Fields). field_cut 4 d.expiry) o

abbrev pub service_cut : Outcome Fields → Cut
service_cut o = cut_of (λ (d : Fields). field_cut 3 d.service) o

-- the discretionary data of a text of m characters
abbrev pub rest_cut : ℕ → Outcome Fields → Cut
rest_cut m o = cut_of (λ (d : Fields). record { start = d.rest; size = m - d.rest }) o
