-- The characters between the sentinels (ISO/IEC 7813), divided.
use Rattle.std.specs.Prelude.{ℕ, ◌+◌, ◌-◌, List, Bool, ◌&&◌, not, cond, Option, None, Some, length, get_or, take, drop, eqb}
use Rattle.std.specs.List.{prefix_len}
use Rattle.std.specs.Borrow.{Bor}
use Rattle.text.specs.Bytes.{within, is_digit, every, all_digits}
use Rattle.text.specs.Numbers.{decimal}
use Rattle.text.specs.Parts.{PartOf}
use Rattle.reasons.specs.Reasons.{Outcome, gives, refuses, demand, and_then}
use Rattle.pan.specs.Pan.{pan_length}
use Rattle.layout.specs.declared.Track.{Track}
use Rattle.layout.specs.declared.Track.TheVariants.{Two, One}
use Rattle.layout.specs.declared.Fields.{Fields}

-- ---- how a track's fields are written

-- "`=`", and on track 1 "`^`": what ends the PAN, and stands for an absent field
abbrev pub mark : Track → ℕ
mark Two = 61
mark One = 94

-- "Name and discretionary data may hold any character but `%`, `^` and `?`", of the 64 from byte 32 on
unfoldable pub is_named : ℕ → Bool
is_named b = within 32 95 b && (not (eqb b 37) && (not (eqb b 63) && not (eqb b 94)))

-- what discretionary data may hold: "digits only", and on track 1 what a name may
abbrev pub allowed : Track → ℕ → Bool
allowed Two = is_digit
allowed One = is_named

-- ---- the fields

-- "expiry as four digits YYMM with MM 01 to 12"
unfoldable pub is_expiry : List ℕ → Bool
is_expiry t = eqb (length t) 4 && (all_digits t && within 1 12 (decimal (drop 2 t)))

-- "service code as three digits"
unfoldable pub is_service : List ℕ → Bool
is_service t = eqb (length t) 3 && all_digits t

-- how many digits a text starts with
abbrev pub lead : List ℕ → ℕ
lead s = prefix_len is_digit s

-- the mark stands at q; past the end stands 0
abbrev pub mark_at : Track → List ℕ → ℕ → Bool
mark_at k s q = eqb (get_or s q 0) (mark k)

-- a field of n bytes at q, "or `=` for none"
unfoldable pub field_rule : Track → (List ℕ → Bool) → ℕ → List ℕ → ℕ → Outcome (Option ℕ)
field_rule k test n s q = cond (mark_at k s q) (gives None) (demand (test (take n (drop q s))) 6 (gives (Some q)))

-- where the next one starts
abbrev pub past : ℕ → ℕ → Option ℕ → ℕ
past n q None = q + 1
past n q (Some p) = q + n

-- "then discretionary data, digits only, perhaps none"
unfoldable pub rest_rule : Track → List ℕ → Fields → Outcome Fields
rest_rule k s d = demand (every (allowed k) (drop d.rest s)) 6 (gives d)

-- "service code as three digits, or `=` for none", at q, p being the PAN's length and e the expiry
unfoldable pub service_rule : Track → List ℕ → ℕ → Option ℕ → ℕ → Outcome Fields
service_rule k s p e q = and_then (field_rule k is_service 3 s q) (λ v. rest_rule k s (record { pan = p; expiry = e; service = v; rest = past 3 q v }))

-- "expiry as four digits YYMM .., or `=` for none", at q
unfoldable pub expiry_rule : Track → List ℕ → ℕ → ℕ → Outcome Fields
expiry_rule k s p q = and_then (field_rule k is_expiry 4 s q) (λ e. service_rule k s p e (past 4 q e))

-- "PAN of 13 to 19 digits; `=`; .. Anything else is 6"
unfoldable pub layout_rule : List ℕ → Outcome Fields
layout_rule s = demand (pan_length (lead s) && mark_at Two s (lead s)) 6 (expiry_rule Two s (lead s) (lead s + 1))

-- each part's start and size: "a refusal gives an empty part", and so does an absent field
pub record Cut : Type 0 where
  pub start : ℕ
  pub size : ℕ

-- r is the part of s with the cut's start and size
abbrev pub CutOf : Bor (List ℕ) → Cut → Bor (List ℕ) → Type 0
CutOf s k r = PartOf s k.start k.size r

abbrev pub none : Cut
none = record { start = 0; size = 0 }

abbrev pub field_cut : ℕ → Option ℕ → Cut
field_cut n None = none
field_cut n (Some q) = record { start = q; size = n }

-- where a division puts a part
abbrev pub cut_of : {A : Type 0} → (A → Cut) → Outcome A → Cut
cut_of part (gives d) = part d
cut_of part (refuses n) = none

abbrev pub pan_cut : Outcome Fields → Cut
pan_cut o = cut_of (λ (d : Fields). record { start = 0; size = d.pan }) o

abbrev pub expiry_cut : Outcome Fields → Cut
expiry_cut o = cut_of (λ (d : Fields). field_cut 4 d.expiry) o

abbrev pub service_cut : Outcome Fields → Cut
service_cut o = cut_of (λ (d : Fields). field_cut 3 d.service) o

-- the discretionary data of a text of m characters
abbrev pub rest_cut : ℕ → Outcome Fields → Cut
rest_cut m o = cut_of (λ (d : Fields). record { start = d.rest; size = m - d.rest }) o
