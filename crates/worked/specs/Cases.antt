-- The worked cases of document 01, and a fleet card for request E1, as lists, and what it means that a case holds: over the definitions that the
-- promises use.
use Rattle.std.specs.Prelude.{ℕ, zero, suc, ◌+◌, ◌-◌, ◌/◌, ◌%◌, ◌≤◌, ◌≡◌, Bool, true, false, Result, List, [], ◌∷◌, ◌++◌, reverse, eqb, length, take, drop, replicate}
use Prim.Native.String.{String}
use Rattle.std.specs.Int.Bits.{bit_xor}
use Rattle.text.specs.Bytes.{bytes_of}
use Rattle.text.specs.Numbers.{put}
use Rattle.reasons.specs.Reasons.{gives, refuses, said, number_in}
use Rattle.reasons.specs.declared.Reason.{Reason}
use Rattle.luhn.specs.Luhn.{luhn_rule}
use Rattle.pan.specs.Pan.{Masks}
use Rattle.creditor.specs.Creditor.{creditor_rule}
use Rattle.iban.specs.Iban.{iban_rule}
use Rattle.stream.specs.Stream.{number, bits_of, ones}
use Rattle.chars.specs.Reading.{Letters, Format}
use Rattle.bits.specs.Reading.{forward_of, reversed_of, read_rule}
use Rattle.track2.specs.Track2.{track2}
use Rattle.track1.specs.Track1.{track1}
use Rattle.layout.specs.Layout.{Cut}
use Rattle.layout1.specs.Layout1.{layout1_rule, pan_cut, name_cut, expiry_cut, service_cut, rest_cut}
use Rattle.journal.specs.Rules.{Books}

-- ---- a track as it is written

-- the bits of a character: "four data bits, lowest first, then one making the count of ones odd"; six data bits on track 1
abbrev pub character : Letters → ℕ → List Bool
character l n = bits_of l.data_bits n ++ (eqb (ones (bits_of l.data_bits n) % 2) 0 ∷ [])

abbrev pub characters : Letters → List ℕ → List Bool
characters l [] = []
characters l (b ∷ s) = character l (b - l.base) ++ characters l s

-- "the exclusive or of the data bits of all characters"
abbrev pub lrc_of : Letters → List ℕ → ℕ
lrc_of l [] = 0
lrc_of l (b ∷ s) = bit_xor (b - l.base) (lrc_of l s)

-- so many bytes of a stream: "stream bit i is bit i mod 8 (0 the lowest) of byte i div 8"
abbrev pub packed : ℕ → List Bool → List ℕ
packed zero s = []
packed (suc n) s = number (take 8 s) ∷ packed n (drop 8 s)

-- ---- the cases

pub data Case : Type 0 where
  -- a text passes Luhn; it doesn't, for its check digit
  luhn_passes : String → Case
  luhn_fails : String → Case
  -- a creditor reference, an IBAN passes
  creditor_passes : String → Case
  iban_passes : String → Case
  -- a track's format and its characters with both sentinels: the LRC's number and bits, the count of characters and of bits with the LRC
  track : Format → String → ℕ → List Bool → ℕ → ℕ → Case
  -- track 1's characters between the sentinels divide into PAN, name, expiry, service code and discretionary data
  divides : String → String → String → String → String → String → Case
  -- masking a PAN gives a text, at the front of any output that is long enough
  masks : String → String → Case
  -- booking a PAN with label, amount and clock in one empty slot leaves these bytes
  books : String → ℕ → ℕ → ℕ → List ℕ → Case

-- a track holds where it has this LRC and these counts and, written so, reads as what stands between its sentinels, either way round, into
-- as few bytes of output as the format takes
pub record TrackHolds (f : Format) (text between : List ℕ) (lrc : ℕ) (bits : List Bool) (count bit-count : ℕ) : Type 0 where
  pub lrc_number : lrc_of f.letters text ≡ lrc
  pub lrc_bits : character f.letters lrc ≡ bits
  pub character_count : length text + 1 ≡ count
  pub bits_count : length (characters f.letters text ++ bits) ≡ bit-count
  pub forward :
      read_rule f (packed ((bit-count + 7) / 8) (characters f.letters text ++ bits)) bit-count (f.limit - 2) ≡ gives (forward_of between)
  pub backward :
      read_rule f (packed ((bit-count + 7) / 8) (reverse (characters f.letters text ++ bits))) bit-count (f.limit - 2) ≡ gives (reversed_of between)

-- the bytes of a cut
abbrev pub cut_from : List ℕ → Cut → List ℕ
cut_from s k = take k.size (drop k.start s)

-- the layout accepts a text, whose parts are these
pub record DivisionHolds (text pan name expiry service rest : List ℕ) : Type 0 where
  pub accepted : number_in (layout1_rule text) ≡ 0
  pub pan_part : cut_from text (pan_cut (layout1_rule text)) ≡ pan
  pub name_part : cut_from text (name_cut (layout1_rule text)) ≡ name
  pub expiry_part : cut_from text (expiry_cut (layout1_rule text)) ≡ expiry
  pub service_part : cut_from text (service_cut (layout1_rule text)) ≡ service
  pub rest_part : cut_from text (rest_cut (length text) (layout1_rule text)) ≡ rest

-- what stands between the first and the last character
abbrev pub inner : List ℕ → List ℕ
inner [] = []
inner (b ∷ s) = but_last s
  where
    but_last : List ℕ → List ℕ
    but_last [] = []
    but_last (c ∷ []) = []
    but_last (c ∷ (d ∷ t)) = c ∷ but_last (d ∷ t)

abbrev pub Holds : Case → Type 0
Holds (luhn_passes t) = luhn_rule (bytes_of t) ≡ gives tt
Holds (luhn_fails t) = luhn_rule (bytes_of t) ≡ refuses 4
Holds (creditor_passes t) = creditor_rule (bytes_of t) ≡ gives tt
Holds (iban_passes t) = iban_rule (bytes_of t) ≡ gives tt
Holds (track f t lrc bits count bit-count) = TrackHolds f (bytes_of t) (inner (bytes_of t)) lrc bits count bit-count
Holds (divides t pan name expiry service rest) =
    DivisionHolds (bytes_of t) (bytes_of pan) (bytes_of name) (bytes_of expiry) (bytes_of service) (bytes_of rest)
Holds (masks pan text) =
    (out : List ℕ) (r : Result (Unit {0}) Reason) (k : List ℕ) → length (bytes_of pan) ≤ length out → Masks (bytes_of pan) out r k
    → (said r ≡ gives tt) × (k ≡ put out 0 (bytes_of text))
Holds (books pan label amount clock bytes) =
    (r : Result ℕ Reason) (k : List ℕ) → Books (replicate 32 0) (bytes_of pan) label amount clock r k → (said r ≡ gives 1) × (k ≡ bytes)

-- every case of a list holds
infixr 60 ◌and◌
pub data All : List Case → Type 0 where
  all : All []
  ◌and◌ : {c : Case} {cs : List Case} → Holds c → All cs → All (c ∷ cs)

-- "`;4111111111111111=2512101?` has LRC 8, bits 00010, in all 27 characters, 135 bits"
abbrev pub w11_case : Case
w11_case = track track2 ";4111111111111111=2512101?" 8 (false ∷ false ∷ false ∷ true ∷ false ∷ []) 27 135

-- the paper's W1 to W13
abbrev pub cases : List Case
cases =
    luhn_passes "4111111111111111"
    ∷ luhn_passes "378282246310005"
    ∷ luhn_passes "18"
    ∷ luhn_fails "81"
    ∷ luhn_passes "091"
    ∷ luhn_passes "901"
    ∷ luhn_passes "224"
    ∷ luhn_passes "554"
    ∷ creditor_passes "RF18539007547034"
    ∷ creditor_passes "RF14B1"
    ∷ creditor_passes "RF141B"
    ∷ iban_passes "GB82WEST12345698765432"
    ∷ iban_passes "DE89370400440532013000"
    ∷ iban_passes "FR1420041010050500013M02606"
    ∷ w11_case
    ∷ masks "4111111111111111" "411111******1111"
    ∷ books "4111111111111111" 7 250 0
    (1 ∷ 0 ∷ 0 ∷ 0 ∷ 0 ∷ 0 ∷ 0 ∷ 0 ∷ 0xFA ∷ 0 ∷ 0 ∷ 0 ∷ 7 ∷ 0 ∷ 0x10 ∷ 1
    ∷ 0x34 ∷ 0x31 ∷ 0x31 ∷ 0x31 ∷ 0x31 ∷ 0x31 ∷ 0x31 ∷ 0x31 ∷ 0x31 ∷ 0x31 ∷ 0 ∷ 0 ∷ 0 ∷ 0 ∷ 0 ∷ 0 ∷ [])
    ∷ []

-- a card as ISO/IEC 7813 lays track 1 out: `%B4111111111111111^DOE/JANE^2512101?` has LRC 8, bits 0001000, in all 37 characters, 259 bits
abbrev pub fleet_track : Case
fleet_track =
    track track1 "%B4111111111111111^DOE/JANE^2512101?" 8 (false ∷ false ∷ false ∷ true ∷ false ∷ false ∷ false ∷ []) 37 259

abbrev pub fleet_division : Case
fleet_division = divides "B4111111111111111^DOE/JANE^2512101" "4111111111111111" "DOE/JANE" "2512" "101" ""

-- request E1's
abbrev pub fleet_cases : List Case
fleet_cases = fleet_track ∷ fleet_division ∷ []
