-- The form of the characters between track 1's sentinels, as a grammar: what they are put together from.
use Rattle.std.specs.Prelude.{ℕ, ◌+◌, ◌≡◌, List, ◌∷◌, ◌++◌, true, Option, length, take, drop}
use Rattle.text.specs.Bytes.{within, every, all_digits}
use Rattle.pan.specs.Pan.{pan_length}
use Rattle.layout.specs.Layout.{is_named, is_expiry, is_service}
use Rattle.layout.specs.Grammar.{written, Passes, placed, field_in}
use Rattle.layout.specs.declared.Track.TheVariants.{One}
use Rattle.layout1.specs.declared.Fields.{Fields}

pub record Pieces : Type 0 where
  pub pan : List ℕ
  pub name : List ℕ
  pub expiry : Option (List ℕ)
  pub service : Option (List ℕ)
  pub discretionary : List ℕ

-- "expiry of four digits or `^`, service code of three digits or `^`, discretionary data (perhaps none)"
abbrev pub tail_of : Pieces → List ℕ
tail_of g = written One g.expiry ++ (written One g.service ++ g.discretionary)

-- "format code `B`, PAN, `^`, name of 2 to 26 characters, `^`", then the rest
abbrev pub text_of : Pieces → List ℕ
text_of g = 66 ∷ (g.pan ++ 94 ∷ (g.name ++ 94 ∷ tail_of g))

pub record Formed (g : Pieces) : Type 0 where
  pub pan_length_lem : pan_length (length g.pan) ≡ true
  pub pan_digits : all_digits g.pan ≡ true
  pub name_length_lem : within 2 26 (length g.name) ≡ true
  pub name_right : every is_named g.name ≡ true
  pub expiry_right : Passes is_expiry g.expiry
  pub service_right : Passes is_service g.service
  pub rest_right : every is_named g.discretionary ≡ true

-- where the pieces stand in their text: the expiry behind `B`, PAN, `^`, name and `^`
abbrev pub expiry_at : Pieces → ℕ
expiry_at g = length g.pan + length g.name + 3

abbrev pub places_of : Pieces → Fields
places_of g = record {
  pan = length g.pan;
  name = length g.name;
  expiry = placed (expiry_at g) g.expiry;
  service = placed (expiry_at g + length (written One g.expiry)) g.service;
  rest = expiry_at g + length (written One g.expiry) + length (written One g.service);
}

-- the pieces of a text that stand at these places
abbrev pub pieces_at : List ℕ → Fields → Pieces
pieces_at s d = record {
  pan = take d.pan (drop 1 s);
  name = take d.name (drop (d.pan + 2) s);
  expiry = field_in 4 s d.expiry;
  service = field_in 3 s d.service;
  discretionary = drop d.rest s;
}
