-- The form of the characters between the sentinels, as a grammar: what they are put together from.
use Rattle.std.specs.Prelude.{ℕ, ◌+◌, ◌≡◌, List, [], ◌∷◌, ◌++◌, Bool, true, Option, None, Some, length, take, drop}
use Rattle.text.specs.Bytes.{all_digits}
use Rattle.pan.specs.Pan.{pan_length}
use Rattle.layout.specs.Layout.{mark, is_expiry, is_service}
use Rattle.layout.specs.declared.Track.{Track}
use Rattle.layout.specs.declared.Track.TheVariants.{Two}
use Rattle.layout.specs.declared.Fields.{Fields}

-- as it is written: "or `=` for none"
abbrev pub written : Track → Option (List ℕ) → List ℕ
written k None = mark k ∷ []
written k (Some t) = t

-- a present one passes the test
abbrev pub Passes : (List ℕ → Bool) → Option (List ℕ) → Type 0
Passes test None = Unit {0}
Passes test (Some t) = test t ≡ true

pub record Pieces : Type 0 where
  pub pan : List ℕ
  pub expiry : Option (List ℕ)
  pub service : Option (List ℕ)
  pub discretionary : List ℕ

-- "PAN of 13 to 19 digits; `=`; expiry ..; service code ..; then discretionary data"
abbrev pub text_of : Pieces → List ℕ
text_of g = g.pan ++ 61 ∷ (written Two g.expiry ++ (written Two g.service ++ g.discretionary))

pub record Formed (g : Pieces) : Type 0 where
  pub pan_length_lem : pan_length (length g.pan) ≡ true
  pub pan_digits : all_digits g.pan ≡ true
  pub expiry_right : Passes is_expiry g.expiry
  pub service_right : Passes is_service g.service
  pub rest_digits : all_digits g.discretionary ≡ true

-- where the pieces stand in their text
abbrev pub placed : ℕ → Option (List ℕ) → Option ℕ
placed q None = None
placed q (Some t) = Some q

abbrev pub places_of : Pieces → Fields
places_of g = record {
  pan = length g.pan;
  expiry = placed (length g.pan + 1) g.expiry;
  service = placed (length g.pan + 1 + length (written Two g.expiry)) g.service;
  rest = length g.pan + 1 + length (written Two g.expiry) + length (written Two g.service);
}

-- the pieces of a text that stand at these places
abbrev pub field_in : ℕ → List ℕ → Option ℕ → Option (List ℕ)
field_in n s None = None
field_in n s (Some q) = Some (take n (drop q s))

abbrev pub pieces_at : List ℕ → Fields → Pieces
pieces_at s d =
    record { pan = take d.pan s; expiry = field_in 4 s d.expiry; service = field_in 3 s d.service; discretionary = drop d.rest s }
