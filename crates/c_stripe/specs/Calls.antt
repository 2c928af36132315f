-- What each function on the stripe allows, in the header's order.
use Rattle.std.specs.Prelude.{ℕ, ◌≡◌, List, length}
use Rattle.chars.specs.Reading.{Format}
use Rattle.bits.specs.Reading.{read_rule, read_bytes}
use Rattle.layout.specs.Layout.{layout_rule}
use Rattle.layout1.specs.Layout1.{layout1_rule}
use Rattle.c_stripe.specs.Values.{counts_of, starts_of, starts1_of}
use Rattle.hands.specs.Hands.{Hands}

-- of the track with this format
abbrev pub TrackReads : Format → List ℕ → ℕ → List ℕ → ℕ × ℕ → ℕ → ℕ × ℕ → List ℕ → Type 0
TrackReads f s bits out x r y k = Hands (read_rule f s bits (length out)) x counts_of r y × (k ≡ read_bytes f s bits out)

abbrev pub LayoutReads : List ℕ → ℕ × ℕ × ℕ × ℕ → ℕ → ℕ × ℕ × ℕ × ℕ → Type 0
LayoutReads chars x r y = Hands (layout_rule chars) x starts_of r y

abbrev pub Layout1Reads : List ℕ → ℕ × ℕ × ℕ × ℕ × ℕ → ℕ → ℕ × ℕ × ℕ × ℕ × ℕ → Type 0
Layout1Reads chars x r y = Hands (layout1_rule chars) x starts1_of r y
