-- Any two outcomes that a function on the stripe allows are equal: the number answered, what stands behind its pointers,
-- and each byte that it may write.
use Prim.Native.Nat.{ℕ}
use mathlib.Core.Path.{◌≡◌, sym, ◌∙◌}
use mathlib.Core.List.{List}
use Rattle.chars.specs.Reading.{Format}
use Rattle.hands.proofs.Laws.{hands_one}
use Rattle.c_stripe.specs.Calls.{TrackReads, LayoutReads, Layout1Reads}

-- track2_read and track1_read
pub track_read_one : (a : Format) (s : List ℕ) (bits : ℕ) (out : List ℕ) (x : ℕ × ℕ) (r q : ℕ) (y z : ℕ × ℕ) (k l : List ℕ)
    → TrackReads a s bits out x r y k → TrackReads a s bits out x q z l → (r ≡ q) × (y ≡ z) × (k ≡ l)
track_read_one a s bits out x r q y z k l f g = let h = hands_one f.0 g.0 in (h.0, h.1, f.1 ∙ sym g.1)

-- layout_read
pub layout_read_one : (chars : List ℕ) (x : ℕ × ℕ × ℕ × ℕ) (r q : ℕ) (y z : ℕ × ℕ × ℕ × ℕ)
    → LayoutReads chars x r y → LayoutReads chars x q z → (r ≡ q) × (y ≡ z)
layout_read_one chars x r q y z f g = hands_one f g

-- layout1_read
pub layout1_read_one : (chars : List ℕ) (x : ℕ × ℕ × ℕ × ℕ × ℕ) (r q : ℕ) (y z : ℕ × ℕ × ℕ × ℕ × ℕ)
    → Layout1Reads chars x r y → Layout1Reads chars x q z → (r ≡ q) × (y ≡ z)
layout1_read_one chars x r q y z f g = hands_one f g
