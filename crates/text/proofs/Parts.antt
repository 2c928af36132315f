-- A part has one place and one content.
use Prim.Native.Nat.{ℕ}
use mathlib.Core.Path.{◌≡◌, sym, ◌∙◌}
use mathlib.Core.List.{List}
use denote.Ref.{Bor}
use Rattle.text.specs.Parts.{PartOf, PieceOf}

-- two slices lie at the same place and hold the same bytes
pub record Same (r q : Bor (List ℕ)) : Type 0 where
  pub block : r.ref_ptr.0 ≡ q.ref_ptr.0
  pub place : r.ref_ptr.1 ≡ q.ref_ptr.1
  pub bytes : r.now ≡ q.now

pub part_one : (s r q : Bor (List ℕ)) (a n : ℕ) → PartOf s a n r → PartOf s a n q → Same r q
part_one s r q a n f g = record { block = f.block ∙ sym g.block; place = f.place ∙ sym g.place; bytes = f.bytes ∙ sym g.bytes }

pub piece_one : (s r q : Bor (List ℕ)) (at n : ℕ) → PieceOf s at n r → PieceOf s at n q → Same r q
piece_one s r q at n f g = record { block = f.block ∙ sym g.block; place = f.place ∙ sym g.place; bytes = f.bytes ∙ sym g.bytes }
