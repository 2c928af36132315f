-- Parts of lent slices.
use Rattle.std.specs.Prelude.{ℕ, ◌+◌, ◌≡◌, cond, List, ltb, length, take, drop}
use Rattle.std.specs.Borrow.{Bor}

-- r is the part of s that starts at a and has n bytes: these bytes, and in their own place, no copy
pub record PartOf (s : Bor (List ℕ)) (a n : ℕ) (r : Bor (List ℕ)) : Type 0 where
  pub block : r.ref_ptr.0 ≡ s.ref_ptr.0
  pub place : r.ref_ptr.1 ≡ s.ref_ptr.1 + a
  pub bytes : r.now ≡ take n (drop a s.now)

-- r is the piece of s from `at` on: n bytes, fewer where s ends; where s ends before it, the empty part at the start of s
pub record PieceOf (s : Bor (List ℕ)) (at n : ℕ) (r : Bor (List ℕ)) : Type 0 where
  pub block : r.ref_ptr.0 ≡ s.ref_ptr.0
  pub place : r.ref_ptr.1 ≡ s.ref_ptr.1 + cond (ltb at (length s.now)) at 0
  pub bytes : r.now ≡ take n (drop at s.now)
