-- The laws on readings, for every proper format.
use mathlib.Core.Path.{◌≡◌, sym, ap, ◌∙◌}
use mathlib.Core.Bool.{Bool, true, false, ◌&&◌}
use mathlib.Core.List.{List, reverse, reverse-reverse}
use Prim.Native.Nat.{ℕ, ◌-◌, ◌*◌, ◌≤◌, ◌<◌}
use native.Mathlib.Omega.{arith}
use lib.ListN.{length}
use lib.Dec.{leb}
use borrow.Author.Tests.{leb-true}
use Rattle.std.proofs.Common.{Result, Ok, Err}
use Rattle.text.proofs.Tests.{both_true}
use Rattle.reasons.specs.Reasons.{number_of, Outcome, gives, refuses}
use Rattle.reasons.specs.declared.Reason.{Reason}
use Rattle.reasons.proofs.Laws.{gives_refuses, refuses_one, passed}
use Rattle.stream.specs.Stream.{stream}
use Rattle.stream.proofs.Streams.{length-stream}
use Rattle.chars.specs.Reading.{Format, read_one}
use Rattle.chars.specs.Shape.{format_of, Sound}
use Rattle.chars.specs.Flip.{Proper}
use Rattle.chars.specs.declared.shape.Shape.{Shape}
use Rattle.chars.proofs.Laws.{flip_found, sound}
use Rattle.bits.specs.Reading.{Track, forward_of, reversed_of, choose, read_either, read_rule, said, Reads}
use Rattle.bits.specs.Ways.{plain}
use Rattle.bits.specs.Flip.{flip_bit, Reverses}
use Rattle.bits.specs.declared.Read.{Read}
use Rattle.bits.specs.declared.Read.TheVariants.{Forward, Reversed}
use Rattle.bits.proofs.Rules.{rule_reads}
use Rattle.bits.proofs.Lengths.{either_length}
use Rattle.bits.proofs.FlipBytes.{flipped_stream, reversed_stream}

-- a direction and a count, given
given : {d c : Bool} (n m : ℕ) → ◌≡◌ {A = Outcome (Bool × ℕ)} (gives (d, n)) (gives (c, m)) → (d ≡ c) × (n ≡ m)
given {d} {c} n m e = let z : ◌≡◌ {A = Bool × ℕ} (d, n) (c, m) = cc in (ap (λ (p : Bool × ℕ). p.0) z, ap (λ (p : Bool × ℕ). p.1) z)

-- what is said tells the answer
pub said_one : (r q : Result Read Reason) → said r ≡ said q → r ≡ q
said_one (Ok (Forward n)) (Ok (Forward m)) e = ap (λ (k : ℕ). Ok (Forward k)) (given n m e).1
said_one (Ok (Reversed n)) (Ok (Reversed m)) e = ap (λ (k : ℕ). Ok (Reversed k)) (given n m e).1
said_one (Err a) (Err b) e = ap Err (refuses_one a b e)
said_one (Ok (Forward n)) (Ok (Reversed m)) e = let d : false ≡ true = (given n m e).0 in let z : ◌≡◌ {A = ℕ} 0 1 = cc in absurd (omega arith)
said_one (Ok (Reversed n)) (Ok (Forward m)) e = let d : true ≡ false = (given n m e).0 in let z : ◌≡◌ {A = ℕ} 0 1 = cc in absurd (omega arith)
said_one (Ok (Forward n)) (Err b) e = gives_refuses (false, n) (number_of b) e
said_one (Ok (Reversed n)) (Err b) e = gives_refuses (true, n) (number_of b) e
said_one (Err a) (Ok (Forward n)) e = gives_refuses (false, n) (number_of a) (sym e)
said_one (Err a) (Ok (Reversed n)) e = gives_refuses (true, n) (number_of a) (sym e)

-- any two outcomes that a reading's promise allows are equal: the answer and every lent byte
pub reads_one : (f : Format) (s : List ℕ) (bits : ℕ) (out : List ℕ) (r q : Result Read Reason) (x y : List ℕ)
    → Reads f s bits out r x → Reads f s bits out q y → (r ≡ q) × (x ≡ y)
reads_one f s bits out r q x y a b = (said_one r q (a.0 ∙ sym b.0), a.1 ∙ sym b.1)

-- what a shape may be, it may be without looks of two characters
pub plain-sound : (h : Shape) → Sound h → Sound (plain h)
plain-sound h _ = sound (plain h)

-- "The faster reading must give the same answer, number and output bytes as the plain one for every stream": what read_either promises of
-- a shape, and of the same track read one character after another
pub same_as_plain : (h : Shape) (s : List ℕ) (bits : ℕ) (out : List ℕ) (r q : Result Read Reason) (x y : List ℕ)
    → Reads (format_of h) s bits out r x → Reads (format_of (plain h)) s bits out q y → (r ≡ q) × (x ≡ y)
same_as_plain h = reads_one (format_of h)

-- where a call gives a value neither 1 nor 7 applies
pub record Taken (f : Format) (s : List ℕ) (count n : ℕ) (t : Track) : Type 0 where
  pub room : f.limit - 2 ≤ n
  pub few : count ≤ 4096
  pub there : count ≤ 8 * length s
  pub reads : read_either f (stream false s count) ≡ gives t

pub taken : (f : Format) (s : List ℕ) (count n : ℕ) (t : Track) → read_rule f s count n ≡ gives t → Taken f s count n t
unfolding read_rule
taken f s count n t e =
    let p = passed (leb (f.limit - 2) n) 1 _ t e in
    let q = passed (leb count 4096 && leb count (8 * length s)) 7 _ t p.1 in
    let b = both_true (leb count 4096) (leb count (8 * length s)) q.0 in
    record { room = leb-true _ _ p.0; few = leb-true _ _ b.0; there = leb-true _ _ b.1; reads = q.1 }

-- and the characters fit an output that 1 is not said of
pub chars_fit : (f : Format) (s : List ℕ) (count n : ℕ) (t : Track) → read_rule f s count n ≡ gives t → length t.chars ≤ f.limit - 2
chars_fit f s count n t e = omega (arith, either_length f (stream false s count) t (taken f s count n t e).reads)

-- a reading either way round that went forward, and one that was reversed
pub went_forward : (o p : Outcome (List ℕ)) (a : List ℕ) → choose o p ≡ gives (forward_of a) → o ≡ gives a
went_forward (gives out) p a e = let z : forward_of out ≡ forward_of a = cc in ap (λ (t : Track). gives t.chars) z
went_forward (refuses m) (gives out) a e =
    let t : reversed_of out ≡ forward_of a = cc in
    let d : true ≡ false = ap (λ (t : Track). t.reversed) t in
    let z : ◌≡◌ {A = ℕ} 0 1 = cc in absurd (omega arith)
went_forward (refuses m) (refuses k) a e = let z : ◌≡◌ {A = ℕ} 0 1 = cc in absurd (omega arith)

pub reads_forward : (f : Format) (s : List Bool) (a : List ℕ) → read_either f s ≡ gives (forward_of a) → read_one f s ≡ gives a
unfolding read_either
reads_forward f s a e = went_forward (read_one f s) (read_one f (reverse s)) a e

module _ (f : Format) (ok : Proper f) where
  -- "flip any one bit of a stream that reads forward, clocking zeros included, and it no longer reads forward": one bit of one lent byte changed
  pub flip_found_in_bytes : (s : List ℕ) (count n i : ℕ) → i < count → (a b : List ℕ)
      → read_rule f s count n ≡ gives (forward_of a) → read_rule f (flip_bit s i) count n ≡ gives (forward_of b) → ⊥
  flip_found_in_bytes s count n i h a b p q =
      let t = taken f s count n (forward_of a) p in
      let u = taken f (flip_bit s i) count n (forward_of b) q in
      flip_found f ok (stream false s count) i (rw length-stream h) a b (reads_forward f _ a t.reads)
      (ap (read_one f) (sym (flipped_stream s i count (omega (arith, t.there)) h)) ∙ reads_forward f _ b u.reads)

-- "If a stream reads forward and its reversal doesn't, then reading the reversal either way round gives the same characters"
pub reversal : (f : Format) (s : List Bool) (out : List ℕ) (m : ℕ) → read_one f s ≡ gives out → read_one f (reverse s) ≡ refuses m
    → read_either f (reverse s) ≡ gives (reversed_of out)
unfolding read_either
reversal f s out m h g = rw (g, reverse-reverse, h)

-- and of lent bytes: t holds the reversal of s
pub reversal_in_bytes : (f : Format) (s t : List ℕ) (count n : ℕ) (out : List ℕ) (m : ℕ) → Reverses s t count → count ≤ 8 * length t
    → read_rule f s count n ≡ gives (forward_of out) → read_one f (stream false t count) ≡ refuses m
    → read_rule f t count n ≡ gives (reversed_of out)
reversal_in_bytes f s t count n out m r l p q =
    let k = taken f s count n (forward_of out) p in
    let e = reversed_stream s t count r in
    rule_reads f t count n k.room k.few l ∙ ap (read_either f) e
    ∙ reversal f (stream false s count) out m (reads_forward f (stream false s count) out k.reads) (ap (read_one f) (sym e) ∙ q)
