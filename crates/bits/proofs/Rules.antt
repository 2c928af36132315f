-- From what each way read to what the call says and leaves in the output.
use mathlib.Core.Path.{◌≡◌, sym, ap, ◌∙◌}
use mathlib.Core.Bool.{Bool, true, false, cond}
use mathlib.Core.List.{List}
use Prim.Native.Nat.{ℕ, ◌-◌, ◌*◌, ◌≤◌, ◌<◌}
use lib.ListN.{length}
use lib.Dec.{eqb}
use borrow.Author.Tests.{le-leb, lt-leb}
use Rattle.std.proofs.Common.{Result, Ok, Err}
use Rattle.text.specs.Numbers.{put}
use Rattle.reasons.specs.Reasons.{number_of, Outcome, gives, refuses}
use Rattle.reasons.specs.declared.Reason.{Reason}
use Rattle.reasons.proofs.Laws.{gives_refuses}
use Rattle.stream.specs.Stream.{stream}
use Rattle.chars.specs.Reading.{Format, read_one}
use Rattle.bits.specs.Reading.{Track, choose, read_either, read_rule, bytes_after, read_bytes, said, counted}
use Rattle.bits.specs.Ways.{WayRead}
use Rattle.bits.specs.declared.Read.{Read}
use Rattle.bits.specs.declared.Read.TheVariants.{Forward, Reversed}

-- what a call says and leaves, of a reading either way round
abbrev pub Told : Result Read Reason → Outcome Track → List ℕ → List ℕ → Type 0
Told r o old new = (said r ≡ counted o) × (new ≡ bytes_after o old)

-- of the outcomes of the two ways
module _ (old : List ℕ) where
  of_forward : (o p : Outcome (List ℕ)) (n : ℕ) (new : List ℕ) → WayRead (Ok n) o old new → Told (Ok (Forward n)) (choose o p) old new
  of_forward (gives cs) p n new w = let e : n ≡ length cs = cc w.says in (rw e, w.writes)
  of_forward (refuses m) p n new w = gives_refuses n m w.says

  of_reversed : (o p : Outcome (List ℕ)) (a : Reason) (n : ℕ) (mid new : List ℕ) → WayRead (Err a) o old mid → WayRead (Ok n) p mid new
      → Told (Ok (Reversed n)) (choose o p) old new
  of_reversed (gives cs) p a n mid new w v = gives_refuses (length cs) (number_of a) (sym w.says)
  of_reversed (refuses m) (gives cs) a n mid new w v =
      let e : n ≡ length cs = cc v.says in (rw e, v.writes ∙ ap (λ (l : List ℕ). put l 0 cs) w.writes)
  of_reversed (refuses m) (refuses k) a n mid new w v = gives_refuses n k v.says

  of_neither : (o p : Outcome (List ℕ)) (a b r : Reason) (mid new : List ℕ) → WayRead (Err a) o old mid → WayRead (Err b) p mid new
      → number_of r ≡ cond (eqb (number_of a) 8) (number_of b) (number_of a) → Told (Err r) (choose o p) old new
  of_neither (gives cs) p a b r mid new w v e = gives_refuses (length cs) (number_of a) (sym w.says)
  of_neither (refuses m) (gives cs) a b r mid new w v e = gives_refuses (length cs) (number_of b) (sym v.says)
  of_neither (refuses m) (refuses k) a b r mid new w v e =
      let f : number_of a ≡ m = cc w.says in
      let g : number_of b ≡ k = cc v.says in
      (rw (e, f, g), v.writes ∙ w.writes)

-- and of a stream read both ways
module _ (f : Format) (s : List ℕ) (n : ℕ) (old mid new : List ℕ) where
  pub forward : (k : ℕ) → WayRead (Ok k) (read_one f (stream false s n)) old new → Told (Ok (Forward k)) (read_either f (stream false s n)) old new
  unfolding read_either
  forward k w = of_forward old _ _ k new w

  module _ (a : Reason) (w : WayRead (Err a) (read_one f (stream false s n)) old mid) where
    pub reversed : (k : ℕ) → WayRead (Ok k) (read_one f (stream true s n)) mid new → Told (Ok (Reversed k)) (read_either f (stream false s n)) old new
    unfolding read_either stream
    reversed k v = of_reversed old _ _ a k mid new w v

    pub neither : (b x : Reason) → WayRead (Err b) (read_one f (stream true s n)) mid new
        → number_of x ≡ cond (eqb (number_of a) 8) (number_of b) (number_of a) → Told (Err x) (read_either f (stream false s n)) old new
    unfolding read_either stream
    neither b x v h = of_neither old _ _ a b x mid new w v h

-- the call, test by test
module _ (f : Format) (s : List ℕ) (count n : ℕ) where
  pub output_short : n < f.limit - 2 → read_rule f s count n ≡ refuses 1
  unfolding read_rule
  output_short h = rw (lt-leb (f.limit - 2) n h)

  module _ (h : f.limit - 2 ≤ n) where
    pub count_over : 4096 < count → read_rule f s count n ≡ refuses 7
    unfolding read_rule
    count_over k = rw (le-leb (f.limit - 2) n h, lt-leb count 4096 k)

    pub bytes_few : count ≤ 4096 → 8 * length s < count → read_rule f s count n ≡ refuses 7
    unfolding read_rule
    bytes_few k l = rw (le-leb (f.limit - 2) n h, le-leb count 4096 k, lt-leb count (8 * length s) l)

    pub rule_reads : count ≤ 4096 → count ≤ 8 * length s → read_rule f s count n ≡ read_either f (stream false s count)
    unfolding read_rule
    rule_reads k l = rw (le-leb (f.limit - 2) n h, le-leb count 4096 k, le-leb count (8 * length s) l)

-- what the call then says and leaves
module _ (f : Format) (s : List ℕ) (count : ℕ) (out : List ℕ) where
  pub refused_with : (m : ℕ) → read_rule f s count (length out) ≡ refuses m
      → (refuses m ≡ counted (read_rule f s count (length out))) × (out ≡ read_bytes f s count out)
  refused_with m e = (rw e, rw e)

  pub read_with : (o : Outcome Track) (x : Outcome (Bool × ℕ)) (new : List ℕ) → read_rule f s count (length out) ≡ o
      → (x ≡ counted o) × (new ≡ bytes_after o out) → (x ≡ counted (read_rule f s count (length out))) × (new ≡ read_bytes f s count out)
  read_with o x new e t = rw e t
