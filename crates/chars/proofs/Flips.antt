-- One bit flipped: in a character it breaks the parity, behind it the reading goes on with a flipped rest.
use mathlib.Core.Path.{◌≡◌, refl, sym, ap, ◌∙◌, subst}
use mathlib.Core.List.{List, [], ◌∷◌, ◌++◌}
use mathlib.Core.Bool.{Bool, true, false, cond}
use mathlib.Core.Logic.{◌⊎◌, inl, inr, ⊎_elim}
use Prim.Native.Nat.{ℕ, zero, suc, ◌+◌, ◌-◌, ◌%◌, ◌≤◌, ◌<◌}
use native.Mathlib.Nat.{zero-add, suc-add, not-suc-le-zero, le_of_suc-le-suc}
use native.Mathlib.Omega.{arith}
use native.Mathlib.Decide.{dec_lt}
use lib.ListN.{length, take, drop, length-drop, length-take}
use lib.Dec.{eqb}
use lib.Bits.{bit_xor}
use borrow.Author.Tests.{eqb-true}
use Rattle.reasons.specs.Reasons.{Outcome, gives, demand, and_then}
use Rattle.reasons.proofs.Laws.{gives_refuses, passed, went_on}
use Rattle.stream.specs.Stream.{number, ones, odd}
use Rattle.chars.specs.Reading.{Letters, Format, next, all_zero, finish, body, skip, begins, read_one}
use Rattle.chars.specs.Flip.{flip_at, Proper}
use Rattle.chars.proofs.Chars.{char_long, char_odd}

pub length_flip : (i : ℕ) (s : List Bool) → length (flip_at i s) ≡ length s
unfolding flip_at
length_flip i [] = refl
length_flip zero (b ∷ s) = refl
length_flip (suc i) (b ∷ s) = ap suc (length_flip i s)

-- a flip behind the first n bits leaves them, and flips the rest
take_late : (n j : ℕ) (s : List Bool) → take n (flip_at (n + j) s) ≡ take n s
unfolding flip_at
take_late zero j s = refl
take_late (suc n) j [] = refl
take_late (suc n) j (b ∷ s) = rw suc-add (ap (λ (l : List Bool). b ∷ l) (take_late n j s))

drop_late : (n j : ℕ) (s : List Bool) → drop n (flip_at (n + j) s) ≡ flip_at j (drop n s)
unfolding flip_at
drop_late zero j s = rw zero-add
drop_late (suc n) j [] = refl
drop_late (suc n) j (b ∷ s) = rw suc-add (drop_late n j s)

-- a flip among the first n bits is a flip of these
pub take_early : (n i : ℕ) (s : List Bool) → i < n → take n (flip_at i s) ≡ flip_at i (take n s)
unfolding flip_at
take_early zero i s h = absurd (not-suc-le-zero h)
take_early (suc n) i [] h = refl
take_early (suc n) zero (b ∷ s) h = refl
take_early (suc n) (suc i) (b ∷ s) h = ap (λ (l : List Bool). b ∷ l) (take_early n i s (le_of_suc-le-suc h))

-- it makes one more one or one fewer
ones_flip : (i : ℕ) (s : List Bool) → i < length s → (ones (flip_at i s) ≡ ones s + 1) ⊎ (ones (flip_at i s) + 1 ≡ ones s)
unfolding flip_at ones
ones_flip i [] h = absurd (not-suc-le-zero h)
ones_flip zero (false ∷ s) h = inl (omega arith)
ones_flip zero (true ∷ s) h = inr (omega arith)
ones_flip (suc i) (b ∷ s) h =
    ⊎_elim (λ e. inl (omega (arith, e))) (λ e. inr (omega (arith, e))) (ones_flip i s (le_of_suc-le-suc h))

-- so that not both counts are odd
pub odd_flip : (i : ℕ) (s : List Bool) → i < length s → odd s ≡ true → odd (flip_at i s) ≡ true → ⊥
odd_flip i s h p q =
    let a : ones s % 2 ≡ 1 = eqb-true _ _ p in
    let b : ones (flip_at i s) % 2 ≡ 1 = eqb-true _ _ q in
    ⊎_elim (λ e. omega (arith, e)) (λ e. omega (arith, e)) (ones_flip i s h)

zero_flip : (i : ℕ) (s : List Bool) → i < length s → all_zero s ≡ true → all_zero (flip_at i s) ≡ true → ⊥
unfolding flip_at all_zero
zero_flip i [] h p q = absurd (not-suc-le-zero h)
zero_flip zero (false ∷ s) h p q = let z : ◌≡◌ {A = ℕ} 0 1 = cc in omega arith
zero_flip zero (true ∷ s) h p q = let z : ◌≡◌ {A = ℕ} 0 1 = cc in omega arith
zero_flip (suc i) (false ∷ s) h p q = zero_flip i s (le_of_suc-le-suc h) p q
zero_flip (suc i) (true ∷ s) h p q = let z : ◌≡◌ {A = ℕ} 0 1 = cc in omega arith

-- ---- a reading that goes on with a character

-- where the flipped bit stands: in the next n bits, or j behind them
where_is : (n i : ℕ) → (i < n) ⊎ ((j : ℕ) × (i ≡ n + j))
where_is n i = go (dec_lt i n)
  where
    go : Dec (i < n) → (i < n) ⊎ ((j : ℕ) × (i ≡ n + j))
    go (yes h) = inl h
    go (no h) = inr (i - n, omega arith)

-- a flip in a character, and one behind it
next_early : (d i m n : ℕ) (s : List Bool) → i < suc d → next d s ≡ gives m → next d (flip_at i s) ≡ gives n → ⊥
next_early d i m n s h p q =
    let l : suc d ≤ length s = char_long d s m p in
    odd_flip i (take (suc d) s) (rw length-take (omega arith)) (char_odd d s m p) (rw take_early at (char_odd d (flip_at i s) n q))

next_late : (d j : ℕ) (s : List Bool) → next d (flip_at (suc d + j) s) ≡ next d s
unfolding next
next_late d j s =
    let e : take d (flip_at (suc d + j) s) ≡ take d s = ap (λ (i : ℕ). take d (flip_at i s)) (omega arith) ∙ take_late d (suc j) s in
    rw (length_flip (suc d + j) s, take_late (suc d) j s, e)

-- so does a reading that goes on with a character, if it does so behind it
module _ (d : ℕ) (go : ℕ → List Bool → Outcome (List ℕ))
    (law : (n : ℕ) (s : List Bool) (j : ℕ) → j < length s → (a b : List ℕ) → go n s ≡ gives a → go n (flip_at j s) ≡ gives b → ⊥) where
  pub char_flip : (s : List Bool) (i : ℕ) → i < length s → (a b : List ℕ)
      → and_then (next d s) (λ n. go n (drop (suc d) s)) ≡ gives a
      → and_then (next d (flip_at i s)) (λ n. go n (drop (suc d) (flip_at i s))) ≡ gives b → ⊥
  char_flip s i h a b p q =
      let u = went_on (next d s) _ a p in
      let v = went_on (next d (flip_at i s)) _ b q in
      ⊎_elim
      (λ k. next_early d i u.0 v.0 s k u.1 v.1)
      (λ je. late u v je.0 je.1)
      (where_is (suc d) i)
    where
      late : (u : (m : ℕ) × (next d s ≡ gives m) × (go m (drop (suc d) s) ≡ gives a))
          (v : (n : ℕ) × (next d (flip_at i s) ≡ gives n) × (go n (drop (suc d) (flip_at i s)) ≡ gives b)) (j : ℕ) → i ≡ suc d + j → ⊥
      late u v j e =
          let same : gives v.0 ≡ gives u.0 = sym v.1 ∙ ap (λ (k : ℕ). next d (flip_at k s)) e ∙ next_late d j s ∙ u.1 in
          let n : v.0 ≡ u.0 = cc in
          law u.0 (drop (suc d) s) j (rw length-drop (omega arith)) a b u.2
          (ap (go u.0) (sym (drop_late (suc d) j s) ∙ ap (λ (k : ℕ). drop (suc d) (flip_at k s)) (sym e))
          ∙ ap (λ (k : ℕ). go k (drop (suc d) (flip_at i s))) (sym n) ∙ v.2)

-- ---- the close, the characters, the start

close_flip : (x : ℕ) (out : List ℕ) (n : ℕ) (s : List Bool) (j : ℕ) → j < length s → (a b : List ℕ)
    → demand (eqb n x) 12 (demand (all_zero s) 13 (gives out)) ≡ gives a → demand (eqb n x) 12 (demand (all_zero (flip_at j s)) 13 (gives out)) ≡ gives b → ⊥
close_flip x out n s j h a b p q =
    zero_flip j s h
    (passed (all_zero s) 13 _ a (passed (eqb n x) 12 _ a p).1).0
    (passed (all_zero (flip_at j s)) 13 _ b (passed (eqb n x) 12 _ b q).1).0

finish_flip : (d x : ℕ) (out : List ℕ) (s : List Bool) (i : ℕ) → i < length s → (a b : List ℕ)
    → finish d x out s ≡ gives a → finish d x out (flip_at i s) ≡ gives b → ⊥
unfolding finish
finish_flip d x out = char_flip d (λ n r. demand (eqb n x) 12 (demand (all_zero r) 13 (gives out))) (close_flip x out)

-- one of two readings, each of which the law holds of
either_flip : (t : Bool) (f g : List Bool → Outcome (List ℕ)) (s : List Bool) (j : ℕ) (a b : List ℕ)
    → (f s ≡ gives a → f (flip_at j s) ≡ gives b → ⊥) → (g s ≡ gives a → g (flip_at j s) ≡ gives b → ⊥)
    → cond t (f s) (g s) ≡ gives a → cond t (f (flip_at j s)) (g (flip_at j s)) ≡ gives b → ⊥
either_flip true f g s j a b h k = h
either_flip false f g s j a b h k = k

body_flip : (l : Letters) (k x : ℕ) (out : List ℕ) (s : List Bool) (i : ℕ) → i < length s → (a b : List ℕ)
    → body l k x out s ≡ gives a → body l k x out (flip_at i s) ≡ gives b → ⊥
unfolding body
body_flip l zero x out = λ s i h a b p q. gives_refuses a 11 (sym p)
body_flip l (suc k) x out =
    char_flip l.data_bits
    (λ n r. cond (eqb n l.end_number) (finish l.data_bits (bit_xor x n) out r) (body l k (bit_xor x n) (out ++ ((l.base + n) ∷ [])) r))
    (λ n s j h a b. either_flip (eqb n l.end_number) (finish l.data_bits (bit_xor x n) out) (body l k (bit_xor x n) (out ++ ((l.base + n) ∷ []))) s j a b
    (finish_flip l.data_bits (bit_xor x n) out s j h a b)
    (body_flip l k (bit_xor x n) (out ++ ((l.base + n) ∷ [])) s j h a b))

pub begins_split : (p s : List Bool) → begins p s ≡ true → s ≡ p ++ drop (length p) s
unfolding begins
begins_split [] s h = refl
begins_split (a ∷ p) [] h = let z : ◌≡◌ {A = ℕ} 0 1 = cc in absurd {0} (omega arith)
begins_split (true ∷ p) (true ∷ s) h = ap (λ (l : List Bool). true ∷ l) (begins_split p s h)
begins_split (false ∷ p) (false ∷ s) h = ap (λ (l : List Bool). false ∷ l) (begins_split p s h)
begins_split (true ∷ p) (false ∷ s) h = let z : ◌≡◌ {A = ℕ} 0 1 = cc in absurd {0} (omega arith)
begins_split (false ∷ p) (true ∷ s) h = let z : ◌≡◌ {A = ℕ} 0 1 = cc in absurd {0} (omega arith)

begins_flip : (p s : List Bool) (i : ℕ) → i < length p → begins p s ≡ true → begins p (flip_at i s) ≡ true → ⊥
unfolding begins flip_at
begins_flip [] s i h p q = absurd (not-suc-le-zero h)
begins_flip (a ∷ l) [] i h p q = let z : ◌≡◌ {A = ℕ} 0 1 = cc in omega arith
begins_flip (true ∷ l) (true ∷ s) zero h p q = let z : ◌≡◌ {A = ℕ} 0 1 = cc in omega arith
begins_flip (true ∷ l) (false ∷ s) zero h p q = let z : ◌≡◌ {A = ℕ} 0 1 = cc in omega arith
begins_flip (false ∷ l) (true ∷ s) zero h p q = let z : ◌≡◌ {A = ℕ} 0 1 = cc in omega arith
begins_flip (false ∷ l) (false ∷ s) zero h p q = let z : ◌≡◌ {A = ℕ} 0 1 = cc in omega arith
begins_flip (true ∷ l) (true ∷ s) (suc i) h p q = begins_flip l s i (le_of_suc-le-suc h) p q
begins_flip (true ∷ l) (false ∷ s) (suc i) h p q = let z : ◌≡◌ {A = ℕ} 0 1 = cc in omega arith
begins_flip (false ∷ l) (true ∷ s) (suc i) h p q = let z : ◌≡◌ {A = ℕ} 0 1 = cc in omega arith
begins_flip (false ∷ l) (false ∷ s) (suc i) h p q = begins_flip l s i (le_of_suc-le-suc h) p q

-- a stream that reads has a start, and characters behind it
module _ (f : Format) (s : List Bool) (a : List ℕ) (reads : read_one f s ≡ gives a) where
  pub start_there : begins f.start (skip s) ≡ true
  unfolding read_one
  start_there = (passed (begins f.start (skip s)) 8 _ a reads).0

  pub body_there : body f.letters (f.limit - 1) (number (take f.letters.data_bits f.start)) [] (drop (suc f.letters.data_bits) (skip s))
      ≡ gives a
  unfolding read_one
  body_there = (passed (begins f.start (skip s)) 8 _ a reads).1

-- a zero in front of a stream is skipped
pub zero_first : (f : Format) (s : List Bool) → read_one f s ≡ read_one f (false ∷ s)
unfolding read_one skip
zero_first f s = refl

module _ (f : Format) (ok : Proper f) where
  -- of two streams, one with a zero in front of s and the other with a one, not both read
  head_flip : (s : List Bool) (a b : List ℕ) → read_one f (false ∷ s) ≡ gives a → read_one f (true ∷ s) ≡ gives b → ⊥
  unfolding skip begins
  head_flip s a b p q =
      let t : begins (true ∷ ok.tail) (true ∷ s) ≡ true = rw ok.is_start at (start_there f (true ∷ s) b q) in
      let e : s ≡ ok.tail ++ drop (length ok.tail) s = begins_split ok.tail s t in
      let n : begins (true ∷ ok.tail) (skip s) ≡ true = rw ok.is_start at (start_there f (false ∷ s) a p) in
      let m : begins (true ∷ ok.tail) (skip s) ≡ false =
      subst (λ (l : List Bool). begins (true ∷ ok.tail) (skip l) ≡ false) (sym e) (ok.clash (drop (length ok.tail) s)) in
      let z : ◌≡◌ {A = ℕ} 0 1 = cc (sym n ∙ m) in omega arith

  pub stream_flip : (s : List Bool) (i : ℕ) → i < length s → (a b : List ℕ) → read_one f s ≡ gives a → read_one f (flip_at i s) ≡ gives b → ⊥
  unfolding skip flip_at
  stream_flip [] i h a b p q = absurd (not-suc-le-zero h)
  stream_flip (false ∷ s) zero h a b p q = head_flip s a b p q
  stream_flip (true ∷ s) zero h a b p q = head_flip s b a q p
  stream_flip (false ∷ s) (suc i) h a b p q = stream_flip s i (le_of_suc-le-suc h) a b (zero_first f s ∙ p) (zero_first f (flip_at i s) ∙ q)
  stream_flip (true ∷ s) (suc i) h a b p q =
      ⊎_elim
      (λ k. begins_flip f.start (true ∷ s) (suc i) (rw ok.is_start (rw ok.long k)) (start_there f (true ∷ s) a p)
      (start_there f (flip_at (suc i) (true ∷ s)) b q))
      (λ je. body_flip f.letters (f.limit - 1) (number (take f.letters.data_bits f.start)) [] (drop (suc f.letters.data_bits) (true ∷ s)) je.0
      (rw length-drop (omega (arith, je.1))) a b
      (body_there f (true ∷ s) a p)
      (subst (λ (l : List Bool). body f.letters (f.limit - 1) (number (take f.letters.data_bits f.start)) [] l ≡ gives b)
      (ap (λ (m : ℕ). drop (suc f.letters.data_bits) (flip_at m (true ∷ s))) je.1 ∙ drop_late (suc f.letters.data_bits) je.0 (true ∷ s))
      (body_there f (flip_at (suc i) (true ∷ s)) b q)))
      (where_is (suc f.letters.data_bits) (suc i))
