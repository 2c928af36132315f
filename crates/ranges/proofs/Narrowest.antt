-- The best of a table's records: what it is, and what a search for it keeps.
use Prim.Native.Nat.{ℕ, zero, suc, ◌+◌, ◌*◌, ◌/◌, ◌%◌, ◌<◌, ◌≤◌}
use mathlib.Core.Path.{◌≡◌, refl, sym, ◌∙◌, subst}
use mathlib.Core.Bool.{Bool, true, false, true≢false}
use mathlib.Core.List.{List}
use Rattle.std.specs.Prelude.{Option, Some, None}
use native.Mathlib.Omega.{arith}
use native.Mathlib.Decide.{dec_lt}
use borrow.Author.Tests.{lt-ltb, le-ltb}
use lib.ListN.{length}
use Rattle.ranges.specs.Ranges.{fits, width, better, best_of, choice}

-- of a table's first m records the one at a fits, no fitting one is narrower, and the fitting ones before it are wider
pub record NarrowestOf (t : List ℕ) (p n m a : ℕ) : Type 0 where
  pub inside : a + 16 ≤ 16 * m
  pub whole : a % 16 ≡ 0
  pub fit : fits t a p n ≡ true
  pub narrowest : (k : ℕ) → k < m → fits t (16 * k) p n ≡ true → width t a ≤ width t (16 * k)
  pub earlier : (k : ℕ) → 16 * k < a → fits t (16 * k) p n ≡ true → width t a < width t (16 * k)

-- none of them fits
abbrev pub NoneOf : List ℕ → ℕ → ℕ → ℕ → Type 0
NoneOf t p n m = (k : ℕ) → k < m → fits t (16 * k) p n ≡ false

-- "the fitting record with the smallest high less low; of equals, the earlier", of all records of the table
abbrev pub IsNarrowest : List ℕ → ℕ → ℕ → ℕ → Type 0
IsNarrowest t p n a = NarrowestOf t p n (length t / 16) a

-- no record of the table fits
abbrev pub NoneFits : List ℕ → ℕ → ℕ → Type 0
NoneFits t p n = NoneOf t p n (length t / 16)

-- what a choice among the first m records says
data Best (t : List ℕ) (p n m : ℕ) : Option ℕ → Type 0 where
  no_record : NoneOf t p n m → Best t p n m None
  record_at_lem : {a : ℕ} → NarrowestOf t p n m a → Best t p n m (Some a)

-- what holds of the first m and of the next holds of one more
with_next : (P : ℕ → Type 0) (m : ℕ) → ((k : ℕ) → k < m → P k) → P m → (k : ℕ) → k < suc m → P k
with_next P m g h k l = by (dec_lt k m)
  where
    by : Dec (k < m) → P k
    by (yes q) = g k q
    by (no q) = let e : m ≡ k = omega arith in subst P e h

module _ (t : List ℕ) (p n : ℕ) where
  -- a record doesn't both fit and not
  pub both_ways : {A : Type 0} (at : ℕ) → fits t at p n ≡ true → fits t at p n ≡ false → A
  both_ways at f g = absurd (true≢false (sym f ∙ g))

  -- the record at 16 * k is at least w wide if it fits
  abbrev AtLeast : ℕ → ℕ → Type 0
  AtLeast w k = fits t (16 * k) p n ≡ true → w ≤ width t (16 * k)

  -- one record more: the best so far stays the best,
  stays : (m a : ℕ) → NarrowestOf t p n m a → AtLeast (width t a) m → NarrowestOf t p n (suc m) a
  stays m a r h =
      record {
        inside = omega (arith, r.inside);
        whole = r.whole;
        fit = r.fit;
        narrowest = with_next (AtLeast (width t a)) m r.narrowest h;
        earlier = r.earlier;
      }

  -- or the new one takes over, the fitting ones before it being wider
  takes_over : (m : ℕ) → fits t (16 * m) p n ≡ true → ((k : ℕ) → k < m → AtLeast (suc (width t (16 * m))) k) → NarrowestOf t p n (suc m) (16 * m)
  takes_over m f g =
      record {
        inside = omega arith;
        whole = omega arith;
        fit = f;
        narrowest = with_next (AtLeast (width t (16 * m))) m (λ k l h. omega (arith, g k l h)) (λ h. omega arith);
        earlier = λ k l h. g k (omega arith) h;
      }

  misses : {o : Option ℕ} (m : ℕ) → Best t p n m o → fits t (16 * m) p n ≡ false → Best t p n (suc m) o
  misses m (no_record g) f = no_record (with_next (λ (k : ℕ). fits t (16 * k) p n ≡ false) m g f)
  misses m (record_at_lem r) f = record_at_lem (stays m _ r (λ h. both_ways (16 * m) h f))

  hits : {o : Option ℕ} (m : ℕ) → Best t p n m o → fits t (16 * m) p n ≡ true → Best t p n (suc m) (better t p n (16 * m) o)
  hits m (no_record g) f = rw f (record_at_lem (takes_over m f (λ k l h. both_ways (16 * k) h (g k l))))
  hits m (record_at_lem {a = a} r) f = by (dec_lt (width t (16 * m)) (width t a))
    where
      by : Dec (width t (16 * m) < width t a) → Best t p n (suc m) (better t p n (16 * m) (Some a))
      by (yes w) = rw (f, lt-ltb _ _ w) (record_at_lem (takes_over m f (λ k l h. omega (arith, r.narrowest k l h))))
      by (no w) =
          let v : width t a ≤ width t (16 * m) = omega arith in
          rw (f, le-ltb _ _ v) (record_at_lem (stays m a r (λ h. v)))

  turn : (m : ℕ) (o : Option ℕ) → Best t p n m o → (b : Bool) → fits t (16 * m) p n ≡ b → Best t p n (suc m) (better t p n (16 * m) o)
  turn m o h true f = hits m h f
  turn m o h false f = rw f (misses m h f)

  -- what the definition chooses among the first m records is the best of them
  best_of_lem : (m : ℕ) → Best t p n m (best_of t p n m)
  unfolding best_of
  best_of_lem zero = no_record (λ k l. absurd (omega arith))
  best_of_lem (suc m) = turn m (best_of t p n m) (best_of_lem m) (fits t (16 * m) p n) refl

  the_one : {m a : ℕ} → Best t p n m (Some a) → NarrowestOf t p n m a
  the_one (record_at_lem r) = r

  the_none : {m : ℕ} → Best t p n m None → NoneOf t p n m
  the_none (no_record g) = g

  -- of the whole table: what is chosen is the narrowest,
  pub chosen_narrowest : (a : ℕ) → choice t p n ≡ Some a → IsNarrowest t p n a
  unfolding choice
  chosen_narrowest a e = the_one (subst (Best t p n (length t / 16)) e (best_of_lem (length t / 16)))

  -- and where nothing is chosen, nothing fits
  pub chosen_none : choice t p n ≡ None → NoneFits t p n
  unfolding choice
  chosen_none e = the_none (subst (Best t p n (length t / 16)) e (best_of_lem (length t / 16)))

-- what a search keeps of the records before its place: where the best of them begins and how wide it is; before there is one, more than
-- any width
pub data Kept (t : List ℕ) (b w : ℕ) : Option ℕ → Type 0 where
  nothing_yet : 4294967296 ≤ w → Kept t b w None
  this_one : w < 4294967296 → w ≡ width t b → Kept t b w (Some b)

-- one turn: the record doesn't fit, is narrower, or isn't
module _ (t : List ℕ) (p n at : ℕ) where
  pub kept_on : {b w : ℕ} {o : Option ℕ} → Kept t b w o → fits t at p n ≡ false → Kept t b w (better t p n at o)
  kept_on h f = rw f h

  pub kept_new : {b w : ℕ} {o : Option ℕ} → Kept t b w o → fits t at p n ≡ true → width t at < 4294967296 → width t at < w
      → Kept t at (width t at) (better t p n at o)
  kept_new (nothing_yet h) f l g = rw f (this_one l refl)
  kept_new (this_one h i) f l g = let v = lt-ltb _ _ (rw i at g) in rw (f, v) (this_one l refl)

  pub kept_old : {b w : ℕ} {o : Option ℕ} → Kept t b w o → fits t at p n ≡ true → width t at < 4294967296 → w ≤ width t at
      → Kept t b w (better t p n at o)
  kept_old (nothing_yet h) f l g = absurd (omega arith)
  kept_old (this_one h i) f l g = let v = le-ltb _ _ (rw i at g) in rw (f, v) (this_one h i)

pub kept_as : {t : List ℕ} {b c w v : ℕ} {o q : Option ℕ} → Kept t b w o → o ≡ q → c ≡ b → v ≡ w → Kept t c v q
kept_as {t} h f g i = rw (g, i, sym f) h

-- what is kept says what is chosen
pub kept_is : {t : List ℕ} {b w : ℕ} {o : Option ℕ} → Kept t b w o → w < 4294967296 → Some b ≡ o
kept_is (nothing_yet h) l = absurd (omega arith)
kept_is (this_one h i) l = refl

pub kept-none : {t : List ℕ} {b w : ℕ} {o : Option ℕ} → Kept t b w o → 4294967296 ≤ w → None ≡ o
kept-none (nothing_yet h) l = refl
kept-none (this_one h i) l = absurd (omega arith)
