-- A record that is cut from a script asks for what stands in the script at its place.
use Rattle.std.proofs.Common.{ℕ, zero, suc, min, ◌+◌, ◌*◌, ◌<◌, ◌≤◌, ◌≡◌, cond, eqb, List, get_or, take, drop, refl, ap, ◌∙◌, arith, length}
use lib.Seq.{drop-drop, get_or-take, get_or-drop}
use Rattle.std.proofs.lemmas.List.{take-take, drop-take}
use Rattle.std.specs.Simd.{first_chunks}
use Rattle.text.specs.Numbers.{u16_at, u32_at}
use Rattle.layout.specs.declared.Track.{Track}
use Rattle.layout.specs.declared.Track.TheVariants.{Two, One}
use Rattle.dates.specs.Dates.{date}
use Rattle.payer.specs.Payer.{Terms, given}
use Rattle.history.specs.History.{book, swipe, release, aside}
use Rattle.plays.specs.Script.{kind_at, pan_at, clock_at, serial_at, date_at, swipe_at, call_at}

-- the 128 bytes at a place
abbrev pub cut_of : List ℕ → ℕ → List ℕ
cut_of s at = take 128 (drop at s)

-- the records of a script are cut one after another
pub chunk_at : (n : ℕ) (s : List ℕ) (i : ℕ) (d : List ℕ) → i < n → get_or (first_chunks 128 n s) i d ≡ cut_of s (128 * i)
chunk_at zero s i d h = absurd (omega arith)
chunk_at (suc n) s zero d h = refl
chunk_at (suc n) s (suc i) d h =
    let e : 128 + 128 * i ≡ 128 * suc i = omega arith in
    chunk_at n (drop 128 s) i d (omega arith) ∙ ap (λ (x : List ℕ). take 128 x) (drop-drop (128 * i) 128 s ∙ ap (λ (m : ℕ). drop m s) e)

pub chunks_length : (n : ℕ) (s : List ℕ) → length (first_chunks 128 n s) ≡ n
chunks_length zero s = refl
chunks_length (suc n) s = ap suc (chunks_length n (drop 128 s))

module _ (s : List ℕ) (at : ℕ) where
  abbrev r : List ℕ
  r = cut_of s at

  pub byte_of : (o : ℕ) → o < 128 → get_or r o 0 ≡ get_or s (at + o) 0
  byte_of o h = get_or-take 128 (drop at s) o 0 h ∙ get_or-drop at s o 0

  next : (o i : ℕ) → o + i < 128 → get_or r (o + i) 0 ≡ get_or s (at + o + i) 0
  next o i h = byte_of (o + i) h ∙ ap (λ (x : ℕ). get_or s x 0) (omega arith)

  half_of : (o : ℕ) → o + 2 ≤ 128 → u16_at r o ≡ u16_at s (at + o)
  unfolding u16_at
  half_of o h = omega (arith, byte_of o (omega arith), next o 1 (omega arith))

  pub word_of : (o : ℕ) → o + 4 ≤ 128 → u32_at r o ≡ u32_at s (at + o)
  unfolding u32_at
  word_of o h = omega (arith, byte_of o (omega arith), next o 1 (omega arith), next o 2 (omega arith), next o 3 (omega arith))

  part_of : (n : ℕ) → n ≤ 108 → take n (drop 20 r) ≡ take n (drop (at + 20) s)
  part_of n h =
      ap (take n) (drop-take 20 108 (drop at s) ∙ ap (take 108) (drop-drop 20 at s)) ∙ take-take n 108 (drop (at + 20) s) h

  -- its fields
  pub kind_same : kind_at r 0 ≡ kind_at s at
  kind_same = byte_of 0 (omega arith) ∙ ap (λ (x : ℕ). get_or s x 0) (omega arith)

  pan_same : pan_at r 0 ≡ pan_at s at
  pan_same =
      part_of (min (get_or r 1 0) 108) (omega arith)
      ∙ ap (λ (n : ℕ). take (min n 108) (drop (at + 20) s)) (byte_of 1 (omega arith))

  pub clock_same : clock_at r 0 ≡ clock_at s at
  clock_same = word_of 8 (omega arith)

  pub serial_same : serial_at r 0 ≡ serial_at s at
  serial_same = word_of 12 (omega arith)

  date_same : date_at r 0 ≡ date_at s at
  date_same = λ i. date (half_of 12 (omega arith) i) (byte_of 14 (omega arith) i) (byte_of 15 (omega arith) i)

  swipe_same : (k : Track) (terms : Terms) (t : List ℕ) → swipe_at k r terms t 0 ≡ swipe_at k s terms t at
  swipe_same k terms t = λ i.
      swipe (given k (part_of 108 (omega arith) i) (word_of 16 (omega arith) i) terms (date_same i)) (word_of 4 (omega arith) i) t

  -- so it is the same call
  pub call_same : (terms : Terms) (t : List ℕ) → call_at r terms t 0 ≡ call_at s terms t at
  unfolding call_at
  call_same terms t = λ i.
      cond (eqb (kind_same i) 1) (book (pan_same i) (half_of 2 (omega arith) i) (word_of 4 (omega arith) i))
      (cond (eqb (kind_same i) 2) (release (serial_same i))
      (cond (eqb (kind_same i) 3) (swipe_same Two terms t i)
      (cond (eqb (kind_same i) 4) (swipe_same One terms t i)
      aside)))
