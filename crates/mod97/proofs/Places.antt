-- What a change or an exchange of characters at places of a text does to what the moved text leaves.
use Prim.Native.Nat.{ℕ, zero, suc, ◌+◌, ◌*◌, ◌-◌, ◌%◌, ◌<◌, ◌≤◌}
use mathlib.Core.Path.{◌≡◌, refl, sym, ap, ◌∙◌}
use mathlib.Core.List.{List, [], ◌∷◌, ◌++◌}
use mathlib.Core.Logic.{inl, inr, ◌↔◌}
use native.Mathlib.Omega.{arith}
use native.Mathlib.Nat.{not-suc-le-zero, le_of_suc-le-suc, suc-add}
use native.Mathlib.Decide.{dec_lt}
use lib.ListN.{length, get_or, take, drop, set, length-append, length-take, length-drop, length-set, get_or-append}
use lib.Seq.{split_at, set_split, drop-set-lt, take-set-lt, drop-set-add, take-set-le, set-append_left, get_or-append-add, get_or-drop, get_or-take, set_comm}
use Rattle.text.specs.Bytes.{swap}
use Rattle.mod97.specs.Text.{number, decimal_of}
use Rattle.mod97.specs.Pair.{moved, leaves}
use Rattle.mod97.proofs.Finds.{change, exchange, neighbours, neighbours_kept}
use Rattle.mod97.proofs.Numbers.{OneDigit, TwoDigits, Alike}

-- what a text as it stands leaves
rest : List ℕ → ℕ
rest l = decimal_of l % 97

set-append-add : (xs ys : List ℕ) (n v : ℕ) → set (xs ++ ys) (length xs + n) v ≡ xs ++ set ys n v
set-append-add [] ys n v = ap (λ (m : ℕ). set ys m v) (omega arith)
set-append-add (x ∷ xs) ys n v = rw (suc-add (length xs) n) (ap (λ (l : List ℕ). x ∷ l) (set-append-add xs ys n v))

-- where the character at i stands once the first four are moved to the end
record Placed (s : List ℕ) (i : ℕ) : Type 0 where
  at : ℕ
  low : at < length (moved s)
  same : get_or (moved s) at 0 ≡ get_or s i 0
  sets : (t : List ℕ) (v : ℕ) → length t ≡ length s → moved (set t i v) ≡ set (moved t) at v
  which : (i < 4 → at ≡ length s - 4 + i) × (4 ≤ i → at + 4 ≡ i)

early : (s : List ℕ) (i : ℕ) → 4 ≤ length s → i < 4 → Placed s i
early s i l h = record {
  at = length s - 4 + i;
  low = omega (arith, length-append (drop 4 s) (take 4 s), length-drop 4 s, length-take 4 s);
  same = ap (λ (m : ℕ). get_or (moved s) (m + i) 0) (sym (length-drop 4 s)) ∙ get_or-append-add (drop 4 s) (take 4 s) i 0 ∙ get_or-take 4 s i 0 h;
  sets = λ t v e. rw (drop-set-lt 4 t i v h, take-set-lt 4 t i v h) (sym (set-append-add (drop 4 t) (take 4 t) i v) ∙ ap (λ (m : ℕ). set (moved t) (m + i) v) (length-drop 4 t ∙ ap (λ (m : ℕ). m - 4) e));
  which = (λ _. refl, λ k. absurd (omega arith));
}

late : (s : List ℕ) (i : ℕ) → i + 4 < length s → Placed s (4 + i)
late s i l = record {
  at = i;
  low = omega (arith, length-append (drop 4 s) (take 4 s), length-drop 4 s, length-take 4 s);
  same = get_or-append (drop 4 s) (take 4 s) 0 i (omega (arith, length-drop 4 s)) ∙ get_or-drop 4 s i 0;
  sets = λ t v e. rw (drop-set-add 4 t i v, take-set-le 4 t (4 + i) v (omega arith)) (sym (set-append_left (drop 4 t) (take 4 t) i v (omega (arith, length-drop 4 t))));
  which = (λ k. absurd (omega arith), λ _. omega arith);
}

placed : (s : List ℕ) (i : ℕ) → 4 ≤ length s → i < length s → Placed s i
placed s i l h = go (dec_lt i 4)
  where
    go : Dec (i < 4) → Placed s i
    go (yes k) = early s i l k
    go (no k) = let e : 4 + (i - 4) ≡ i = omega arith in rw e at (late s (i - 4) (omega arith))

-- a change at a place of a list
change_set : (l : List ℕ) (j d : ℕ) → j < length l → Alike (get_or l j 0) d → rest l ≡ rest (set l j d) → number (get_or l j 0) ≡ number d
unfolding rest
change_set l j d h k e =
    change 0 (take j l) (drop (suc j) l) (get_or l j 0) d k
    (ap rest (sym (split_at l j 0 h)) ∙ e ∙ ap rest (set_split l j d h))

-- over any text of four characters or more: a change of one character into another of its kind changes the remainder
pub moved_change : (s : List ℕ) (i d : ℕ) → 4 ≤ length s → i < length s → Alike (get_or s i 0) d
    → leaves s ≡ leaves (set s i d) → number (get_or s i 0) ≡ number d
unfolding rest
moved_change s i d b h k e =
    let o = placed s i b h in
    sym (ap number o.same) ∙ change_set (moved s) o.at d o.low (rw o.same k) (e ∙ ap rest (o.sets s d refl))

-- a list cut at two of its places, and the same list with the two exchanged
record Cut (l : List ℕ) (i j : ℕ) : Type 0 where
  x : List ℕ
  y : List ℕ
  z : List ℕ
  whole : l ≡ x ++ get_or l i 0 ∷ (y ++ get_or l j 0 ∷ z)
  other : swap l i j ≡ x ++ get_or l j 0 ∷ (y ++ get_or l i 0 ∷ z)
  between : length y + suc i ≡ j

cut : (l : List ℕ) (i j : ℕ) → i < j → j < length l → Cut l i j
cut [] i j h k = absurd (not-suc-le-zero k)
cut (a ∷ l) zero zero h k = absurd (not-suc-le-zero h)
cut (a ∷ l) zero (suc j) h k = record {
  x = [];
  y = take j l;
  z = drop (suc j) l;
  whole = ap (λ (m : List ℕ). a ∷ m) (split_at l j 0 (le_of_suc-le-suc k));
  other = ap (λ (m : List ℕ). get_or l j 0 ∷ m) (set_split l j a (le_of_suc-le-suc k));
  between = omega (arith, length-take j l);
}
cut (a ∷ l) (suc i) zero h k = absurd (not-suc-le-zero h)
cut (a ∷ l) (suc i) (suc j) h k =
    let r = cut l i j (le_of_suc-le-suc h) (le_of_suc-le-suc k) in
    record {
      x = a ∷ r.x;
      y = r.y;
      z = r.z;
      whole = ap (λ (m : List ℕ). a ∷ m) r.whole;
      other = ap (λ (m : List ℕ). a ∷ m) r.other;
      between = omega (arith, r.between);
    }

exchange_set : (l : List ℕ) (i j : ℕ) → i < j → j < length l → length l < 48 → Alike (get_or l i 0) (get_or l j 0)
    → rest l ≡ rest (swap l i j) → number (get_or l i 0) ≡ number (get_or l j 0)
unfolding rest
exchange_set l i j h k m s e =
    let r = cut l i j h k in
    exchange 0 r.x r.y r.z (get_or l i 0) (get_or l j 0) s (omega (arith, r.between))
    (ap rest (sym r.whole) ∙ e ∙ ap rest r.other)

-- exchanging two characters exchanges them in the moved text
moved-swap : (s : List ℕ) (i j : ℕ) (p : Placed s i) (q : Placed s j) → moved (swap s i j) ≡ swap (moved s) p.at q.at
moved-swap s i j p q =
    q.sets (set s i (get_or s j 0)) (get_or s i 0) (length-set s i (get_or s j 0))
    ∙ ap (λ (l : List ℕ). set l q.at (get_or s i 0)) (p.sets s (get_or s j 0) refl)
    ∙ rw (p.same, q.same)

turned : (c d : ℕ) → Alike c d → Alike d c
turned c d (inl (h, k)) = inl (k, h)
turned c d (inr (h, k)) = inr (k, h)

-- over any text of 4 to 47 characters: an exchange of two different characters of one kind changes the remainder
pub moved_exchange : (s : List ℕ) (i j : ℕ) → 4 ≤ length s → length s < 48 → i < length s → j < length s → Alike (get_or s i 0) (get_or s j 0)
    → leaves s ≡ leaves (swap s i j) → number (get_or s i 0) ≡ number (get_or s j 0)
unfolding rest
moved_exchange s i j n m hi hj k q = go (dec_lt a.at b.at) (dec_lt b.at a.at)
  where
    a : Placed s i
    a = placed s i n hi

    b : Placed s j
    b = placed s j n hj

    small : length (moved s) < 48
    small = omega (arith, length-append (drop 4 s) (take 4 s), length-drop 4 s, length-take 4 s)

    e : rest (moved s) ≡ rest (swap (moved s) a.at b.at)
    e = q ∙ ap rest (moved-swap s i j a b)

    go : Dec (a.at < b.at) → Dec (b.at < a.at) → number (get_or s i 0) ≡ number (get_or s j 0)
    go (yes l) o = sym (ap number a.same) ∙ exchange_set (moved s) a.at b.at l b.low small (rw (a.same, b.same) k) e ∙ ap number b.same
    go (no l) (yes o) =
        sym (ap number a.same)
        ∙ sym (exchange_set (moved s) b.at a.at o a.low small (rw (a.same, b.same) (turned (get_or s i 0) (get_or s j 0) k))
        (e ∙ ap rest (set_comm (moved s) a.at b.at (get_or (moved s) b.at 0) (get_or (moved s) a.at 0) (λ w. omega arith))))
        ∙ ap number b.same
    go (no l) (no o) = ap number (sym a.same ∙ ap (λ (x : ℕ). get_or (moved s) x 0) (omega arith) ∙ b.same)

nothing : (y : List ℕ) → length y ≡ 0 → y ≡ []
nothing [] h = refl
nothing (a ∷ y) h = absurd (omega arith)

-- a list cut at two neighbours
record Near (l : List ℕ) (i : ℕ) : Type 0 where
  x : List ℕ
  z : List ℕ
  whole : l ≡ x ++ get_or l i 0 ∷ get_or l (suc i) 0 ∷ z
  other : swap l i (suc i) ≡ x ++ get_or l (suc i) 0 ∷ get_or l i 0 ∷ z

near : (l : List ℕ) (i : ℕ) → suc i < length l → Near l i
near l i h =
    let r = cut l i (suc i) (omega arith) h in
    let e : r.y ≡ [] = nothing r.y (omega (arith, r.between)) in
    record { x = r.x; z = r.z; whole = rw e at r.whole; other = rw e at r.other }

-- two neighbours after the fourth character are neighbours in the moved text
record Beside (s : List ℕ) (i : ℕ) : Type 0 where
  x : List ℕ
  z : List ℕ
  whole : moved s ≡ x ++ get_or s i 0 ∷ get_or s (suc i) 0 ∷ z
  other : moved (swap s i (suc i)) ≡ x ++ get_or s (suc i) 0 ∷ get_or s i 0 ∷ z

beside : (s : List ℕ) (i : ℕ) → 4 ≤ i → suc i < length s → Beside s i
beside s i h k =
    let a = placed s i (omega arith) (omega arith) in
    let b = placed s (suc i) (omega arith) k in
    let e : b.at ≡ suc a.at = omega (arith, a.which.1 h, b.which.1 (omega arith)) in
    let r = near (moved s) a.at (omega (arith, b.low)) in
    let v : get_or (moved s) (suc a.at) 0 ≡ get_or s (suc i) 0 = ap (λ (m : ℕ). get_or (moved s) m 0) (sym e) ∙ b.same in
    record {
      x = r.x;
      z = r.z;
      whole = r.whole ∙ rw (a.same, v);
      other = moved-swap s i (suc i) a b ∙ ap (λ (m : ℕ). swap (moved s) a.at m) e ∙ r.other ∙ rw (a.same, v);
    }

-- neighbours of two digits and of one behind the fourth character: exchanged, they leave the remainder exactly where the one number is
-- eleven times the other
pub moved_two_one : (s : List ℕ) (i : ℕ) → 4 ≤ i → suc i < length s → TwoDigits (get_or s i 0) → OneDigit (get_or s (suc i) 0)
    → (leaves s ≡ leaves (swap s i (suc i))) ↔ (number (get_or s i 0) ≡ 11 * number (get_or s (suc i) 0))
unfolding rest
moved_two_one s i h k hc hd =
    let b = beside s i h k in (
      λ e. neighbours 0 b.x b.z (get_or s i 0) (get_or s (suc i) 0) hc hd (sym (ap rest b.whole) ∙ e ∙ ap rest b.other),
      λ w. ap rest b.whole ∙ neighbours_kept 0 b.x b.z (get_or s i 0) (get_or s (suc i) 0) hc hd w ∙ sym (ap rest b.other),
    )

pub moved_one_two : (s : List ℕ) (i : ℕ) → 4 ≤ i → suc i < length s → OneDigit (get_or s i 0) → TwoDigits (get_or s (suc i) 0)
    → (leaves s ≡ leaves (swap s i (suc i))) ↔ (number (get_or s (suc i) 0) ≡ 11 * number (get_or s i 0))
unfolding rest
moved_one_two s i h k hd hc =
    let b = beside s i h k in (
      λ e. neighbours 0 b.x b.z (get_or s (suc i) 0) (get_or s i 0) hc hd (sym (ap rest b.other) ∙ sym e ∙ ap rest b.whole),
      λ w. ap rest b.whole ∙ sym (neighbours_kept 0 b.x b.z (get_or s (suc i) 0) (get_or s i 0) hc hd w) ∙ sym (ap rest b.other),
    )
