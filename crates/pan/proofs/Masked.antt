-- The masked text byte by byte and as it is written.
use Prim.Native.Nat.{ℕ, ◌+◌, ◌-◌, ◌≤◌, ◌<◌}
use mathlib.Core.Path.{◌≡◌, refl, sym, ap, ◌∙◌}
use mathlib.Core.Bool.{true}
use mathlib.Core.List.{List, [], ◌++◌, append_assoc}
use native.Mathlib.Omega.{arith}
use lib.ListN.{length, take, drop, get_or, replicate, length-append, length-drop, length-replicate, get_or-replicate, replicate-append-replicate, get_or-append}
use lib.Seq.{take_at, drop_at, take_all, length-take-le, get_or-take, get_or-drop, get_or-append-add}
use Rattle.text.specs.Numbers.{put}
use Rattle.text.proofs.Tests.{inside_is}
use Rattle.pan.specs.Pan.{pan_length, front_shown, back_shown, front, back, stars, masked}

-- what is shown of a PAN is not more than the whole of it
pub shown-fits : (n : ℕ) → pan_length n ≡ true → front_shown n + back_shown n ≤ n
unfolding front_shown back_shown
shown-fits n h = let w = inside_is 13 19 n h in omega arith

stars-length : (n : ℕ) → length (stars n) ≡ n - front_shown n - back_shown n
stars-length n = length-replicate {A = ℕ} (n - front_shown n - back_shown n) 42

-- what is put over as many bytes stands in their place
put_over : (p q r s : List ℕ) (at : ℕ) → length p ≡ at → length q ≡ length r → put (p ++ (q ++ s)) at r ≡ p ++ (r ++ s)
unfolding put
put_over p q r s at e f =
    rw (take_at p (q ++ s) at e, ← append_assoc p q s, drop_at (p ++ q) s (at + length r) (length-append p q ∙ omega arith)) (append_assoc p r s)

-- a run of stars in three
stars_split : (f h b : ℕ) (s : List ℕ) → replicate (f + h + b) 42 ++ s ≡ replicate f 42 ++ (replicate h 42 ++ (replicate b 42 ++ s))
stars_split f h b s =
    ap (λ (r : List ℕ). r ++ s) (sym (replicate-append-replicate (f + h) b 42))
    ∙ append_assoc (replicate (f + h) 42) (replicate b 42) s
    ∙ ap (λ (r : List ℕ). r ++ (replicate b 42 ++ s)) (sym (replicate-append-replicate f h 42))
    ∙ append_assoc (replicate f 42) (replicate h 42) (replicate b 42 ++ s)

module _ (pan : List ℕ) (h : pan_length (length pan) ≡ true) where
  pub front_length : length (front pan) ≡ front_shown (length pan)
  front_length = length-take-le (front_shown (length pan)) pan (omega (arith, shown-fits (length pan) h))

  pub head_length : length (front pan ++ stars (length pan)) ≡ length pan - back_shown (length pan)
  head_length =
      length-append (front pan) (stars (length pan))
      ∙ omega (arith, front_length, stars-length (length pan), shown-fits (length pan) h)

  back_length : length (back pan) ≡ back_shown (length pan)
  back_length = length-drop (length pan - back_shown (length pan)) pan ∙ omega (arith, shown-fits (length pan) h)

  pub masked_length : length (masked pan) ≡ length pan
  unfolding masked
  masked_length =
      length-append (front pan ++ stars (length pan)) (back pan)
      ∙ omega (arith, head_length, back_length, shown-fits (length pan) h)

  -- the masked text, byte by byte
  pub at_front : (i : ℕ) → i < front_shown (length pan) → get_or (masked pan) i 0 ≡ get_or pan i 0
  unfolding masked
  at_front i l =
      get_or-append (front pan ++ stars (length pan)) (back pan) 0 i (omega (arith, head_length, shown-fits (length pan) h))
      ∙ get_or-append (front pan) (stars (length pan)) 0 i (omega (arith, front_length))
      ∙ get_or-take (front_shown (length pan)) pan i 0 l

  pub at_hidden : (i : ℕ) → front_shown (length pan) ≤ i → i < length pan - back_shown (length pan) → get_or (masked pan) i 0 ≡ 42
  unfolding masked
  at_hidden i l g =
      let e : i ≡ length (front pan) + (i - front_shown (length pan)) = omega (arith, front_length) in
      get_or-append (front pan ++ stars (length pan)) (back pan) 0 i (omega (arith, head_length))
      ∙ ap (λ (k : ℕ). get_or (front pan ++ stars (length pan)) k 0) e
      ∙ get_or-append-add (front pan) (stars (length pan)) (i - front_shown (length pan)) 0
      ∙ get_or-replicate (length pan - front_shown (length pan) - back_shown (length pan)) (i - front_shown (length pan)) 42 0 (omega arith)

  pub at_back : (i : ℕ) → length pan - back_shown (length pan) ≤ i → get_or (masked pan) i 0 ≡ get_or pan i 0
  unfolding masked
  at_back i l =
      let k = i - (length pan - back_shown (length pan)) in
      let e : i ≡ length (front pan ++ stars (length pan)) + k = omega (arith, head_length) in
      let f : length pan - back_shown (length pan) + k ≡ i = omega arith in
      ap (λ (m : ℕ). get_or (front pan ++ stars (length pan) ++ back pan) m 0) e
      ∙ get_or-append-add (front pan ++ stars (length pan)) (back pan) k 0
      ∙ get_or-drop (length pan - back_shown (length pan)) pan k 0
      ∙ ap (λ (m : ℕ). get_or pan m 0) f

  -- the digits shown, written over as many stars as the PAN has digits, make the masked text
  pub shown_over_stars : (out : List ℕ)
      → put (put (replicate (length pan) 42 ++ drop (length pan) out) 0 (front pan)) (length pan - back_shown (length pan)) (back pan) ≡ put out 0 (masked pan)
  unfolding masked put
  shown_over_stars out =
      let n = length pan in
      let f = front_shown n in
      let b = back_shown n in
      let rest = drop n out in
      let end : n ≡ 0 + length (masked pan) = omega (arith, masked_length) in
      let whole : n ≡ f + (n - f - b) + b = omega (arith, shown-fits n h) in
      ap (λ (t : List ℕ). put (put t 0 (front pan)) (n - b) (back pan)) (ap (λ (k : ℕ). replicate k 42 ++ rest) whole ∙ stars_split f (n - f - b) b rest)
      ∙ ap (λ (t : List ℕ). put t (n - b) (back pan))
      (put_over [] (replicate f 42) (front pan) (stars n ++ (replicate b 42 ++ rest)) 0 refl (length-replicate f 42 ∙ sym front_length)
      ∙ sym (append_assoc (front pan) (stars n) (replicate b 42 ++ rest)))
      ∙ put_over (front pan ++ stars n) (replicate b 42) (back pan) rest (n - b) head_length (length-replicate b 42 ∙ sym back_length)
      ∙ sym (append_assoc (front pan ++ stars n) (back pan) rest)
      ∙ ap (λ (k : ℕ). masked pan ++ drop k out) end

  -- so the code leaves it: x once the stars are written, y once the front is, z once the back is
  pub masked_written : (out x y z : List ℕ) (f b : ℕ) → f ≡ front_shown (length pan) → b ≡ back_shown (length pan) → x ≡ replicate (length pan) 42 ++ drop (length pan) out
      → y ≡ put x 0 (take f pan) → z ≡ put y (length pan - b) (take (length pan - (length pan - b)) (drop (length pan - b) pan)) → z ≡ put out 0 (masked pan)
  masked_written out x y z f b ef eb ex ey ez =
      let at = length pan - b in
      ez ∙ rw (take_all (length pan - at) (drop at pan) (omega (arith, length-drop at pan)), ey, ex, ef, eb) (shown_over_stars out)
