-- What a booking does to the list of held records: it puts one at its end.
use Prim.Native.Nat.{ℕ, ◌≤◌, ◌<◌, ◌+◌, ◌-◌, ◌*◌, ◌%◌}
use mathlib.Core.Path.{◌≡◌, sym, ap, ◌∙◌, subst}
use mathlib.Core.Bool.{true, false}
use mathlib.Core.List.{List, [], ◌∷◌, ◌++◌}
use native.Mathlib.Omega.{arith}
use native.Mathlib.Decide.{dec_le, dec_lt}
use native.Mathlib.Nat.{mod-eq-sub-mod}
use lib.ListN.{length, get_or, take, drop, length-drop}
use lib.Seq.{length-take-le, get_or-take, get_or-drop, ext_get_or}
use Rattle.text.specs.Numbers.{put}
use Rattle.pan.specs.Pan.{pan_length}
use Rattle.slots.proofs.Records.{record_long, record_held}
use Rattle.slots.specs.Record.{record32, is_held, state_at}
use Rattle.slots.specs.Journal.{place, state_of, Formed}
use Rattle.text.proofs.Put.{put_in, put_before, put_after, length_put}
use Rattle.slots.proofs.Ring.{place_apart, place_in}
use Rattle.held.specs.Held.{record_at, held_after}
use Rattle.journal.specs.Rules.{held_slots}
use Rattle.held.proofs.Lists.{held_append, held_same, held_none, held_single}
use Rattle.journal.proofs.Full.{next_full}

-- the bytes that were put there
part_put : (j vs : List ℕ) (at : ℕ) → at + length vs ≤ length j → take (length vs) (drop at (put j at vs)) ≡ vs
part_put j vs at h =
    let el : length (take (length vs) (drop at (put j at vs))) ≡ length vs = length-take-le (length vs) (drop at (put j at vs)) (omega (arith, length-drop at (put j at vs), length_put j vs at h)) in
    ext_get_or 0 (take (length vs) (drop at (put j at vs))) vs el (λ i l. one i (omega (arith, el)))
  where
    one : (i : ℕ) → i < length vs → get_or (take (length vs) (drop at (put j at vs))) i 0 ≡ get_or vs i 0
    one i l = get_or-take (length vs) (drop at (put j at vs)) i 0 l ∙ get_or-drop at (put j at vs) i 0 ∙ put_in j vs at h i l

module _ (j : List ℕ) (n b clock amount label : ℕ) (pan : List ℕ) (f : Formed j n b) (long : pan_length (length pan) ≡ true) where
  abbrev pub rec : List ℕ
  rec = record32 (b + 1) clock amount label pan

  abbrev pub after : List ℕ
  after = put j (place n (b + 1)) (record32 (b + 1) clock amount label pan)

  pub fits : place n (b + 1) + length rec ≤ length j
  fits = omega (arith, place_in n (b + 1) f.least, record_long (b + 1) clock amount label pan long, f.size)

  pub after_length : length after ≡ length j
  after_length = length_put j rec (place n (b + 1)) fits

  -- an older serial that is still kept keeps its bytes
  pub after_kept : (s i : ℕ) → b + 1 - n < s → s ≤ b → i < 32 → get_or after (place n s + i) 0 ≡ get_or j (place n s + i) 0
  after_kept s i l h k = go (dec_lt (place n s) (place n (b + 1)))
    where
      apart : place n s ≡ place n (b + 1) → ⊥
      apart e = place_apart n s (b + 1) (omega arith) (omega arith) (omega arith) e

      go : Dec (place n s < place n (b + 1)) → get_or after (place n s + i) 0 ≡ get_or j (place n s + i) 0
      go (yes q) = put_before j rec (place n (b + 1)) fits (place n s + i) (omega arith)
      go (no q) =
          let w : place n s ≡ place n (b + 1) → ⊥ = apart in
          put_after j rec (place n (b + 1)) fits (place n s + i) (omega (arith, record_long (b + 1) clock amount label pan long, past (no_lt q)))
        where
          no_lt : (place n s < place n (b + 1) → ⊥) → place n (b + 1) ≤ place n s
          no_lt q = omega arith

          past : place n (b + 1) ≤ place n s → place n (b + 1) + 32 ≤ place n s
          past a = far (dec_le ((s - 1) % n) ((b + 1 - 1) % n))
            where
              far : Dec ((s - 1) % n ≤ (b + 1 - 1) % n) → place n (b + 1) + 32 ≤ place n s
              far (yes y) = absurd (apart (omega arith))
              far (no y) = omega arith

  pub after_state : state_of after n (b + 1) ≡ state_at rec 0
  after_state = put_in j rec (place n (b + 1)) fits 15 (omega (arith, record_long (b + 1) clock amount label pan long))

  pub after_record : record_at after n (b + 1) ≡ rec
  unfolding record_at
  after_record = ap (λ (m : ℕ). take m (drop (place n (b + 1)) after)) (sym (record_long (b + 1) clock amount label pan long)) ∙ part_put j rec (place n (b + 1)) fits

  -- where a slot is not held, the oldest kept serial that makes way is not
  module _ (room : held_slots j n ≡ false) where
    makes_way : n ≤ b → is_held (state_of j n (b - n + 1)) ≡ false
    makes_way h =
        let e : b - n + 1 - 1 ≡ b - n = omega arith in
        ap (λ (m : ℕ). is_held (state_at j (32 * (m % n)))) e ∙ ap (λ (m : ℕ). is_held (state_at j (32 * m))) (sym (mod-eq-sub-mod h)) ∙ next_full j n b f ∙ room

    same_held : held_after j n (b - n) (b - (b - n)) ≡ held_after j n (b + 1 - n) (b - (b + 1 - n))
    same_held = go (dec_le n b)
      where
        go : Dec (n ≤ b) → held_after j n (b - n) (b - (b - n)) ≡ held_after j n (b + 1 - n) (b - (b + 1 - n))
        go (yes h) =
            let l = f.least in
            let e : b - (b - n) ≡ 1 + (b - (b + 1 - n)) = omega arith in
            let q : b - n + 1 ≡ b + 1 - n = omega arith in
            let z : held_after j n (b - n) 1 ≡ [] = held_none j n (b - n) 1 (λ s x y. let w : b - n + 1 ≡ s = omega arith in subst (λ (m : ℕ). is_held (state_of j n m) ≡ false) w (makes_way h)) in
            ap (held_after j n (b - n)) e ∙ held_append j n (b - n) 1 (b - (b + 1 - n))
            ∙ ap (λ (l : List (List ℕ)). l ++ held_after j n (b - n + 1) (b - (b + 1 - n))) z
            ∙ ap (λ (x : ℕ). held_after j n x (b - (b + 1 - n))) q
        go (no h) =
            let e : b - n ≡ b + 1 - n = omega arith in
            ap (λ (x : ℕ). held_after j n x (b - x)) e

    -- the held records after booking are those before, and the new one last
    pub book_held : held_after after n (b + 1 - n) (b + 1 - (b + 1 - n)) ≡ held_after j n (b - n) (b - (b - n)) ++ (rec ∷ [])
    book_held =
        let l = f.least in
        let e : b + 1 - (b + 1 - n) ≡ b - (b + 1 - n) + 1 = omega arith in
        let q : b + 1 - n + (b - (b + 1 - n)) ≡ b = omega arith in
        let old : held_after after n (b + 1 - n) (b - (b + 1 - n)) ≡ held_after j n (b - n) (b - (b - n)) =
        held_same j after n (b + 1 - n) (b - (b + 1 - n)) after_length (λ s i x y z. after_kept s i x (omega arith) z) ∙ sym same_held in
        let new : held_after after n b 1 ≡ rec ∷ [] =
        held_single after n b (ap is_held after_state ∙ record_held (b + 1) clock amount label pan) ∙ ap (λ (r : List ℕ). r ∷ []) after_record in
        ap (held_after after n (b + 1 - n)) e ∙ held_append after n (b + 1 - n) (b - (b + 1 - n)) 1
        ∙ ap (λ (x : ℕ). held_after after n (b + 1 - n) (b - (b + 1 - n)) ++ held_after after n x 1) q
        ∙ (λ i. old i ++ new i)
