-- The account read as demand 3, points 1 to 3: from an all-zero journal.
use Prim.Native.Nat.{ℕ, zero, suc, max, ◌≤◌, ◌<◌, ◌+◌, ◌-◌, ◌*◌}
use mathlib.Core.Path.{◌≡◌, refl, sym, ap, ◌∙◌, subst}
use mathlib.Core.Bool.{Bool, true, false, cond, ◌&&◌}
use mathlib.Core.List.{List, [], ◌∷◌, ◌++◌, map}
use native.Mathlib.Omega.{arith}
use native.Mathlib.Decide.{dec_le}
use native.Mathlib.Nat.{add_comm}
use lib.Dec.{ltb}
use lib.ListN.{length, take, drop, replicate, length-append, length-map, length-replicate, get_or-replicate}
use lib.Seq.{take-append_seam, drop-append_seam, length-take-le}
use borrow.Author.Tests.{lt-ltb, le-ltb}
use Rattle.text.specs.Bytes.{within}
use Rattle.text.proofs.Tests.{under, inside, inside_is}
use Rattle.slots.specs.Record.{is_held}
use Rattle.slots.specs.Journal.{slots_of, state_of}
use Rattle.slots.proofs.Records.{amount_of_lem}
use Rattle.held.specs.Held.{low_of, held_after, held_list, sum_of}
use Rattle.held.specs.Rules.{held_in}
use Rattle.held.proofs.Lists.{held_append, held_at_most, sum-append}
use Rattle.history.specs.History.{Payment, record_of, takings, Done, Run, booked, highest, freed_count, freed_sum, Demand3}
use Rattle.history.proofs.Account.{Smalls, Account, Open, closes, up_count, account}

-- ---- lists

map-take : {A B : Type 0} (f : A → B) (n : ℕ) (l : List A) → take n (map f l) ≡ map f (take n l)
map-take f zero l = refl
map-take f (suc n) [] = refl
map-take f (suc n) (x ∷ l) = ap (λ r. f x ∷ r) (map-take f n l)

map-drop : {A B : Type 0} (f : A → B) (n : ℕ) (l : List A) → drop n (map f l) ≡ map f (drop n l)
map-drop f zero l = refl
map-drop f (suc n) [] = refl
map-drop f (suc n) (x ∷ l) = map-drop f n l

smalls_take : (n : ℕ) (ps : List Payment) → Smalls ps → Smalls (take n ps)
smalls_take zero ps s = tt
smalls_take (suc n) [] s = tt
smalls_take (suc n) (p ∷ ps) s = (s.0, smalls_take n ps s.1)

-- what the records of payments come to
pub sum_records : (ps : List Payment) → Smalls ps → sum_of (map record_of ps) ≡ takings ps
unfolding sum_of takings
sum_records [] s = refl
sum_records (p ∷ ps) s = λ i. amount_of_lem p.serial p.clock p.amount p.label p.pan s.0 i + sum_records ps s.1 i

-- ---- a kept serial is held exactly when it lies above those released

module _ (j : List ℕ) (b top s : ℕ) (o : Open j b top) where
  -- its record adds one to those held up to it, or none
  one_more : low_of j b < s → s ≤ b → s - top ≡ s - 1 - top + cond (is_held (state_of j (slots_of j) s)) 1 0
  unfolding held_after
  one_more l h =
      let n : ℕ = slots_of j in
      let low : ℕ = low_of j b in
      let e : s - low ≡ s - 1 - low + 1 = omega arith in
      let f : low + (s - 1 - low) ≡ s - 1 = omega arith in
      let g : s - 1 + 1 ≡ s = omega arith in
      let q : length (held_after j n (s - 1) 1) ≡ cond (is_held (state_of j n s)) 1 0 = single _ (is_held (state_of j n (s - 1 + 1))) ∙ ap (λ (x : ℕ). cond (is_held (state_of j n x)) 1 0) g in
      sym (up_count j b s top o.formed h o.above)
      ∙ ap (λ (m : ℕ). length (held_after j n low m)) e ∙ ap length (held_append j n low (s - 1 - low) 1)
      ∙ length-append (held_after j n low (s - 1 - low)) (held_after j n (low + (s - 1 - low)) 1)
      ∙ ap (λ (m : ℕ). length (held_after j n low (s - 1 - low)) + length (held_after j n m 1)) f
      ∙ (λ i. up_count j b (s - 1) top o.formed (omega arith) o.above i + q i)
    where
      single : (r : List ℕ) (t : Bool) → length (cond t (r ∷ []) []) ≡ cond t 1 0
      single r true = refl
      single r false = refl

  pub held_above : 1 ≤ s → s ≤ b → held_in j b s ≡ ltb top s
  unfolding held_in
  held_above l h = go (dec_le s (low_of j b))
    where
      tell : (t : Bool) → s - top ≡ s - 1 - top + cond t 1 0 → t ≡ ltb top s
      tell true e = sym (lt-ltb top s (omega arith))
      tell false e = sym (le-ltb top s (omega arith))

      go : Dec (s ≤ low_of j b) → (within (low_of j b + 1) b s && is_held (state_of j (slots_of j) s)) ≡ ltb top s
      go (yes q) =
          let a = o.above in
          let most = held_at_most j (slots_of j) (low_of j b) (b - low_of j b) in
          ap (λ (t : Bool). t && is_held (state_of j (slots_of j) s)) (under (low_of j b + 1) b s (omega arith)) ∙ sym (le-ltb top s (omega arith))
      go (no q) =
          ap (λ (t : Bool). t && is_held (state_of j (slots_of j) s)) (inside (low_of j b + 1) b s (omega arith) h) ∙ tell (is_held (state_of j (slots_of j) s)) (one_more (omega arith) h)

-- ---- an all-zero journal

none_held : (j : List ℕ) → held_list j 0 ≡ []
unfolding held_after
none_held j =
    let z : 0 - slots_of j ≡ 0 = omega arith in
    ap (λ (m : ℕ). held_after j (slots_of j) m (0 - m)) z

pub zeros_open : (n : ℕ) → 1 ≤ n → n ≤ 2048 → Open (replicate (32 * n) 0) 0 0
zeros_open n l h =
    let e : length {A = ℕ} (replicate (32 * n) 0) ≡ 32 * n = length-replicate (32 * n) 0 in
    record {
      formed = record {
        size = omega arith;
        least = omega arith;
        most = omega arith;
        stands = λ s a b. absurd (omega arith);
        rest = λ i a b. get_or-replicate (32 * n) i 0 0 (omega arith);
        order = λ s t a b. absurd (omega arith);
      };
      fits = omega arith;
      above = ap (λ (r : List (List ℕ)). length r + 0) (none_held (replicate (32 * n) 0));
    }

-- ---- what the account of calls from there says

read : (j : List ℕ) (ds : List Done) (k : List ℕ) → held_list j 0 ≡ [] → Account j 0 0 (booked ds) (highest ds) (freed_count ds) (freed_sum ds) k → Demand3 ds k
read j ds k none a =
    let ps : List Payment = booked ds in
    let top : ℕ = highest ds in
    let n : 0 + length ps ≡ length ps = omega arith in
    let m : max 0 top ≡ top = omega arith in
    let o : Open k (length ps) top = subst (λ (x : ℕ). Open k (length ps) x) m (subst (λ (c : ℕ). Open k c (max 0 top)) n (closes a)) in
    let held : List (List ℕ) = held_list k (length ps) in
    let whole : a.gone ++ held ≡ map record_of ps =
    ap (λ (c : ℕ). a.gone ++ held_list k c) (sym n) ∙ a.whole ∙ ap (λ (r : List (List ℕ)). r ++ map record_of ps) none in
    let long : length a.gone + length held ≡ length ps = sym (length-append a.gone held) ∙ ap length whole ∙ length-map ps record_of in
    let up : length held + top ≡ length ps = o.above in
    let lg : length a.gone ≡ top = omega arith in
    let front : a.gone ≡ map record_of (take top ps) =
    sym (take-append_seam a.gone held) ∙ ap (λ (x : ℕ). take x (a.gone ++ held)) lg ∙ ap (take top) whole ∙ map-take record_of top ps in
    let back : held ≡ map record_of (drop top ps) =
    sym (drop-append_seam a.gone held) ∙ ap (λ (x : ℕ). drop x (a.gone ++ held)) lg ∙ ap (drop top) whole ∙ map-drop record_of top ps in
    record {
      amounts = sym (sum_records ps a.small) ∙ ap sum_of (sym whole) ∙ sum-append a.gone held ∙ add_comm (sum_of a.gone) (sum_of held) ∙ ap (λ (x : ℕ). sum_of held + x) (sym a.summed);
      summed = a.summed ∙ ap sum_of front ∙ sum_records (take top ps) (smalls_take top ps a.small);
      counted = a.counted ∙ lg ∙ sym (length-take-le top ps (omega arith));
      held = back;
      serials = a.serials;
      formed = o.formed;
      reach = omega arith;
      either = λ s h. let r = inside_is 1 (length ps) s h in held_above k (length ps) top s o r.0 r.1;
    }

pub from_zeros : (n : ℕ) → 1 ≤ n → n ≤ 2048 → (ds : List Done) (k : List ℕ) → Run (replicate (32 * n) 0) ds k → Demand3 ds k
from_zeros n l h ds k r = read (replicate (32 * n) 0) ds k (none_held (replicate (32 * n) 0)) (account 0 0 (zeros_open n l h) r)
