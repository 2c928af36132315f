-- What the promises of book and release say of the held list: the laws that a history of calls cites.
use Rattle.std.proofs.Common.{Some, Err}
use Prim.Native.Nat.{ℕ, ◌≤◌, ◌<◌, ◌+◌, ◌-◌, ◌/◌}
use mathlib.Core.Path.{◌≡◌, refl, sym, ap, ◌∙◌, subst, subst⁻¹}
use mathlib.Core.Bool.{false, not}
use mathlib.Core.List.{List, [], ◌∷◌, ◌++◌}
use native.Mathlib.Omega.{arith}
use lib.ListN.{length}
use lib.Dec.{eqb}
use borrow.Author.Tests.{not-true, eqb-false}
use Rattle.reasons.specs.Reasons.{Outcome, gives}
use Rattle.reasons.proofs.Laws.{passed}
use Rattle.text.specs.Bytes.{within, all_digits}
use Rattle.luhn.specs.Luhn.{passes}
use Rattle.text.proofs.Tests.{inside_is}
use Rattle.text.specs.Numbers.{put}
use Rattle.pan.specs.Pan.{pan_length}
use Rattle.slots.specs.Record.{record32}
use Rattle.slots.specs.Journal.{place, Formed, NewestIs, slots_of}
use Rattle.held.specs.Held.{low_of, held_after, held_up_to, held_list, sum_of}
use Rattle.journal.specs.Rules.{full, book_rule, book_bytes, release_rule, release_bytes, freed_after, Books, Releases}
use Rattle.journal.proofs.Rule.{Fine, same_after, new_after}
use Rattle.journal.proofs.Lists.{book_held, after_length}
use Rattle.journal.proofs.Freed.{release_held, all_length}
use Rattle.journal.proofs.Kept.{book_formed, release_formed}
use Rattle.reasons.specs.declared.Reason.{Reason}
use Rattle.journal.specs.declared.Released.{Released}

-- ---- a refusal changes nothing

pub book_refused : (j pan : List ℕ) (label amount clock : ℕ) (x : Reason) (k : List ℕ) → Books j pan label amount clock (Err x) k → k ≡ j
unfolding book_bytes
book_refused j pan label amount clock x k w = w.so.1 ∙ sym (same_after j (λ s. put j (place (slots_of j) s) (record32 s clock amount label pan)) w.so.0)

pub release_refused : (j : List ℕ) (s : ℕ) (x : Reason) (k : List ℕ) → Releases j s (Err x) k → k ≡ j
unfolding release_bytes
release_refused j s x k w = w.so.1 ∙ sym (same_after {A = Released} j (λ _. freed_after j (slots_of j) (low_of j _) (s - low_of j _)) w.so.0)

-- ---- what a booking that is not refused had and did

pub record Booking (j pan : List ℕ) (label amount b s : ℕ) : Type 0 where
  pub pan_fine : Fine pan
  pub some : 0 < amount
  pub serials : b ≡ 4294967295 → ⊥
  pub room : full j ≡ false
  pub serial : s ≡ b + 1

pub booking_of : (j pan : List ℕ) (label amount b s : ℕ) → gives s ≡ book_rule (Some b) j pan label amount → Booking j pan label amount b s
unfolding book_rule
booking_of j pan label amount b s e =
    let a1 = passed (pan_length (length pan)) 2 _ s (sym e) in
    let a2 = passed (all_digits pan) 3 _ s a1.1 in
    let a3 = passed (passes pan) 4 _ s a2.1 in
    let a4 = passed (not (eqb amount 0)) 17 _ s a3.1 in
    let a5 = passed (not (eqb b 4294967295)) 19 _ s a4.1 in
    let a6 = passed (not (full j)) 18 _ s a5.1 in
    let nz : amount ≡ 0 → ⊥ = eqb-false amount 0 (not-true (eqb amount 0) a4.0) in
    let q : b + 1 ≡ s = cc a6.1 in
    record {
      pan_fine = record { count = a1.0; digits = a2.0; sum = a3.0 };
      some = omega (arith, nz);
      serials = eqb-false b 4294967295 (not-true (eqb b 4294967295) a5.0);
      room = not-true (full j) a6.0;
      serial = sym q;
    }

-- the slots stay
slots_same : (j k : List ℕ) → length k ≡ length j → slots_of k ≡ slots_of j
slots_same j k e = ap (λ (x : ℕ). x / 32) e

-- booking in a journal with newest serial b: the next serial is answered, it is the newest after, and its record is the last held one
pub record Booked_so (j pan : List ℕ) (label amount clock b s : ℕ) (k : List ℕ) : Type 0 where
  pub serial : s ≡ b + 1
  pub fits : s < 4294967296
  pub length_same : length k ≡ length j
  pub newest : NewestIs k (Some s)
  pub held : held_list k s ≡ held_list j b ++ (record32 s clock amount label pan ∷ [])

pub book_changes : (j pan : List ℕ) (label amount clock b s : ℕ) (k : List ℕ) → Formed j (slots_of j) b → b < 4294967296 → amount < 4294967296
    → gives s ≡ book_rule (Some b) j pan label amount → k ≡ book_bytes (Some b) j pan label amount clock → Booked_so j pan label amount clock b s k
unfolding book_bytes
book_changes j pan label amount clock b s k f fit small e w =
    let g = booking_of j pan label amount b s e in
    let bytes : k ≡ put j (place (slots_of j) s) (record32 s clock amount label pan) = w ∙ sym (new_after j (λ s. put j (place (slots_of j) s) (record32 s clock amount label pan)) e) in
    subst⁻¹ (λ (x : ℕ). Booked_so j pan label amount clock b x k) g.serial
    (so (bytes ∙ ap (λ (x : ℕ). put j (place (slots_of j) x) (record32 x clock amount label pan)) g.serial) g)
  where
    so : k ≡ put j (place (slots_of j) (b + 1)) (record32 (b + 1) clock amount label pan) → Booking j pan label amount b s → Booked_so j pan label amount clock b (b + 1) k
    so q g =
        let n : ℕ = slots_of j in
        let el : length k ≡ length j = ap length q ∙ after_length j n b clock amount label pan f g.pan_fine.count in
        let en : slots_of k ≡ n = slots_same j k el in
        let fk : Formed k n (b + 1) = subst⁻¹ (λ (l : List ℕ). Formed l n (b + 1)) q (book_formed j n b clock amount label pan f g.pan_fine g.some small (omega (arith, g.serials))) in
        let h : held_after k n (b + 1 - n) (b + 1 - (b + 1 - n)) ≡ held_list j b ++ (record32 (b + 1) clock amount label pan ∷ []) =
        ap (λ (l : List ℕ). held_after l n (b + 1 - n) (b + 1 - (b + 1 - n))) q ∙ book_held j n b clock amount label pan f g.pan_fine.count g.room in
        record {
          serial = refl;
          fits = omega (arith, g.serials);
          length_same = el;
          newest = subst⁻¹ (λ (m : ℕ). Formed k m (b + 1)) en fk;
          held = ap (λ (m : ℕ). held_after k m (b + 1 - m) (b + 1 - (b + 1 - m))) en ∙ h;
        }

-- releasing in a journal with newest serial b: the newest stays, and what was held is what was released, whose count and sum are answered, and what is held after
pub record Released_so (j : List ℕ) (b s c y : ℕ) (k : List ℕ) : Type 0 where
  pub length_same : length k ≡ length j
  pub newest : NewestIs k (Some b)
  pub there : s ≤ b
  pub count : c ≡ length (held_up_to j b s)
  pub sum : y ≡ sum_of (held_up_to j b s)
  pub held : held_up_to j b s ++ held_list k b ≡ held_list j b

pub release_changes : (j : List ℕ) (b s c y : ℕ) (k : List ℕ) → Formed j (slots_of j) b
    → ◌≡◌ {A = Outcome Released} (gives (record { count = c; sum = y })) (release_rule (Some b) j s) → k ≡ release_bytes (Some b) j s → Released_so j b s c y k
unfolding release_bytes release_rule
release_changes j b s c y k f e w =
    let a = passed (within 1 b s) 20 (gives (record { count = length (held_up_to j b s); sum = sum_of (held_up_to j b s) })) (record { count = c; sum = y }) (sym e) in
    let r = inside_is 1 b s a.0 in
    let t : ◌≡◌ {A = Released} (record { count = length (held_up_to j b s); sum = sum_of (held_up_to j b s) }) (record { count = c; sum = y }) = cc a.1 in
    let bytes : k ≡ freed_after j (slots_of j) (low_of j b) (s - low_of j b) = w ∙ sym (new_after j (λ _. freed_after j (slots_of j) (low_of j b) (s - low_of j b)) e) in
    so bytes r.1 (sym (ap (λ (x : Released). x.count) t)) (sym (ap (λ (x : Released). x.sum) t))
  where
    so : k ≡ freed_after j (slots_of j) (low_of j b) (s - low_of j b) → s ≤ b → c ≡ length (held_up_to j b s) → y ≡ sum_of (held_up_to j b s) → Released_so j b s c y k
    so q h ec ey =
        let n : ℕ = slots_of j in
        let m : ℕ = s - (b - n) in
        let p : ℕ = b - (b - n) - m in
        let el : length k ≡ length j = ap length q ∙ all_length j n (b - n) m in
        let en : slots_of k ≡ n = slots_same j k el in
        let fk : Formed k n b = subst⁻¹ (λ (l : List ℕ). Formed l n b) q (release_formed j n b m f (omega arith)) in
        let sp : m + p ≡ b - (b - n) = omega arith in
        let lw : held_after j n (b - n) m ++ held_after k n (b - n) (b - (b - n)) ≡ held_after j n (b - n) (b - (b - n)) =
        ap (λ (l : List ℕ). held_after j n (b - n) m ++ held_after l n (b - n) (b - (b - n))) q
        ∙ subst (λ (x : ℕ). held_after j n (b - n) m ++ held_after (freed_after j n (b - n) m) n (b - n) x ≡ held_after j n (b - n) x) sp (release_held j n (b - n) m p f.least f.size (omega arith)) in
        record {
          length_same = el;
          newest = subst⁻¹ (λ (m : ℕ). Formed k m b) en fk;
          there = h;
          count = ec;
          sum = ey;
          held = ap (λ (x : ℕ). held_up_to j b s ++ held_after k x (b - x) (b - (b - x))) en ∙ lw;
        }
