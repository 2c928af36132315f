-- The rules of book and release, outcome by outcome.
use Rattle.std.proofs.Common.{Option, Some, None}
use Prim.Native.Nat.{ℕ, ◌≤◌, ◌<◌, ◌+◌, ◌-◌, ◌*◌, ◌%◌}
use mathlib.Core.Path.{◌≡◌, refl, sym, ap, ◌∙◌}
use mathlib.Core.Bool.{Bool, true, false}
use mathlib.Core.List.{List}
use native.Mathlib.Omega.{arith}
use lib.ListN.{length}
use borrow.Author.Tests.{eq-eqb, ne_eqb}
use Rattle.reasons.specs.Reasons.{Outcome, gives, refuses, demand, after}
use Rattle.reasons.proofs.Laws.{passed}
use Rattle.text.specs.Bytes.{within, all_digits}
use Rattle.luhn.specs.Luhn.{passes, luhn_rule}
use Rattle.text.proofs.Tests.{under, over, inside}
use Rattle.text.specs.Numbers.{put}
use Rattle.slots.specs.Record.{record32}
use Rattle.slots.specs.Journal.{place, Formed, slots_of}
use Rattle.held.specs.Held.{low_of, held_after, held_up_to, sum_of, Tallies}
use Rattle.journal.specs.Rules.{full, pan_rule, book_rule, book_bytes, release_rule, release_bytes, freed_after}
use Rattle.pan.specs.Pan.{pan_length}
use Rattle.slots.specs.Writes.{wrote, record_writes}
use Rattle.slots.proofs.Ring.{place_in}
use Rattle.slots.proofs.Records.{record_long}
use Rattle.slots.proofs.Writes.{wrote_put}
use Rattle.held.specs.declared.Tallied.{Tallied}

-- ---- a refusal changes nothing, and a value tells what is there

pub same_after : {A B : Type 0} {x : ℕ} {o : Outcome A} (old : B) (new : A → B) → refuses x ≡ o → old ≡ after o old new
same_after old new e = ap (λ o. after o old new) e

pub new_after : {A B : Type 0} {v : A} {o : Outcome A} (old : B) (new : A → B) → gives v ≡ o → new v ≡ after o old new
new_after old new e = ap (λ o. after o old new) e

-- ---- card numbers

pub pan_few : (pan : List ℕ) → length pan < 13 → refuses 2 ≡ pan_rule pan
unfolding pan_rule
pan_few pan h = simp (under 13 19 (length pan) h)

pub pan_many : (pan : List ℕ) → 19 < length pan → refuses 2 ≡ pan_rule pan
unfolding pan_rule
pan_many pan h = simp (over 13 19 (length pan) h)

pub pan_luhn : (pan : List ℕ) → 13 ≤ length pan → length pan ≤ 19 → luhn_rule pan ≡ pan_rule pan
unfolding pan_rule luhn_rule
pan_luhn pan l h = simp (inside 13 19 (length pan) l h, inside 2 40 (length pan) (omega arith) (omega arith))

-- what a card number that passes has
pub record Fine (pan : List ℕ) : Type 0 where
  pub count : pan_length (length pan) ≡ true
  pub digits : all_digits pan ≡ true
  pub sum : passes pan ≡ true

pub fine : (pan : List ℕ) → gives tt ≡ pan_rule pan → Fine pan
unfolding pan_rule
fine pan e =
    let a = passed (pan_length (length pan)) 2 (demand (all_digits pan) 3 (demand (passes pan) 4 (gives tt))) tt (sym e) in
    let b = passed (all_digits pan) 3 (demand (passes pan) 4 (gives tt)) tt a.1 in
    let c = passed (passes pan) 4 (gives tt) tt b.1 in
    record { count = a.0; digits = b.0; sum = c.0 }

-- a refusal on the way stays one, whatever comes after
refused_on : {A : Type 0} (a b c : Bool) (x : ℕ) (next : Outcome A)
    → ◌≡◌ {A = Outcome (Unit {0})} (refuses x) (demand a 2 (demand b 3 (demand c 4 (gives tt)))) → refuses x ≡ demand a 2 (demand b 3 (demand c 4 next))
refused_on true true true x next e = let z : ◌≡◌ {A = ℕ} 0 1 = cc in absurd (omega arith)
refused_on true true false x next e = let z : x ≡ 4 = cc in ap refuses z
refused_on true false c x next e = let z : x ≡ 3 = cc in ap refuses z
refused_on false b c x next e = let z : x ≡ 2 = cc in ap refuses z

-- ---- book

module _ (j pan : List ℕ) (label amount b : ℕ) where
  pub book_pan : (x : ℕ) → refuses x ≡ pan_rule pan → refuses x ≡ book_rule (Some b) j pan label amount
  unfolding pan_rule book_rule
  book_pan x e = refused_on (pan_length (length pan)) (all_digits pan) (passes pan) x _ e

  pub book_zero : Fine pan → amount ≡ 0 → refuses 17 ≡ book_rule (Some b) j pan label amount
  unfolding book_rule
  book_zero f z = simp (f.count, f.digits, f.sum, eq-eqb amount 0 z)

  pub book_last : Fine pan → (amount ≡ 0 → ⊥) → b ≡ 4294967295 → refuses 19 ≡ book_rule (Some b) j pan label amount
  unfolding book_rule
  book_last f z l = simp (f.count, f.digits, f.sum, ne_eqb amount 0 z, eq-eqb b 4294967295 l)

  pub book_full : Fine pan → (amount ≡ 0 → ⊥) → (b ≡ 4294967295 → ⊥) → full j ≡ true → refuses 18 ≡ book_rule (Some b) j pan label amount
  unfolding book_rule
  book_full f z l r = simp (f.count, f.digits, f.sum, ne_eqb amount 0 z, ne_eqb b 4294967295 l, r)

  pub book_done : Fine pan → (amount ≡ 0 → ⊥) → (b ≡ 4294967295 → ⊥) → full j ≡ false → gives (b + 1) ≡ book_rule (Some b) j pan label amount
  unfolding book_rule
  book_done f z l r = simp (f.count, f.digits, f.sum, ne_eqb amount 0 z, ne_eqb b 4294967295 l, r)

-- the record written in the slot of the next serial stands in its place
pub written : (j k r pan : List ℕ) (b clock amount label : ℕ) → Formed j (slots_of j) b → pan_length (length pan) ≡ true
    → r ≡ record32 (b + 1) clock amount label pan → k ≡ wrote j (record_writes r (32 * (b % slots_of j)))
    → k ≡ put j (place (slots_of j) (b + 1)) (record32 (b + 1) clock amount label pan)
written j k r pan b clock amount label f long er e =
    let q : b ≡ b + 1 - 1 = omega arith in
    e ∙ ap (λ (v : List ℕ). wrote j (record_writes v (32 * (b % slots_of j)))) er
    ∙ ap (λ (x : ℕ). wrote j (record_writes (record32 (b + 1) clock amount label pan) (32 * (x % slots_of j)))) q
    ∙ wrote_put (record32 (b + 1) clock amount label pan) (place (slots_of j) (b + 1)) j (record_long (b + 1) clock amount label pan long)
    (omega (arith, f.size, place_in (slots_of j) (b + 1) f.least))

-- ---- release

module _ (j : List ℕ) (b s : ℕ) where
  pub release_none : within 1 b s ≡ false → refuses 20 ≡ release_rule (Some b) j s
  unfolding release_rule
  release_none h = simp h

  pub release_done : 1 ≤ s → s ≤ b → gives (record { count = length (held_up_to j b s); sum = sum_of (held_up_to j b s) }) ≡ release_rule (Some b) j s
  unfolding release_rule
  release_done l h = simp (inside 1 b s l h)

-- ---- answers with what they leave

module _ (m : Option ℕ) (j pan : List ℕ) (label amount clock : ℕ) where
  pub book_same : (x : ℕ) → refuses x ≡ book_rule m j pan label amount
      → (refuses x ≡ book_rule m j pan label amount) × (j ≡ book_bytes m j pan label amount clock)
  unfolding book_bytes
  book_same x e = (e, same_after j _ e)

  pub book_wrote : (s x : ℕ) (k : List ℕ) → x ≡ s → gives s ≡ book_rule m j pan label amount → k ≡ put j (place (slots_of j) s) (record32 s clock amount label pan)
      → (gives x ≡ book_rule m j pan label amount) × (k ≡ book_bytes m j pan label amount clock)
  unfolding book_bytes
  book_wrote s x k w e f = (ap gives w ∙ e, f ∙ new_after j (λ s. put j (place (slots_of j) s) (record32 s clock amount label pan)) e)

module _ (m : Option ℕ) (j : List ℕ) (s : ℕ) where
  pub release_same : (x : ℕ) → refuses x ≡ release_rule m j s → (refuses x ≡ release_rule m j s) × (j ≡ release_bytes m j s)
  unfolding release_bytes
  release_same x e = (e, same_after j _ e)

-- what was counted and freed from low on, where top is the higher of low and s
pub release_freed : (j k : List ℕ) (b s low top : ℕ) (t : Tallied) → 1 ≤ s → s ≤ b → low ≡ low_of j b → top - low ≡ s - low
    → Tallies t (held_after j (slots_of j) low (top - low)) → k ≡ freed_after j (slots_of j) low (top - low)
    → (gives (record { count = t.count; sum = t.sum }) ≡ release_rule (Some b) j s) × (k ≡ release_bytes (Some b) j s)
unfolding release_bytes
release_freed j k b s low top t l h el et tally freed =
    let em : top - low ≡ s - low_of j b = et ∙ ap (λ (x : ℕ). s - x) el in
    let all : held_after j (slots_of j) low (top - low) ≡ held_up_to j b s = (λ i. held_after j (slots_of j) (el i) (em i)) in
    let e : gives (record { count = t.count; sum = t.sum }) ≡ release_rule (Some b) j s =
    (λ i. gives (record { count = (tally.count ∙ ap length all) i; sum = (tally.sum ∙ ap sum_of all) i })) ∙ release_done j b s l h in
    (e, freed ∙ (λ i. freed_after j (slots_of j) (el i) (em i)) ∙ new_after j (λ _. freed_after j (slots_of j) (low_of j b) (s - low_of j b)) e)

-- ---- a journal that is not well formed

pub book_bad : (j pan : List ℕ) (label amount : ℕ) → refuses 16 ≡ book_rule None j pan label amount
unfolding book_rule
book_bad j pan label amount = refl

pub release_bad : (j : List ℕ) (s : ℕ) → refuses 16 ≡ release_rule None j s
unfolding release_rule
release_bad j s = refl
