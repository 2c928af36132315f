-- What has no influence on which record is answered: records that don't fit, and bytes 12 to 15 of any record.
use Prim.Native.Nat.{ℕ, ◌+◌, ◌*◌, ◌/◌, ◌%◌, ◌<◌, ◌≤◌}
use mathlib.Core.Path.{◌≡◌, refl, sym, ◌∙◌}
use mathlib.Core.Logic.{◌⊎◌, inr, ⊎_elim}
use mathlib.Core.Bool.{true, false}
use mathlib.Core.List.{List}
use Rattle.std.specs.Prelude.{Option, Some, None}
use native.Mathlib.Omega.{arith}
use lib.ListN.{length, get_or}
use Rattle.text.specs.Numbers.{u32_at}
use Rattle.ranges.specs.Ranges.{low, high, prefix_of, fits, width, choice, place_rule}
use Rattle.ranges.proofs.Narrowest.{IsNarrowest, both_ways, chosen_narrowest, chosen_none}
use Rattle.ranges.proofs.Laws.{narrowest_chosen, none_chosen}

-- two tables have the same first twelve bytes of the record at `at`
abbrev pub Twelve : List ℕ → List ℕ → ℕ → Type 0
Twelve t u at = (i : ℕ) → at ≤ i → i < at + 12 → get_or t i 0 ≡ get_or u i 0

-- which tell the record
module _ (t u : List ℕ) (at : ℕ) (same : Twelve t u at) where
  word_same : (a : ℕ) → at ≤ a → a + 4 ≤ at + 12 → u32_at t a ≡ u32_at u a
  unfolding u32_at
  word_same a l h =
      rw (same a l (omega arith), same (a + 1) (omega arith) (omega arith), same (a + 2) (omega arith) (omega arith), same (a + 3) (omega arith) (omega arith))

  low_same : low t at ≡ low u at
  low_same = word_same at (omega arith) (omega arith)

  high_same : high t at ≡ high u at
  high_same = word_same (at + 4) (omega arith) (omega arith)

  as_wide : width t at ≡ width u at
  as_wide = rw (low_same, high_same)

  twelve_tell : (p n : ℕ) → fits t at p n ≡ fits u at p n
  unfolding fits
  twelve_tell p n = rw (low_same, high_same, same (at + 10) (omega arith) (omega arith), same (at + 11) (omega arith) (omega arith))

-- two tables say the same of the record at `at`: it fits in both and is as wide in both, or it fits in neither
abbrev Alike : List ℕ → List ℕ → ℕ → ℕ → ℕ → Type 0
Alike t u p n at = (fits t at p n ≡ fits u at p n) × (fits t at p n ≡ true → width t at ≡ width u at)

-- two tables of one length are the same for a PAN of n digits whose first eight are p: a record fits in neither of them, and may be any there,
-- or has the same first twelve bytes in both
pub record SameFor (t u : List ℕ) (p n : ℕ) : Type 0 where
  pub long : length t ≡ length u
  pub each : (k : ℕ) → k < length t / 16 → ((fits t (16 * k) p n ≡ false) × (fits u (16 * k) p n ≡ false)) ⊎ Twelve t u (16 * k)

module _ (t u : List ℕ) (p n : ℕ) (same : SameFor t u p n) where
  alike : (k : ℕ) → k < length t / 16 → Alike t u p n (16 * k)
  alike k l = ⊎_elim misses (λ s. (twelve_tell t u (16 * k) s p n, λ g. as_wide t u (16 * k) s)) (same.each k l)
    where
      misses : (fits t (16 * k) p n ≡ false) × (fits u (16 * k) p n ≡ false) → Alike t u p n (16 * k)
      misses f = (f.0 ∙ sym f.1, λ g. both_ways t p n (16 * k) g f.0)

  -- so they have the same narrowest record,
  as_narrow : (a : ℕ) → IsNarrowest t p n a → IsNarrowest u p n a
  as_narrow a f =
      let q : 16 * (a / 16) ≡ a = omega (arith, f.whole) in
      let s = rw q at (alike (a / 16) (omega (arith, f.inside))) in
      let w = s.1 f.fit in
      record {
        inside = omega (arith, f.inside, same.long);
        whole = f.whole;
        fit = sym s.0 ∙ f.fit;
        narrowest = λ k l g.
            let d = alike k (omega (arith, same.long)) in
            let j = d.0 ∙ g in
            omega (arith, w, d.1 j, f.narrowest k (omega (arith, same.long)) j);
        earlier = λ k l g.
            let d = alike k (omega (arith, f.inside, f.whole)) in
            let j = d.0 ∙ g in
            omega (arith, w, d.1 j, f.earlier k l j);
      }

  by_choice : (o : Option ℕ) → choice t p n ≡ o → o ≡ choice u p n
  by_choice None f =
      sym (none_chosen u p n (λ k l.
      let i : k < length t / 16 = omega (arith, same.long) in
      sym (alike k i).0 ∙ chosen_none t p n f k i))
  by_choice (Some a) f = sym (narrowest_chosen u p n a (as_narrow a (chosen_narrowest t p n a f)))

  -- and the same choice
  pub no_influence : choice t p n ≡ choice u p n
  no_influence = by_choice (choice t p n) refl

-- the look-up answers the same place, where both tables are the same for the PAN
pub place_unmoved : (site acquirer site' acquirer' pan : List ℕ) → SameFor site site' (prefix_of pan) (length pan)
    → SameFor acquirer acquirer' (prefix_of pan) (length pan) → place_rule site acquirer pan ≡ place_rule site' acquirer' pan
unfolding place_rule
place_unmoved site acquirer site' acquirer' pan s a = rw (no_influence site site' _ _ s, no_influence acquirer acquirer' _ _ a)

-- "12 to 15 are ignored"
pub last_four_ignored : (t u : List ℕ) (p n : ℕ) → length t ≡ length u → ((i : ℕ) → i % 16 < 12 → get_or t i 0 ≡ get_or u i 0) → choice t p n ≡ choice u p n
last_four_ignored t u p n e h = no_influence t u p n (record { long = e; each = λ k l. inr (λ i f g. h i (omega arith)) })
