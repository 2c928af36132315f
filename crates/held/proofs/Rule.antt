-- The rules of tell and show, outcome by outcome.
use Rattle.std.proofs.Common.{Option, Some, None, Result, Ok, Err}
use Prim.Native.Nat.{ℕ, ◌≤◌, ◌+◌, ◌-◌}
use mathlib.Core.Path.{◌≡◌, refl, sym, ap, ◌∙◌, subst}
use mathlib.Core.Bool.{true, false}
use mathlib.Core.List.{List}
use native.Mathlib.Omega.{arith}
use native.Mathlib.Nat.{mod-lt}
use lib.ListN.{length}
use Rattle.reasons.specs.Reasons.{Outcome, gives, refuses, said}
use Rattle.reasons.proofs.Laws.{passed}
use Rattle.text.specs.Bytes.{within}
use Rattle.slots.specs.Record.{is_held}
use Rattle.slots.specs.Journal.{place, state_of, NewestIs, slots_of}
use Rattle.text.specs.Parts.{PartOf}
use Rattle.held.specs.Held.{low_of, held_after, held_list, sum_of, first_of, Tallies}
use Rattle.held.specs.Rules.{held_in, show_rule, tell_rule, Shows, the_record, nothing}
use Rattle.slots.specs.Views.{Seen}
use denote.Ref.{Bor}
use Rattle.reasons.specs.declared.Reason.{Reason}
use Rattle.held.specs.declared.Tallied.{Tallied}

-- ---- show

module _ (j : List ℕ) (b s : ℕ) where
  pub show_none : within (low_of j b + 1) b s ≡ false → refuses 20 ≡ show_rule (Some b) j s
  unfolding show_rule held_in
  show_none h = simp h

  pub show_free : within (low_of j b + 1) b s ≡ true → is_held (state_of j (slots_of j) s) ≡ false → refuses 20 ≡ show_rule (Some b) j s
  unfolding show_rule held_in
  show_free h e = simp (h, e)

  pub show_done : within (low_of j b + 1) b s ≡ true → is_held (state_of j (slots_of j) s) ≡ true → gives (place (slots_of j) s) ≡ show_rule (Some b) j s
  unfolding show_rule held_in
  show_done h e = simp (h, e)

-- a record that is shown lies in the journal
pub shown_in : (j : List ℕ) (m : Option ℕ) (s at : ℕ) → NewestIs j m → gives at ≡ show_rule m j s → at + 32 ≤ length j
unfolding show_rule
shown_in j None s at i e = let z : ◌≡◌ {A = ℕ} 0 1 = cc in absurd (omega arith)
shown_in j (Some b) s at f e =
    let a = passed (held_in j b s) 20 (gives (place (slots_of j) s)) at (sym e) in
    let q : place (slots_of j) s ≡ at = cc a.1 in
    omega (arith, f.size, f.least, mod-lt (s - 1) {m = slots_of j} (omega (arith, f.least)))

-- ---- tell

pub tell_done : (j : List ℕ) (b low : ℕ) (t : Tallied) → low ≡ low_of j b → Tallies t (held_after j (slots_of j) low (b - low))
    → gives (record { count = t.count; sum = t.sum; oldest = t.first; newest = b }) ≡ tell_rule (Some b) j
unfolding tell_rule
tell_done j b low t el tally =
    let all : held_after j (slots_of j) low (b - low) ≡ held_list j b = (λ i. held_after j (slots_of j) (el i) (b - el i)) in
    λ i. gives (record {
      count = (tally.count ∙ ap length all) i;
      sum = (tally.sum ∙ ap sum_of all) i;
      oldest = (tally.first ∙ ap first_of all) i;
      newest = b;
    })

-- ---- a journal that is not well formed

pub tell_bad : (j : List ℕ) → refuses 16 ≡ tell_rule None j
unfolding tell_rule
tell_bad j = refl

pub show_bad : (j : List ℕ) (s : ℕ) → refuses 16 ≡ show_rule None j s
unfolding show_rule
show_bad j s = refl

-- ---- the part that is shown

pub found_in : (j : List ℕ) (s at : ℕ) (r : Result ℕ Reason) → Seen j (λ m. said r ≡ show_rule m j s) → r ≡ Ok at → at + 32 ≤ length j
found_in j s at r w e = shown_in j w.view s at w.is (sym (ap said e) ∙ w.so)

pub shows : (j p : Bor (List ℕ)) (o : Outcome ℕ) (r : Result ℕ Reason) (at : ℕ) → said r ≡ o → r ≡ Ok at → PartOf j at (at + 32 - at) p → Shows j o p
shows j p o r at e f w =
    let q : at + 32 - at ≡ 32 = omega arith in
    subst (λ (o : Outcome ℕ). Shows j o p) (sym (ap said f) ∙ e) (the_record (subst (λ (n : ℕ). PartOf j at n p) q w))

pub shows_none : (j p : Bor (List ℕ)) (o : Outcome ℕ) (r : Result ℕ Reason) (x : Reason) → said r ≡ o → r ≡ Err x → PartOf j 0 0 p → Shows j o p
shows_none j p o r x e f w = subst (λ (o : Outcome ℕ). Shows j o p) (sym (ap said f) ∙ e) (nothing w)
