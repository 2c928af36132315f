-- One step of a walk as the code takes it, and as its rule says.
use Rattle.std.proofs.Common.{Option, Some, None, Result}
use Prim.Native.Nat.{ℕ, zero, suc, max, ◌-◌, ◌≤◌, ◌<◌}
use mathlib.Core.Path.{◌≡◌, refl, sym, ap, ◌∙◌}
use mathlib.Core.List.{List}
use native.Mathlib.Omega.{arith}
use Rattle.text.proofs.Tests.{inside_is, both_true}
use Rattle.reasons.specs.Reasons.{Outcome, gives, refuses, and_then, said}
use Rattle.reasons.proofs.Laws.{passed}
use Rattle.slots.specs.Journal.{slots_of, place}
use Rattle.slots.proofs.Ring.{place_in}
use Rattle.held.specs.Held.{low_of, held_after, first_of, Tallies}
use Rattle.held.specs.declared.Tallied.{Tallied}
use Rattle.held.specs.Rules.{tell_rule}
use Rattle.held.specs.declared.Told.{Told}
use Rattle.reasons.specs.declared.Reason.{Reason}
use Rattle.reasons.proofs.Laws.{said_one}
use Rattle.walker.specs.Walk.{held_here, held_rule, next_of}
use Rattle.walker.specs.Steps.{first_above, walk_place, walk_rule, start_rule, step_rule}

-- find_held has one outcome
pub one_found : (j : List ℕ) (s : ℕ) (r q : Result ℕ Reason) → said r ≡ held_rule j s → said q ≡ held_rule j s → r ≡ q
one_found j s r q a b = said_one r q (a ∙ sym b)

-- ---- above a serial

-- nothing stands above the newest
pub none_above : (j : List ℕ) (b s : ℕ) → b ≤ s → 0 ≡ first_above j b s
unfolding first_above held_after first_of
none_above j b s h = let z : b - max (low_of j b) s ≡ 0 = omega arith in sym (ap (λ (m : ℕ). first_of (held_after j (slots_of j) (max (low_of j b) s) m)) z)

-- the tally of what stands above has its first
pub first_is : (j : List ℕ) (b s low top : ℕ) (t : Tallied) → low ≡ b - slots_of j → (low ≤ top) × (s ≤ top) × (top - low ≡ s - low)
    → Tallies t (held_after j (slots_of j) top (b - top))
    → t.first ≡ first_above j b s
unfolding first_above
first_is j b s low top t e h u =
    let z : top ≡ max (low_of j b) s = omega arith in
    u.first ∙ ap (λ (m : ℕ). first_of (held_after j (slots_of j) m (b - m))) z

pub place_there : (j : List ℕ) (s r : ℕ) → (s ≡ 0 → ⊥) → r ≡ place (slots_of j) s → r ≡ walk_place j s
place_there j zero r h e = absurd (h refl)
place_there j (suc s) r h e = e

pub walk_bad : (j : List ℕ) (s : ℕ) → refuses 16 ≡ walk_rule None j s
unfolding walk_rule
walk_bad j s = refl

pub walk-given : (j : List ℕ) (b above s at : ℕ) → s ≡ first_above j b above → at ≡ walk_place j s → gives (s, at) ≡ walk_rule (Some b) j above
unfolding walk_rule
walk-given j b above s at e f = ap {B = Outcome (ℕ × ℕ)} gives (ap (λ (p : ℕ). (s, p)) f ∙ ap (λ (t : ℕ). (t, walk_place j t)) e)

-- ---- a start and its steps

pub start_told : (m : Option ℕ) (j : List ℕ) (o : Outcome Told) → o ≡ tell_rule m j → and_then o (λ t. gives t.oldest) ≡ start_rule m j
unfolding start_rule
start_told m j o e = ap (λ (o : Outcome Told). and_then o (λ t. gives t.oldest)) e

pub step_found : (j : List ℕ) (s : ℕ) (o : Outcome ℕ) → o ≡ held_rule j s → and_then o (λ at. gives (at, next_of j s)) ≡ step_rule j s
unfolding step_rule
step_found j s o e = ap (λ (o : Outcome ℕ). and_then o (λ at. gives (at, next_of j s))) e

pub step_given : (j : List ℕ) (s at n : ℕ) → gives at ≡ held_rule j s → n ≡ next_of j s → gives (at, n) ≡ step_rule j s
step_given j s at n e f = ap (λ (x : ℕ). gives (at, x)) f ∙ step_found j s (gives at) e

-- a held record's place is a small number
pub step_low : (j : List ℕ) (s at : ℕ) → gives at ≡ held_rule j s → at < 65536
unfolding held_rule held_here
step_low j s at e =
    let p = passed (held_here j s) 20 (gives (place (slots_of j) s)) at (sym e) in
    let q : place (slots_of j) s ≡ at = cc p.1 in
    let w = inside_is 1 2048 (slots_of j) (both_true _ _ p.0).0 in
    omega (arith, place_in (slots_of j) s w.0)
