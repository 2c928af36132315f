-- The rules of the whole, outcome by outcome.
use Prim.Native.Nat.{ℕ, ◌≤◌, ◌<◌, ◌-◌, ◌%◌}
use mathlib.Core.Path.{◌≡◌}
use mathlib.Core.Bool.{true, false}
use mathlib.Core.List.{List}
use native.Mathlib.Omega.{arith}
use borrow.Author.Tests.{lt-ltb, le-ltb, eq-eqb, ne_eqb}
use lib.Dec.{leb}
use lib.ListN.{length}
use Rattle.reasons.specs.Reasons.{gives, refuses}
use Rattle.slots.specs.Journal.{sized}
use Rattle.salvage.specs.Whole.{agrees, preferred, lower, due, free_verdict, held_verdict, released_verdict, agree_rule, newest_of, oldest_of}
use Rattle.salvage.specs.declared.inner.Poll.{Poll}
use Rattle.salvage.specs.declared.Verdict.TheVariants as verdict

-- ---- serials

pub agrees-below : (n b s : ℕ) → s ≤ b - n → false ≡ agrees n b s
unfolding agrees
agrees-below n b s h = simp (le-ltb (b - n) s h)

pub agrees_above : (n b s : ℕ) → b - n < s → leb s b ≡ agrees n b s
unfolding agrees
agrees_above n b s h = simp (lt-ltb (b - n) s h)

module _ (a c : Poll) where
  pub preferred_more : a.votes < c.votes → c ≡ preferred a c
  unfolding preferred
  preferred_more h = simp (lt-ltb a.votes c.votes h)

  pub preferred_fewer : c.votes < a.votes → a ≡ preferred a c
  unfolding preferred
  preferred_fewer h = simp (le-ltb a.votes c.votes (omega arith), ne_eqb a.votes c.votes (λ e. omega arith))

  pub preferred_higher : a.votes ≡ c.votes → a.serial < c.serial → c ≡ preferred a c
  unfolding preferred
  preferred_higher e h = simp (le-ltb a.votes c.votes (omega arith), eq-eqb a.votes c.votes e, lt-ltb a.serial c.serial h)

  pub preferred_first : a.votes ≡ c.votes → c.serial ≤ a.serial → a ≡ preferred a c
  unfolding preferred
  preferred_first e h = simp (le-ltb a.votes c.votes (omega arith), eq-eqb a.votes c.votes e, le-ltb a.serial c.serial h)

module _ (a c : ℕ) where
  pub lower_none : c ≡ 0 → a ≡ lower a c
  lower_none e = simp (eq-eqb c 0 e)

  pub lower_first : (c ≡ 0 → ⊥) → a ≡ 0 → c ≡ lower a c
  lower_first ne e = simp (ne_eqb c 0 ne, eq-eqb a 0 e)

  pub lower_new : (c ≡ 0 → ⊥) → (a ≡ 0 → ⊥) → c < a → c ≡ lower a c
  lower_new ne na h = simp (ne_eqb c 0 ne, ne_eqb a 0 na, lt-ltb c a h)

  pub lower_old : (c ≡ 0 → ⊥) → (a ≡ 0 → ⊥) → a ≤ c → a ≡ lower a c
  lower_old ne na h = simp (ne_eqb c 0 ne, ne_eqb a 0 na, le-ltb c a h)

-- ---- the verdict

pub due-none : (n b k : ℕ) → b ≤ k → 0 ≡ due n b k
unfolding due
due-none n b k h = simp (le-ltb k b h)

pub due_some : (n b k : ℕ) → k < b → b - (b - 1 - k) % n ≡ due n b k
unfolding due
due_some n b k h = simp (lt-ltb k b h)

pub free_fine : (d : ℕ) → d ≡ 0 → verdict.Fine ≡ free_verdict d
free_fine d e = simp (eq-eqb d 0 e)

pub held_fine : (s d : ℕ) → s ≡ d → verdict.Fine ≡ held_verdict s d
held_fine s d e = simp (eq-eqb s d e)

module _ (s d h : ℕ) where
  pub released_none : s ≡ d → h ≡ 0 → verdict.Fine ≡ released_verdict s d h
  released_none e z = simp (eq-eqb s d e, le-ltb 0 h (omega arith))

  pub released_above : s ≡ d → (h ≡ 0 → ⊥) → h < d → verdict.Above d h ≡ released_verdict s d h
  released_above e nz l = simp (eq-eqb s d e, lt-ltb 0 h (omega arith), lt-ltb h d l)

  pub released_below : s ≡ d → (h ≡ 0 → ⊥) → d ≤ h → verdict.Fine ≡ released_verdict s d h
  released_below e nz l = simp (eq-eqb s d e, lt-ltb 0 h (omega arith), le-ltb h d l)

-- ---- the calls

pub agree_length : (j : List ℕ) → sized (length j) ≡ false → refuses 16 ≡ agree_rule j
unfolding agree_rule
agree_length j e = simp e

pub agree_on : (j : List ℕ) → sized (length j) ≡ true → gives (record { newest = newest_of j; oldest = oldest_of j (newest_of j) }) ≡ agree_rule j
unfolding agree_rule
agree_on j e = simp e
