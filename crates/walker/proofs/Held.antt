-- A held record, test by test, and the part that is given.
use Prim.Native.Nat.{ℕ, ◌≤◌, ◌<◌, ◌+◌}
use mathlib.Core.Path.{◌≡◌, refl, sym, ◌∙◌}
use mathlib.Core.Bool.{true, false}
use mathlib.Core.List.{List}
use native.Mathlib.Omega.{arith}
use borrow.Author.Tests.{eq-eqb, ne_eqb}
use lib.ListN.{length}
use Rattle.text.proofs.Tests.{under, over, inside, inside_is, both_true}
use Rattle.reasons.specs.Reasons.{gives, refuses}
use Rattle.reasons.proofs.Laws.{passed, gives_refuses}
use Rattle.slots.specs.Record.{is_held, serial_at}
use Rattle.slots.specs.Journal.{slots_of, place, state_of}
use Rattle.slots.proofs.Ring.{place_in}
use Rattle.walker.specs.Walk.{held_here, held_rule, next_of}

module _ (j : List ℕ) (s : ℕ) where
  pub no_slots : slots_of j < 1 → refuses 20 ≡ held_rule j s
  unfolding held_rule held_here
  no_slots h = simp (under 1 2048 (slots_of j) h)

  pub too_many : 2048 < slots_of j → refuses 20 ≡ held_rule j s
  unfolding held_rule held_here
  too_many h = simp (over 1 2048 (slots_of j) h)

  module _ (some : 1 ≤ slots_of j) (most : slots_of j ≤ 2048) where
    pub no_serial : s ≡ 0 → refuses 20 ≡ held_rule j s
    unfolding held_rule held_here
    no_serial e = simp (inside 1 2048 (slots_of j) some most, eq-eqb s 0 e)

    module _ (nz : s ≡ 0 → ⊥) where
      pub another : (serial_at j (place (slots_of j) s) ≡ s → ⊥) → refuses 20 ≡ held_rule j s
      unfolding held_rule held_here
      another ne = simp (inside 1 2048 (slots_of j) some most, ne_eqb s 0 nz, ne_eqb (serial_at j (place (slots_of j) s)) s ne)

      pub is_here : serial_at j (place (slots_of j) s) ≡ s → is_held (state_of j (slots_of j) s) ≡ true → held_here j s ≡ true
      unfolding held_here
      is_here e h = simp (inside 1 2048 (slots_of j) some most, ne_eqb s 0 nz, eq-eqb (serial_at j (place (slots_of j) s)) s e, h)

      pub not_held : serial_at j (place (slots_of j) s) ≡ s → is_held (state_of j (slots_of j) s) ≡ false → refuses 20 ≡ held_rule j s
      unfolding held_rule held_here
      not_held e h = simp (inside 1 2048 (slots_of j) some most, ne_eqb s 0 nz, eq-eqb (serial_at j (place (slots_of j) s)) s e, h)

  pub here : held_here j s ≡ true → gives (place (slots_of j) s) ≡ held_rule j s
  unfolding held_rule
  here h = simp h

  -- a record that is given lies in the journal
  pub given_in : (at : ℕ) → gives at ≡ held_rule j s → at + 32 ≤ length j
  unfolding held_rule held_here
  given_in at e =
      let p = passed (held_here j s) 20 (gives (place (slots_of j) s)) at (sym e) in
      let q : place (slots_of j) s ≡ at = cc p.1 in
      let w = inside_is 1 2048 (slots_of j) (both_true _ _ p.0).0 in
      omega (arith, place_in (slots_of j) s w.0)

  -- what is given is here, what is not is not
  pub given_here : (at : ℕ) → gives at ≡ held_rule j s → held_here j s ≡ true
  unfolding held_rule
  given_here at e = (passed (held_here j s) 20 (gives (place (slots_of j) s)) at (sym e)).0

  pub refused_here : (n : ℕ) → refuses n ≡ held_rule j s → held_here j s ≡ false
  refused_here n e = go (held_here j s) refl
    where
      go : (t : _) → held_here j s ≡ t → held_here j s ≡ false
      go false h = h
      go true h = gives_refuses (place (slots_of j) s) n (here h ∙ sym e)

-- ---- the serial after

pub next-none : (j : List ℕ) (s : ℕ) → s ≡ 0 → 0 ≡ next_of j s
unfolding next_of
next-none j s e = simp (under 1 4294967294 s (omega arith))

pub next_last : (j : List ℕ) (s : ℕ) → s ≡ 4294967295 → 0 ≡ next_of j s
unfolding next_of
next_last j s e = simp (over 1 4294967294 s (omega arith))

pub next_held : (j : List ℕ) (s : ℕ) → 1 ≤ s → s ≤ 4294967294 → held_here j (s + 1) ≡ true → s + 1 ≡ next_of j s
unfolding next_of
next_held j s l h e = simp (inside 1 4294967294 s l h, e)

pub next-not : (j : List ℕ) (s : ℕ) → 1 ≤ s → s ≤ 4294967294 → held_here j (s + 1) ≡ false → 0 ≡ next_of j s
unfolding next_of
next-not j s l h e = simp (inside 1 4294967294 s l h, e)
