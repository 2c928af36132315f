-- The rule of taking, outcome by outcome.
use Prim.Native.Nat.{ℕ, ◌≤◌, ◌<◌, ◌+◌, ◌*◌}
use mathlib.Core.Path.{◌≡◌, sym, ap, ◌∙◌}
use mathlib.Core.Bool.{Bool, true, false, cond, ◌&&◌}
use mathlib.Core.List.{List}
use lib.Dec.{eqb, leb, ltb}
use borrow.Author.Tests.{le-leb, lt-leb, leb-true, lt-ltb, le-ltb, ltb-true, eqb-true}
use Rattle.reasons.specs.Reasons.{gives, demand}
use Rattle.reasons.specs.declared.Reason.TheVariants.{WrongLayout}
use Rattle.text.proofs.Tests.{both_true}
use Rattle.slots.specs.Record.{serial_at, amount_at}
use Rattle.slots.specs.Journal.{Tells}
use Rattle.ledger.specs.Ledger.{HeldRecord, sound, is_next, wants, moved, take_rule, Takes}
use Rattle.ledger.specs.declared.Ledger.{Ledger}
use Rattle.std.proofs.Common.{Ok, Err}

-- ---- a sound ledger

pub few : (taken total : ℕ) → total < taken → sound taken total ≡ false
unfolding sound
few taken total h = ap (λ (t : Bool). t && leb total (taken * 4294967295)) (lt-leb taken total h)

pub enough : (taken total : ℕ) → taken ≤ total → sound taken total ≡ leb total (taken * 4294967295)
unfolding sound
enough taken total h = ap (λ (t : Bool). t && leb total (taken * 4294967295)) (le-leb taken total h)

pub sound_is : (taken total : ℕ) → sound taken total ≡ true → (taken ≤ total) × (total ≤ taken * 4294967295)
unfolding sound
sound_is taken total h =
    let p = both_true (leb taken total) (leb total (taken * 4294967295)) h in
    (leb-true taken total p.0, leb-true total (taken * 4294967295) p.1)

pub is_sound : (taken total : ℕ) → taken ≤ total → total ≤ taken * 4294967295 → sound taken total ≡ true
is_sound taken total h l = enough taken total h ∙ le-leb total (taken * 4294967295) l

-- ---- what is wanted

pub next-none : (taken serial : ℕ) → 4294967295 ≤ taken → is_next taken serial ≡ false
unfolding is_next
next-none taken serial h = ap (λ (t : Bool). t && eqb serial (taken + 1)) (le-ltb taken 4294967295 h)

pub next_is : (taken serial : ℕ) → taken < 4294967295 → is_next taken serial ≡ eqb serial (taken + 1)
unfolding is_next
next_is taken serial h = ap (λ (t : Bool). t && eqb serial (taken + 1)) (lt-ltb taken 4294967295 h)

pub is_next_lem : (taken serial : ℕ) → is_next taken serial ≡ true → (taken < 4294967295) × (serial ≡ taken + 1)
unfolding is_next
is_next_lem taken serial h =
    let p = both_true (ltb taken 4294967295) (eqb serial (taken + 1)) h in
    (ltb-true taken 4294967295 p.0, eqb-true serial (taken + 1) p.1)

module _ (l : Ledger) (message : List ℕ) where
  -- ---- what is answered

  module _ (held : Bool) (tells : Tells held (HeldRecord message)) where
    pub foreign : held ≡ false → Takes l message (Err WrongLayout)
    unfolding take_rule
    foreign h = record {
      held = held;
      tells = tells;
      says = sym (ap (λ (t : Bool). demand t 6 (demand (sound l.taken l.total) 6 (gives (cond (wants l message) (moved l message) l)))) h);
    }

    module _ (yes : held ≡ true) where
      into : demand (sound l.taken l.total) 6 (gives (cond (wants l message) (moved l message) l)) ≡ take_rule held l message
      unfolding take_rule
      into = sym (ap (λ (t : Bool). demand t 6 (demand (sound l.taken l.total) 6 (gives (cond (wants l message) (moved l message) l)))) yes)

      pub unsound : sound l.taken l.total ≡ false → Takes l message (Err WrongLayout)
      unsound h = record {
        held = held;
        tells = tells;
        says = sym (ap (λ (t : Bool). demand t 6 (gives (cond (wants l message) (moved l message) l))) h) ∙ into;
      }

      module _ (fine : sound l.taken l.total ≡ true) where
        given : gives (cond (wants l message) (moved l message) l) ≡ take_rule held l message
        given = sym (ap (λ (t : Bool). demand t 6 (gives (cond (wants l message) (moved l message) l))) fine) ∙ into

        pub unmoved : wants l message ≡ false → Takes l message (Ok l)
        unmoved h = record {
          held = held;
          tells = tells;
          says = sym (ap (λ (t : Bool). gives (cond t (moved l message) l)) h) ∙ given;
        }

        pub moves_on : (serial amount : ℕ) → serial ≡ serial_at message 0 → amount ≡ amount_at message 0 → wants l message ≡ true
            → Takes l message (Ok (record { taken = serial; total = l.total + amount }))
        moves_on serial amount es ea h = record {
          held = held;
          tells = tells;
          says = (λ i. gives (record { taken = (es ∙ (is_next_lem l.taken (serial_at message 0) h).1) i; total = l.total + ea i }))
              ∙ sym (ap (λ (t : Bool). gives (cond t (moved l message) l)) h) ∙ given;
        }
