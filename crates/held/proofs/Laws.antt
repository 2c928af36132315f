-- Each promise determines its outcome: any two answers that it allows are equal. The list of held payments, by rising serial.
use Prim.Native.Nat.{ℕ, zero, suc, ◌≤◌, ◌<◌, ◌+◌, ◌-◌}
use mathlib.Core.Path.{◌≡◌, refl, sym, ap, ◌∙◌, subst, subst⁻¹}
use mathlib.Core.Bool.{Bool, true, false, cond}
use mathlib.Core.List.{List, [], ◌∷◌}
use native.Mathlib.Omega.{arith}
use denote.Ref.{Bor}
use lib.ListN.{get_or, take, drop}
use lib.Seq.{get_or-take, get_or-drop}
use Rattle.text.specs.Numbers.{u32_at}
use Rattle.text.specs.Parts.{PartOf}
use Rattle.text.proofs.Parts.{Same, part_one}
use Rattle.reasons.specs.Reasons.{Outcome}
use Rattle.reasons.proofs.Laws.{gives_refuses, said_one}
use Rattle.reasons.specs.declared.Reason.{Reason}
use Rattle.std.proofs.Common.{Result}
use Rattle.slots.specs.Record.{is_held}
use Rattle.slots.specs.Journal.{slots_of, place, state_of, Formed}
use Rattle.slots.proofs.Records.{u32_in}
use Rattle.slots.proofs.Views.{one_view}
use Rattle.held.specs.declared.Told.{Told}
use Rattle.held.specs.Held.{record_at, held_after, held_list, low_of, serial_of}
use Rattle.held.specs.Rules.{Shows, the_record, nothing, TellsOf, Finds, ShowsOf, NumberOfShow}

-- ---- the calls

pub one_telling : (j : List ℕ) (r q : Result Told Reason) → TellsOf j r → TellsOf j q → r ≡ q
one_telling j r q a b = let w = one_view j a b in said_one r q (w.1 ∙ sym w.2)

pub one_finding : (j : List ℕ) (s : ℕ) (r q : Result ℕ Reason) → Finds j s r → Finds j s q → r ≡ q
one_finding j s r q a b = let w = one_view j a b in said_one r q (w.1 ∙ sym w.2)

pub one_number : (j : List ℕ) (s x y : ℕ) → NumberOfShow j s x → NumberOfShow j s y → x ≡ y
one_number j s x y a b = let w = one_view j a b in w.1 ∙ sym w.2

-- what is shown for one outcome is one part
pub shows_one : (j p q : Bor (List ℕ)) (o u : Outcome ℕ) → o ≡ u → Shows j o p → Shows j u q → Same p q
shows_one j p q o u e (the_record {at = a} v) (the_record {at = b} w) =
    let n : a ≡ b = cc in part_one j p q b 32 (subst (λ (x : ℕ). PartOf j x 32 p) n v) w
shows_one j p q o u e (the_record {at = a} v) (nothing {n = n} w) = gives_refuses a n e
shows_one j p q o u e (nothing {n = n} v) (the_record {at = a} w) = gives_refuses a n (sym e)
shows_one j p q o u e (nothing v) (nothing w) = part_one j p q 0 0 v w

pub one_showing : (j p q : Bor (List ℕ)) (s : ℕ) → ShowsOf j s p → ShowsOf j s q → Same p q
one_showing j p q s a b = let w = one_view j.now a b in shows_one j p q _ _ refl w.1 w.2

-- ---- the list of held payments

-- records by rising serial, all above low
pub data Rising : ℕ → List (List ℕ) → Type 0 where
  none : {low : ℕ} → Rising low []
  more : {low : ℕ} {r : List ℕ} {rs : List (List ℕ)} → low < serial_of r → Rising (serial_of r) rs → Rising low (r ∷ rs)

rising_down : (low up : ℕ) (rs : List (List ℕ)) → low ≤ up → Rising up rs → Rising low rs
rising_down low up rs h none = none
rising_down low up rs h (more {r = r} l w) = let q : low < serial_of r = omega arith in more q w

-- a kept record's serial, read off its own bytes
pub record_serial : (j : List ℕ) (n b s : ℕ) → Formed j n b → b - n < s → s ≤ b → serial_of (record_at j n s) ≡ s
unfolding record_at
record_serial j n b s f l h =
    let z : place n s + 0 ≡ place n s = omega arith in
    u32_in (take 32 (drop (place n s) j)) j 0 (place n s) 0
    (λ x m. get_or-take 32 (drop (place n s) j) (0 + (0 + x)) 0 (omega arith) ∙ get_or-drop (place n s) j (0 + (0 + x)) 0
    ∙ (let e : place n s + (0 + (0 + x)) ≡ place n s + (0 + x) = omega arith in ap (λ (y : ℕ). get_or j y 0) e))
    ∙ ap (u32_at j) z ∙ (f.stands s l h).serial

rising_after : (j : List ℕ) (n b low m : ℕ) → Formed j n b → b - n ≤ low → low + m ≤ b → Rising low (held_after j n low m)
unfolding held_after
rising_after j n b low zero f l h = none
rising_after j n b low (suc m) f l h = go (is_held (state_of j n (low + 1))) (rising_after j n b (low + 1) m f (omega arith) (omega arith))
  where
    go : (t : Bool) → Rising (low + 1) (held_after j n (low + 1) m)
        → Rising low (cond t (record_at j n (low + 1) ∷ held_after j n (low + 1) m) (held_after j n (low + 1) m))
    go false w = rising_down low (low + 1) (held_after j n (low + 1) m) (omega arith) w
    go true w =
        let e : serial_of (record_at j n (low + 1)) ≡ low + 1 = record_serial j n b (low + 1) f (omega arith) (omega arith) in
        let q : low < serial_of (record_at j n (low + 1)) = omega arith in
        more q (subst⁻¹ (λ (s : ℕ). Rising s (held_after j n (low + 1) m)) e w)

-- "held records .. by rising serial, each once": never by clock
pub oldest_first : (j : List ℕ) (b : ℕ) → Formed j (slots_of j) b → Rising 0 (held_list j b)
oldest_first j b f =
    rising_down 0 (low_of j b) (held_list j b) (omega arith) (rising_after j (slots_of j) b (low_of j b) (b - low_of j b) f (omega arith) (omega arith))
