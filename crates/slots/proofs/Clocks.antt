-- No call compares clocks: a journal's view is told by its bytes outside its records' clocks.
use Rattle.std.proofs.Common.{Option, Some, None}
use Prim.Native.Nat.{ℕ, ◌<◌, ◌+◌, ◌-◌, ◌*◌, ◌/◌, ◌%◌}
use mathlib.Core.Path.{◌≡◌, refl, sym, ap, ◌∙◌, subst}
use mathlib.Core.Bool.{Bool, false, ◌&&◌, and-false}
use mathlib.Core.List.{List}
use native.Mathlib.Omega.{arith}
use lib.ListN.{get_or}
use Rattle.text.specs.Bytes.{within}
use Rattle.slots.specs.Record.{is_held, is_released, is_record, length_fits, kept, length_at, state_at}
use Rattle.slots.specs.Journal.{slots_of, place, state_of, Formed, NewestIs, SameButClocks}
use Rattle.slots.proofs.States.{free_no_record}
use Rattle.slots.proofs.Records.{good_same}

module _ (j k : List ℕ) (w : SameButClocks j k) where
  -- byte o of a slot
  pub slot_byte : (x o : ℕ) → o < 32 → within 4 7 o ≡ false → get_or j (32 * x + o) 0 ≡ get_or k (32 * x + o) 0
  slot_byte x o h c =
      let q : (32 * x + o) % 32 ≡ o = omega arith in
      w.bytes (32 * x + o) (ap (λ (y : ℕ). within 4 7 y && is_record (state_at j (32 * ((32 * x + o) / 32)))) q ∙ ap (λ (t : Bool). t && is_record (state_at j (32 * ((32 * x + o) / 32)))) c)

  pub slot_state : (x : ℕ) → state_at j (32 * x) ≡ state_at k (32 * x)
  slot_state x = slot_byte x 15 (omega arith) refl

  pub same_state : (n s : ℕ) → state_of j n s ≡ state_of k n s
  same_state n s = slot_state ((s - 1) % n)

  -- a free slot
  free_byte : (i : ℕ) → is_record (state_at j (32 * (i / 32))) ≡ false → get_or j i 0 ≡ get_or k i 0
  free_byte i h = w.bytes i (ap (λ (t : Bool). within 4 7 (i % 32) && t) h ∙ and-false (within 4 7 (i % 32)))

  pub clocks_turned : SameButClocks k j
  clocks_turned = record {
    size = sym w.size;
    bytes = λ i h. sym (w.bytes i (ap (λ (x : ℕ). within 4 7 (i % 32) && is_record x) (slot_state (i / 32)) ∙ h));
  }

  same_formed : (n b : ℕ) → Formed j n b → Formed k n b
  same_formed n b f =
      record {
        size = sym w.size ∙ f.size;
        least = f.least;
        most = f.most;
        stands = λ s l h.
            let e : state_at k (place n s) ≡ state_at j (place n s) = sym (same_state n s) in
            good_same j k (place n s) (place n s) s (λ i m _ c. sym (slot_byte ((s - 1) % n) i m c)) (ap is_record e ∙ (f.stands s l h).state) (ap kept e)
            (ap (λ (x : ℕ). length_fits x (length_at j (place n s))) e) (f.stands s l h);
        rest = λ i l h.
            let z : state_at j (32 * (i / 32)) ≡ 0 = f.rest (32 * (i / 32) + 15) (omega arith) (omega (arith, w.size, f.size)) in
            sym (free_byte i (ap is_record z ∙ free_no_record)) ∙ f.rest i l (omega (arith, w.size));
        order = λ s t a b c d r h. f.order s t a b c d (ap is_released (same_state n s) ∙ r) (ap is_held (same_state n t) ∙ h);
      }

-- "No call compares clocks": journals that differ in clocks alone have one view
pub clock_view : (j k : List ℕ) → SameButClocks j k → (m : Option ℕ) → NewestIs j m → NewestIs k m
clock_view j k w None h = λ n b f. h n b (same_formed k j (clocks_turned j k w) n b f)
clock_view j k w (Some b) f = subst (λ (n : ℕ). Formed k n b) (ap (λ (x : ℕ). x / 32) w.size) (same_formed j k w (slots_of j) b f)
