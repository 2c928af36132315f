-- The ledgers that messages lead to are the sound ones.
use Prim.Native.Nat.{ℕ, zero, suc, ◌<◌, ◌+◌, ◌-◌, ◌*◌}
use mathlib.Core.Path.{◌≡◌, refl, sym, ◌∙◌, subst}
use mathlib.Core.Logic.{◌↔◌}
use mathlib.Core.Bool.{true}
use mathlib.Core.List.{List, ◌∷◌, ◌++◌}
use native.Mathlib.Omega.{arith}
use native.Mathlib.Decide.{dec_lt}
use borrow.Author.Tests.{eq-eqb}
use lib.ListN.{get_or, drop, replicate, get_or-eq_default}
use lib.Seq.{get_or-drop}
use Rattle.text.specs.Bytes.{is_digit, every}
use Rattle.text.specs.Numbers.{u32_at, le16, le32}
use Rattle.text.proofs.Numbers.{digit_small}
use Rattle.slots.specs.Record.{held_state, kept, serial_at, state_at, Good, record32}
use Rattle.slots.proofs.Ranges.{tells_yes}
use Rattle.slots.proofs.Records.{amount_of_lem, record_held, record_long, good_new}
use Rattle.ledger.specs.Ledger.{HeldRecord, sound, is_next, Bytes, LedTo, at_first, by_message}
use Rattle.ledger.specs.declared.Ledger.{Ledger}
use Rattle.ledger.proofs.Rule.{sound_is, is_sound, next_is, moves_on}
use Rattle.ledger.proofs.Laws.{opened-sound, stays_sound}

-- ---- what messages lead to is sound

led_sound : (l : Ledger) → LedTo l → sound l.taken l.total ≡ true
unfolding u32_at
led_sound l at_first = opened-sound
led_sound k (by_message {l} message before b t) = stays_sound l message k (omega (arith, b.byte 8, b.byte 9, b.byte 10, b.byte 11)) t

-- ---- the record of the next serial and an amount is a message that the ledger takes

byte_more : {b : ℕ} {s : List ℕ} → b < 256 → Bytes s → Bytes (b ∷ s)
byte_more {b} {s} h f = record { byte = at }
  where
    at : (i : ℕ) → get_or (b ∷ s) i 0 < 256
    at zero = h
    at (suc i) = f.byte i

number_more : (x : ℕ) {s : List ℕ} → Bytes s → Bytes (le32 x ++ s)
unfolding le32
number_more x f = byte_more (omega arith) (byte_more (omega arith) (byte_more (omega arith) (byte_more (omega arith) f)))

module _ (p a : ℕ) (next : p < 4294967295) (some : 0 < a) (small : a < 4294967296) where
  abbrev the : List ℕ
  the = record32 (suc p) 0 a 0 (replicate 13 48)

  good : Good the 0 (suc p)
  unfolding is_digit every
  good = good_new (suc p) 0 a 0 (replicate 13 48) refl refl (omega arith) some small

  held : HeldRecord the
  held = record {
    size = record_long (suc p) 0 a 0 (replicate 13 48) refl;
    some = omega (arith, good.serial);
    good = subst (Good the 0) (sym good.serial) good;
    held = record_held (suc p) 0 a 0 (replicate 13 48);
  }

  -- the digits, and zeros from there on
  late : Bytes (drop 16 the)
  late = record { byte = λ i. go i (dec_lt (16 + i) (16 + kept (state_at the 0))) (dec_lt (16 + i) 32) }
    where
      go : (i : ℕ) → Dec (16 + i < 16 + kept (state_at the 0)) → Dec (16 + i < 32) → get_or (drop 16 the) i 0 < 256
      go i (yes d) w = omega (arith, get_or-drop 16 the i 0, digit_small (get_or the (16 + i) 0) (good.digits (16 + i) (omega arith) d))
      go i (no d) (yes w) = omega (arith, get_or-drop 16 the i 0, good.zeros (16 + i) (omega arith) w)
      go i (no d) (no w) = omega (arith, get_or-drop 16 the i 0, get_or-eq_default the 0 {n = 16 + i} (omega (arith, held.size)))

  bytes : Bytes the
  unfolding record32 le32 le16 held_state
  bytes =
      number_more (suc p) (number_more 0 (number_more a
      (byte_more (omega arith) (byte_more (omega arith) (byte_more (omega arith) (byte_more (omega arith) late))))))

  wanted : is_next p (serial_at the 0) ≡ true
  wanted = next_is p (serial_at the 0) next ∙ eq-eqb (serial_at the 0) (p + 1) (omega (arith, good.serial))

  leads_on : (total : ℕ) → sound p total ≡ true → LedTo (record { taken = p; total = total }) → LedTo (record { taken = suc p; total = total + a })
  leads_on total fine before =
      by_message the before bytes
      (moves_on (record { taken = p; total = total }) the true (tells_yes held) refl fine (suc p) a
      (sym good.serial) (sym (amount_of_lem (suc p) 0 a 0 (replicate 13 48) small)) wanted)

-- ---- what is sound, messages lead to

-- the last one's amount is 1, or as much more as the messages before it can't have brought
sound_led : (taken total : ℕ) → taken < 4294967296 → sound taken total ≡ true → LedTo (record { taken = taken; total = total })
sound_led zero total h fine =
    let e : 0 ≡ total = omega (arith, (sound_is 0 total fine).1) in
    subst (λ (x : ℕ). LedTo (record { taken = 0; total = x })) e at_first
sound_led (suc p) total h fine =
    let w = sound_is (suc p) total fine in
    let a : ℕ = 1 + (total - (p * 4294967295 + 1)) in
    let rest : sound p (total - a) ≡ true = is_sound p (total - a) (omega (arith, w)) (omega (arith, w)) in
    let e : total - a + a ≡ total = omega (arith, w) in
    subst (λ (x : ℕ). LedTo (record { taken = suc p; total = x })) e
    (leads_on p a (omega arith) (omega arith) (omega (arith, w)) (total - a) rest (sound_led p (total - a) (omega arith) rest))

-- "a ledger that no messages can have led to (total under `taken`, or over `taken` times 4,294,967,295) is refused": the rule's test for it is exact
pub led_to_exactly : (l : Ledger) → l.taken < 4294967296 → LedTo l ↔ (sound l.taken l.total ≡ true)
led_to_exactly l h = (led_sound l, sound_led l.taken l.total h)
