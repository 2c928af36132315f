-- What one slot of a journal says, whatever stands in the others: judged by its own 32 bytes and by its serial belonging there (house; beyond
-- document 01).
use Rattle.std.specs.Prelude.{ℕ, ◌+◌, ◌*◌, Bool, cond, ◌&&◌, List, eqb, ltb, length, take, drop}
use Rattle.text.specs.Bytes.{every, all_digits}
use Rattle.text.specs.Numbers.{u16_at, u32_at}
use Rattle.reasons.specs.Reasons.{Outcome, gives, demand}
use Rattle.slots.specs.Record.{is_held, is_record, length_fits, kept, serial_at, amount_at, length_at, state_at}
use Rattle.slots.specs.Journal.{slots_of, sized, place}
use Rattle.remains.specs.declared.Fields.{Fields}
use Rattle.remains.specs.declared.Tests.{Tests}
use Rattle.remains.specs.declared.Slot.{Slot}
use Rattle.remains.specs.declared.Slot.TheVariants.{Free, Held, Released, Damaged}

-- the 32 bytes of slot k
abbrev pub slot_at : List ℕ → ℕ → List ℕ
slot_at j k = take 32 (drop (32 * k) j)

unfoldable pub is_zero : ℕ → Bool
is_zero b = eqb b 0

-- the numbers that stand in a slot, damaged or not
unfoldable pub fields_of : List ℕ → Fields
fields_of r = record {
  serial = serial_at r 0;
  clock = u32_at r 4;
  amount = amount_at r 0;
  label = u16_at r 12;
  length = length_at r 0;
  state = state_at r 0;
}

-- the tests of a record in slot k of n: a serial, which belongs in that slot; state held or released, amount above 0, length, digits as digits,
-- zeros as zeros
unfoldable pub tests_of : ℕ → ℕ → List ℕ → Tests
tests_of n k r = record {
  serial = ltb 0 (serial_at r 0);
  slot = eqb (place n (serial_at r 0)) (32 * k);
  state = is_record (state_at r 0);
  amount = ltb 0 (amount_at r 0);
  length = length_fits (state_at r 0) (length_at r 0);
  digits = all_digits (take (kept (state_at r 0)) (drop 16 r));
  zeros = every is_zero (drop (16 + kept (state_at r 0)) r);
}

abbrev pub passes : Tests → Bool
passes t = t.serial && (t.slot && (t.state && (t.amount && (t.length && (t.digits && t.zeros)))))

-- what the bytes r in slot k of n slots say; of a damaged slot every test is told
unfoldable pub told_of : ℕ → ℕ → List ℕ → Slot
told_of n k r =
    cond (every is_zero r) Free
    (cond (passes (tests_of n k r)) (cond (is_held (state_at r 0)) (Held (fields_of r)) (Released (fields_of r)))
    (Damaged (fields_of r) (tests_of n k r)))

abbrev pub told_at : List ℕ → ℕ → Slot
told_at j k = told_of (slots_of j) k (slot_at j k)

-- 16 for a length that is no journal's, 20 for a slot that the journal doesn't have
unfoldable pub look_rule : List ℕ → ℕ → Outcome Slot
look_rule j k =
    demand (sized (length j)) 16
    (demand (ltb k (slots_of j)) 20
    (gives (told_at j k)))

-- the survey's byte for a slot
abbrev pub survey_byte : Slot → ℕ
survey_byte Free = 0
survey_byte (Held f) = 1
survey_byte (Released f) = 2
survey_byte (Damaged f t) = 3

-- what a slot says but for its clock
abbrev pub clockless : Fields → Fields
clockless f = record { serial = f.serial; clock = 0; amount = f.amount; label = f.label; length = f.length; state = f.state }

abbrev pub but_clock : Slot → Slot
but_clock Free = Free
but_clock (Held f) = Held (clockless f)
but_clock (Released f) = Released (clockless f)
but_clock (Damaged f t) = Damaged (clockless f) t
