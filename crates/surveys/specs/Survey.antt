-- The survey, for the technician who meets 16: what each slot says of itself (house; beyond document 01).
use Rattle.std.specs.Prelude.{ℕ, ◌+◌, ◌*◌, ◌≤◌, ◌<◌, ◌≡◌, Bool, true, List, get_or, length, leb, Option, Result}
use Rattle.reasons.specs.Reasons.{Outcome, gives, refuses, demand, said}
use Rattle.reasons.specs.declared.Reason.{Reason}
use Rattle.slots.specs.Record.{is_held, is_released, serial_at, state_at, Zeros, Good}
use Rattle.slots.specs.Journal.{slots_of, sized, place}
use Rattle.slots.specs.Views.{formed, Seen}

-- slot k has a good record, whose serial belongs there
pub record Belongs (j : List ℕ) (k : ℕ) : Type 0 where
  pub some : 1 ≤ serial_at j (32 * k)
  pub slot : place (slots_of j) (serial_at j (32 * k)) ≡ 32 * k
  pub good : Good j (32 * k) (serial_at j (32 * k))

-- 0 free, 1 held, 2 released, 3 damaged, judged by the slot's own 32 bytes and by its serial belonging in that slot
pub data SlotIs (j : List ℕ) (k : ℕ) : ℕ → Type 0 where
  free : Zeros j (32 * k) (32 * k + 32) → SlotIs j k 0
  held : Belongs j k → is_held (state_at j (32 * k)) ≡ true → SlotIs j k 1
  released : Belongs j k → is_released (state_at j (32 * k)) ≡ true → SlotIs j k 2
  damaged : (Zeros j (32 * k) (32 * k + 32) → ⊥) → (Belongs j k → ⊥) → SlotIs j k 3

-- 16 only for a wrong length, then 1 for a short output; the answer is whether the journal is well formed
unfoldable pub survey_rule : Option ℕ → List ℕ → ℕ → Outcome Bool
survey_rule m j n =
    demand (sized (length j)) 16
    (demand (leb (slots_of j) n) 1
    (gives (formed m)))

-- one byte a slot, in the output's first bytes; later ones stay
pub record SlotsIn (j out k : List ℕ) : Type 0 where
  pub size : length k ≡ length out
  pub each : (i : ℕ) → i < slots_of j → SlotIs j i (get_or k i 0)
  pub later : (i : ℕ) → slots_of j ≤ i → get_or k i 0 ≡ get_or out i 0

-- what the output is after: unchanged where the call refuses
pub data Fills (j out : List ℕ) : Outcome Bool → List ℕ → Type 0 where
  filled : {f : Bool} {k : List ℕ} → SlotsIn j out k → Fills j out (gives f) k
  unfilled : {n : ℕ} → Fills j out (refuses n) out

abbrev pub Surveys : List ℕ → List ℕ → Result Bool Reason → List ℕ → Type 0
Surveys j out r k = Seen j (λ m. (said r ≡ survey_rule m j (length out)) × Fills j out (survey_rule m j (length out)) k)

-- the same where it is known whether the journal is well formed
abbrev pub SurveysAs : List ℕ → List ℕ → Bool → Result Bool Reason → List ℕ → Type 0
SurveysAs j out well r k =
    (m : Option ℕ) → formed m ≡ well → (said r ≡ survey_rule m j (length out)) × Fills j out (survey_rule m j (length out)) k
