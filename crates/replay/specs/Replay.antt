-- The calls of a script, one after another, and what replaying it comes to.
use Rattle.std.specs.Prelude.{ℕ, suc, ◌+◌, ◌*◌, ◌/◌, ◌≡◌, List, [], ◌∷◌, length, Result, Ok, Err, Some}
use Rattle.reasons.specs.Reasons.{Outcome, gives, refuses}
use Rattle.slots.specs.Journal.{NewestIs}
use Rattle.held.specs.Held.{held_list, sum_of}
use Rattle.payer.specs.Payer.{Terms}
use Rattle.history.specs.History.{Does, Done}
use Rattle.plays.specs.Script.{clock_at, call_at, scratch_left, TotalsOf}
use Rattle.plays.specs.declared.Totals.{Totals}
use Rattle.plays.specs.declared.Unplayed.{Unplayed}
use Rattle.plays.specs.declared.Unplayed.TheVariants.{NotWhole, TooLong}

-- the m records from number i on, played on the scratch t and the journal j, are the calls ds and leave the scratch u and the journal k
pub data Plays (s : List ℕ) (terms : Terms) : ℕ → ℕ → List ℕ → List ℕ → List Done → List ℕ → List ℕ → Type 0 where
  no_record : {i : ℕ} {t j : List ℕ} → Plays s terms i 0 t j [] t j
  one_record : {i m : ℕ} {t j u k : List ℕ} {ds : List Done} (d : Done)
      → d.call ≡ call_at s terms t (128 * i) → d.clock ≡ clock_at s (128 * i) → Does j d.clock d.call d.answer d.after
      → Plays s terms (i + 1) m (scratch_left d.call d.answer t) d.after ds u k → Plays s terms i (suc m) t j (d ∷ ds) u k

-- ---- the promises

-- all records of the script were played, and r are the totals of their calls
pub record PlaysAll (s : List ℕ) (terms : Terms) (t j : List ℕ) (r : Totals) (u k : List ℕ) : Type 0 where
  pub done : List Done
  pub plays : Plays s terms 0 (length s / 128) t j done u k
  pub totals : TotalsOf done r

-- what replaying a script allows; a refusal changes nothing
pub data Replays (s : List ℕ) (terms : Terms) (t j : List ℕ) : Outcome (Unit {0}) → Result Totals Unplayed → List ℕ → List ℕ → Type 0 where
  played : {r : Totals} {u k : List ℕ} → PlaysAll s terms t j r u k → Replays s terms t j (gives tt) (Ok r) u k
  not_whole : Replays s terms t j (refuses 6) (Err NotWhole) t j
  too_long : Replays s terms t j (refuses 99) (Err TooLong) t j

-- held before + booked = held after + released, in number and in amount, of a journal whose newest serial was b
pub record Conserved (b : ℕ) (j : List ℕ) (r : Totals) (k : List ℕ) : Type 0 where
  pub newest : NewestIs k (Some (b + r.booked))
  pub counts : length (held_list j b) + r.booked ≡ length (held_list k (b + r.booked)) + r.released
  pub sums : sum_of (held_list j b) + r.takings ≡ sum_of (held_list k (b + r.booked)) + r.remitted

abbrev pub Conserves : ℕ → List ℕ → Result Totals Unplayed → List ℕ → Type 0
Conserves b j (Ok r) k = Conserved b j r k
Conserves b j (Err x) k = k ≡ j
