-- One record after another: what the loop keeps, and what the rule on a script's length says.
use Prim.Native.Nat.{ℕ, suc, ◌≤◌, ◌<◌, ◌+◌, ◌*◌, ◌/◌}
use mathlib.Core.Path.{◌≡◌, refl, ◌∙◌, subst, subst⁻¹}
use mathlib.Core.Bool.{Bool, false, cond}
use lib.Dec.{eqb}
use mathlib.Core.List.{List, [], ◌++◌}
use native.Mathlib.Omega.{arith}
use lib.ListN.{length, replicate}
use Rattle.payer.specs.Payer.{Terms}
use Rattle.history.specs.History.{Done, aside}
use Rattle.plays.proofs.Cuts.{cut_of, word_of, kind_same, clock_same, serial_same, call_same}
use Rattle.plays.specs.Script.{clock_at, TotalsOf, Nothing, Bounded, Adds, script_rule, Cut}
use Rattle.plays.specs.declared.Totals.{Totals}
use Rattle.plays.proofs.Sums.{bounded_none, bounded_more, totals_append}
use Rattle.ledger.specs.declared.Ledger.{Ledger}
use Rattle.exchange.specs.Exchange.{Turn, makes, send, deliver, answer, place_at, own_at}
use Rattle.exchange.specs.Exchange.{State, as_state, cleared, turn_at, Runs, no_record, one_more, RunsAll, Exchanges, ran, not_whole, too_long}
use Rattle.exchange.specs.Inner.{Took}
use Rattle.exchange.specs.declared.Sums.{Sums}
use Rattle.std.proofs.Common.{Ok, Err}
use Rattle.reasons.specs.Reasons.{gives}
use Rattle.plays.specs.declared.Unplayed.{Unplayed}
use Rattle.plays.specs.declared.Unplayed.TheVariants.{NotWhole, TooLong}
use Rattle.exchange.proofs.Turned.{none_came}

-- the first i of n records were run from the state v, left w and came to r
pub record Going (s : List ℕ) (terms : Terms) (v w : State) (n i : ℕ) (r : Totals) : Type 0 where
  pub scratch_long : length w.scratch ≡ length v.scratch
  pub journal_long : length w.journal ≡ length v.journal
  pub air_long : length w.air ≡ length v.air
  pub in_range : i ≤ n
  pub small : Bounded i r
  pub done : List Done
  pub runs : Runs s terms v i done w
  pub totals : TotalsOf done r

pub going_start : (s : List ℕ) (terms : Terms) (v : State) (n : ℕ) (r : Totals) → Nothing 0 0 r → Going s terms v v n 0 r
going_start s terms v n r z = record {
  scratch_long = refl;
  journal_long = refl;
  air_long = refl;
  in_range = omega arith;
  small = bounded_none r z;
  done = [];
  runs = no_record;
  totals = none_came r z;
}

-- ---- a record that is cut from the script takes the turn that stands at its place

module _ (s : List ℕ) (terms : Terms) (t : List ℕ) (at : ℕ) where
  place_same : place_at (cut_of s at) 0 ≡ place_at s at
  place_same = word_of s at 16 (omega arith)

  own_same : own_at (cut_of s at) terms t 0 ≡ own_at s terms t at
  unfolding own_at
  own_same = λ i. cond (eqb (kind_same s at i) 2) aside (call_same s at terms t i)

  turn_same : turn_at (cut_of s at) terms t 0 ≡ turn_at s terms t at
  unfolding turn_at
  turn_same = λ i.
      cond (eqb (kind_same s at i) 5) (send (serial_same s at i) (place_same i))
      (cond (eqb (kind_same s at i) 6) (deliver (place_same i))
      (cond (eqb (kind_same s at i) 7) (answer (serial_same s at i))
      (makes (own_same i))))

  cut_took : (v : State) (r : Totals) (w : State) {c : List ℕ} → c ≡ cut_of s at → Took v (clock_at c 0) (turn_at c terms t 0) r w
      → Took v (clock_at s at) (turn_at s terms t at) r w
  cut_took v r w e p =
      subst (λ (x : ℕ). Took v x (turn_at s terms t at) r w) (clock_same s at)
      (subst (λ (x : Turn). Took v (clock_at (cut_of s at) 0) x r w) turn_same
      (subst (λ (x : List ℕ). Took v (clock_at x 0) (turn_at x terms t 0) r w) e p))

-- ---- one turn after another

pub going_turn : (s : List ℕ) (terms : Terms) (v w x : State) (n i : ℕ) (r y z : Totals)
    → Going s terms v w n i r → i < n → {c : List ℕ} → c ≡ cut_of s (128 * i)
    → Took w (clock_at c 0) (turn_at c terms w.scratch 0) y x → Adds r y z
    → length x.scratch ≡ length w.scratch → length x.journal ≡ length w.journal → length x.air ≡ length w.air
    → Going s terms v x n (i + 1) z
going_turn s terms v w x n i r y z g h e q a eu ek eb =
    let t : Took w (clock_at s (128 * i)) (turn_at s terms w.scratch (128 * i)) y x = cut_took s terms w.scratch (128 * i) w y x e q in
    let next : suc i ≡ i + 1 = omega arith in
    record {
      scratch_long = eu ∙ g.scratch_long;
      journal_long = ek ∙ g.journal_long;
      air_long = eb ∙ g.air_long;
      in_range = omega arith;
      small = bounded_more i r y z g.small t.small a;
      done = g.done ++ t.done;
      runs = subst (λ (m : ℕ). Runs s terms v m (g.done ++ t.done) x) next (one_more t.done g.runs t.turns);
      totals = totals_append g.done t.done r y z g.totals t.totals a;
    }

pub going_done : (s : List ℕ) (terms : Terms) (v : State) (i : ℕ) (zero : Bool) (r : Sums) (u k b : List ℕ)
    → Going s terms v (as_state u k b r.ledger zero) (length s / 128) i r.totals → length s / 128 ≤ i → RunsAll s terms v r u k b
going_done s terms v i zero r u k b g h =
    let n : i ≡ length s / 128 = let m = g.in_range in omega arith in
    record {
      done = g.done;
      zero_sent = zero;
      runs = subst (λ (m : ℕ). Runs s terms v m g.done (as_state u k b r.ledger zero)) n g.runs;
      totals = g.totals;
    }

-- ---- what run says

module _ (s : List ℕ) (terms : Terms) (t j a : List ℕ) (l : Ledger) where
  pub rule_unplayed : (x : Unplayed) → Cut s (Err x) → Exchanges s terms t j a l (script_rule s) (Err x) t j a
  rule_unplayed NotWhole e = subst⁻¹ (λ o. Exchanges s terms t j a l o (Err NotWhole) t j a) e not_whole
  rule_unplayed TooLong e = subst⁻¹ (λ o. Exchanges s terms t j a l o (Err TooLong) t j a) e too_long

  -- the air was cleared first
  pub cleared_ran : (c : List ℕ) (r : Sums) (u k b : List ℕ) → c ≡ replicate (length a) 0 → RunsAll s terms (as_state t j c l false) r u k b
      → RunsAll s terms (cleared t j a l) r u k b
  cleared_ran c r u k b e w = subst (λ (x : List ℕ). RunsAll s terms (as_state t j x l false) r u k b) e w

  pub rule_ran : (r : Sums) (u k b : List ℕ) → script_rule s ≡ gives tt → RunsAll s terms (cleared t j a l) r u k b
      → Exchanges s terms t j a l (script_rule s) (Ok r) u k b
  rule_ran r u k b e w = subst⁻¹ (λ o. Exchanges s terms t j a l o (Ok r) u k b) e (ran w)
