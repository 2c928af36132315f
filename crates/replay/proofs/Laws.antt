-- What a replayed script keeps, and that it allows one outcome.
use Prim.Native.Nat.{ℕ, ◌*◌, ◌≤◌}
use mathlib.Core.Path.{◌≡◌}
use mathlib.Core.List.{List}
use lib.ListN.{replicate}
use Rattle.payer.specs.Payer.{Terms}
use Rattle.history.specs.History.{Demand3}
use Rattle.history.proofs.Laws.{demand_3}
use Rattle.plays.specs.declared.Totals.{Totals}
use Rattle.plays.specs.declared.Unplayed.{Unplayed}
use Rattle.std.proofs.Common.{Result}
use Rattle.plays.specs.Script.{script_rule}
use Rattle.replay.specs.Replay.{PlaysAll, Replays}
use Rattle.replay.proofs.One.{one_replay}
use Rattle.replay.proofs.Scripts.{plays_run}

-- "on code": what replay plays on an all-zero journal is such a sequence of calls
pub replay_keeps : (n : ℕ) → 1 ≤ n → n ≤ 2048 → (s : List ℕ) (terms : Terms) (t : List ℕ) (r : Totals) (u k : List ℕ)
    (w : PlaysAll s terms t (replicate (32 * n) 0) r u k) → Demand3 w.done k
replay_keeps n l h s terms t r u k w = demand_3 n l h w.done k (plays_run w.plays)

-- any two outcomes that replay allows are equal: answer, scratch and journal
pub replay_one : (s : List ℕ) (terms : Terms) (t j : List ℕ) (r q : Result Totals Unplayed) (u v k l : List ℕ)
    → Replays s terms t j (script_rule s) r u k → Replays s terms t j (script_rule s) q v l → (r ≡ q) × (u ≡ v) × (k ≡ l)
replay_one s terms t j = one_replay s terms t j (script_rule s)
