use Rattle.std.proofs.Common.{ℕ, List, [], rules, ◌≡◌, ◌<◌, ◌*◌, ◌/◌, length, get_or, ap, ◌∙◌, arith}
use Rattle.std.proofs.lemmas.Result.{err_from_is_err_and}
use Rattle.plays.proofs.Records.{few}
use Rattle.plays.proofs.Cuts.{cut_of, chunk_at, chunks_length}
use Rattle.plays.proofs.Sums.{bounded_fits}
use Rattle.replay.proofs.Scripts.{going_turn, going_done, rule_unplayed, rule_played, conserved}
use Rattle.replay.proofs.replay.Goals as goal
use Rattle.replay.proofs.replay.Goals.{After-play}

-- a turn is of a record that is there, and the loop ends after the last one
there : (c : After-play) → c.loop-r.r-index < length c.args.script.now / 128
there c =
    let n = ap (λ (r : List (List ℕ)). length r) c.in_ok-records.ensures.1 ∙ chunks_length (length c.args.script.now / 128) c.args.script.now in
    omega arith

pub returns-in_err-records-clause-replays : goal.returns-in_err-records-clause-replays
returns-in_err-records-clause-replays c =
    let p = err_from_is_err_and c.from_residual.result c.from_residual.ensures.1 in
    rw (p.1, p.2) (rule_unplayed _ _ _ _ _ c.in_err-records.ensures)

pub add-totals-requires : goal.add-totals-requires
add-totals-requires c =
    let h = there (goal.at.add-totals-requires c).After-play in
    bounded_fits _ _ _ (omega (arith, few _ c.in_ok-records.ensures.0)) c.loop-r.invariant.small c.play.ensures.small

pub loop-r-preserved : goal.loop-r-preserved
loop-r-preserved c =
    let s : List ℕ = c.args.script.now in
    let h = there (goal.at.loop-r-preserved c).After-play in
    let r : get_or c.in_ok-records.records.now c.loop-r.r-index [] ≡ cut_of s (128 * c.loop-r.r-index) =
    ap (λ (x : List (List ℕ)). get_or x c.loop-r.r-index []) c.in_ok-records.ensures.1 ∙ chunk_at (length s / 128) s c.loop-r.r-index [] h in
    going_turn _ _ _ _ _ _ _ _ _ _ _ _ _ c.loop-r.invariant h r c.play.ensures c.add-totals.ensures (omega arith) (omega arith)

pub returns-clause-replays : goal.returns-clause-replays
returns-clause-replays c =
    let n = ap (λ (r : List (List ℕ)). length r) c.in_ok-records.ensures.1 ∙ chunks_length (length c.args.script.now / 128) c.args.script.now in
    rule_played _ _ _ _ _ _ _ c.in_ok-records.ensures.0 (going_done _ _ _ _ _ _ _ _ c.loop-r.invariant (omega arith))

pub returns-clause-by_index : goal.returns-clause-by_index
returns-clause-by_index c =
    let n = ap (λ (r : List (List ℕ)). length r) c.in_ok-records.ensures.1 ∙ chunks_length (length c.args.script.now / 128) c.args.script.now in
    conserved _ _ _ _ _ _ _ (λ i. search rules) (going_done _ _ _ _ _ _ _ _ c.loop-r.invariant (omega arith))
