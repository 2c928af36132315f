use Rattle.std.proofs.Common.{ℕ, List, [], rules, ◌≡◌, ◌<◌, ◌*◌, ◌/◌, length, get_or, ap, ◌∙◌, arith}
use Rattle.std.proofs.lemmas.Result.{err_from_is_err_and}
use Rattle.plays.proofs.Records.{few}
use Rattle.plays.proofs.Cuts.{cut_of, chunk_at, chunks_length}
use Rattle.plays.proofs.Sums.{bounded_fits}
use Rattle.exchange.proofs.Turned.{nothing_yet}
use Rattle.exchange.proofs.Going.{going_start, going_turn, going_done, rule_unplayed, cleared_ran, rule_ran}
use Rattle.exchange.proofs.Laws.{agreed}
use Rattle.exchange.proofs.run.Goals as goal
use Rattle.exchange.proofs.run.Goals.{After-turn}

-- a turn is of a record that is there
there : (c : After-turn) → c.loop-r.r-index < length c.args.script.now / 128
there c =
    let n = ap (λ (r : List (List ℕ)). length r) c.in_ok-records.ensures.1 ∙ chunks_length (length c.args.script.now / 128) c.args.script.now in
    omega arith

pub returns-in_err-records-clause-exchanges : goal.returns-in_err-records-clause-exchanges
returns-in_err-records-clause-exchanges c =
    let p = err_from_is_err_and c.from_residual.result c.from_residual.ensures.1 in
    rw (p.1, p.2) (rule_unplayed _ _ _ _ _ _ _ c.in_err-records.ensures)

pub loop-r-init : goal.loop-r-init
loop-r-init c = going_start _ _ _ _ _ (nothing_yet _ c.default-totals.ensures)

pub add-totals-requires : goal.add-totals-requires
add-totals-requires c =
    let h = there (goal.at.add-totals-requires c).After-turn in
    bounded_fits _ _ _ (omega (arith, few _ c.in_ok-records.ensures.0)) c.loop-r.invariant.small c.turn.ensures.small

pub loop-r-preserved : goal.loop-r-preserved
loop-r-preserved c =
    let s : List ℕ = c.args.script.now in
    let h = there (goal.at.loop-r-preserved c).After-turn in
    let r : get_or c.in_ok-records.records.now c.loop-r.r-index [] ≡ cut_of s (128 * c.loop-r.r-index) =
    ap (λ (x : List (List ℕ)). get_or x c.loop-r.r-index []) c.in_ok-records.ensures.1 ∙ chunk_at (length s / 128) s c.loop-r.r-index [] h in
    going_turn _ _ _ _ _ _ _ _ _ _ c.loop-r.invariant h r c.turn.ensures c.add-totals.ensures (search rules) (search rules) (search rules)

pub returns-clause-exchanges : goal.returns-clause-exchanges
returns-clause-exchanges c =
    let n = ap (λ (r : List (List ℕ)). length r) c.in_ok-records.ensures.1 ∙ chunks_length (length c.args.script.now / 128) c.args.script.now in
    let w = going_done _ _ _ _ _ _ _ _ _ c.loop-r.invariant (omega arith) in
    rule_ran _ _ _ _ c.args.air.now _ _ _ _ _ c.in_ok-records.ensures.0
    (cleared_ran _ _ _ _ c.args.air.now _ _ _ _ _ _ (c.fill.ensures.after (search rules)) w)

pub returns-clause-agrees : goal.returns-clause-agrees
returns-clause-agrees c =
    let n = ap (λ (r : List (List ℕ)). length r) c.in_ok-records.ensures.1 ∙ chunks_length (length c.args.script.now / 128) c.args.script.now in
    let w = going_done _ _ _ _ _ _ _ _ _ c.loop-r.invariant (omega arith) in
    agreed _ _ _ _ c.args.air.now _ _ _ _ _ (cleared_ran _ _ _ _ c.args.air.now _ _ _ _ _ _ (c.fill.ensures.after (search rules)) w)
