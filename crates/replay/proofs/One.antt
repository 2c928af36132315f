-- Each script allows one outcome.
use Prim.Native.Nat.{ℕ, ◌+◌}
use mathlib.Core.Path.{◌≡◌, refl, sym, ap, ◌∙◌, subst}
use mathlib.Core.List.{List, ◌∷◌}
use Rattle.reasons.specs.Reasons.{Outcome}
use Rattle.payer.specs.Payer.{Terms}
use Rattle.history.specs.History.{Call, AnswerTo, Does, Done}
use Rattle.history.proofs.One.{one_outcome}
use Rattle.plays.proofs.Sums.{totals_one}
use Rattle.std.proofs.Common.{Result, Ok}
use Rattle.plays.specs.declared.Totals.{Totals}
use Rattle.plays.specs.declared.Unplayed.{Unplayed}
use Rattle.plays.specs.Script.{scratch_left, TotalsOf}
use Rattle.replay.specs.Replay.{Plays, no_record, one_record, Replays, played, not_whole, too_long}

-- a call that was made is told by its clock reading and its arguments
one_done : (j : List ℕ) (d : Done) (t : ℕ) (c : Call) → d.clock ≡ t → d.call ≡ c → Does j d.clock d.call d.answer d.after
    → (a : AnswerTo c) (k : List ℕ) → Does j t c a k → d ≡ record { clock = t; call = c; answer = a; after = k }
one_done j d t c et ec w =
    subst (λ (x : ℕ). (a : AnswerTo c) (k : List ℕ) → Does j x c a k → d ≡ record { clock = x; call = c; answer = a; after = k }) et
    (subst (λ (x : Call). (a : AnswerTo x) (k : List ℕ) → Does j d.clock x a k → d ≡ record { clock = d.clock; call = x; answer = a; after = k }) ec
    (λ a k v.
    let o = one_outcome j d.clock d.call d.answer a d.after k w v in
    λ i. record { clock = d.clock; call = d.call; answer = o.0 i; after = o.1 i }))

plays_one : {s : List ℕ} {terms : Terms} {t j u k v l : List ℕ} {i m : ℕ} {ds es : List Done} → Plays s terms i m t j ds u k → Plays s terms i m t j es v l
    → (ds ≡ es) × (u ≡ v) × (k ≡ l)
plays_one no_record no_record = (refl, refl, refl)
plays_one {s} {terms} {t} {j} {u} {k} {v} {l} (one_record {i = i} {m = m} {ds = ds} d ec et w p) (one_record e fc ft x q) =
    let de : d ≡ e = one_done j d e.clock e.call (et ∙ sym ft) (ec ∙ sym fc) w e.answer e.after x in
    let r = plays_one (subst (λ (y : Done). Plays s terms (i + 1) m (scratch_left y.call y.answer t) y.after ds u k) de p) q in
    ((λ n. de n ∷ r.0 n), r.1, r.2)

pub one_replay : (s : List ℕ) (terms : Terms) (t j : List ℕ) (o : Outcome (Unit {0})) (r q : Result Totals Unplayed) (u v k l : List ℕ)
    → Replays s terms t j o r u k → Replays s terms t j o q v l → (r ≡ q) × (u ≡ v) × (k ≡ l)
one_replay s terms t j o r q u v k l (played {r = x} a) (played {r = y} b) =
    let w = plays_one a.plays b.plays in
    (ap Ok (totals_one b.done x y (subst (λ (ds : List Done). TotalsOf ds x) w.0 a.totals) b.totals), w.1, w.2)
one_replay s terms t j o r q u v k l not_whole not_whole = (refl, refl, refl)
one_replay s terms t j o r q u v k l too_long too_long = (refl, refl, refl)
