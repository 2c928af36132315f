-- Running a script allows one outcome.
use Prim.Native.Nat.{ℕ, ◌*◌}
use mathlib.Core.Path.{◌≡◌, refl, sym, ap, ◌∙◌, subst, subst⁻¹}
use mathlib.Core.Bool.{Bool, true, false}
use mathlib.Core.List.{List, [], ◌∷◌, ◌++◌}
use Rattle.reasons.specs.Reasons.{Outcome}
use Rattle.slots.proofs.Views.{one_view}
use Rattle.payer.specs.Payer.{Terms}
use Rattle.history.specs.History.{Call, release, Done}
use Rattle.history.proofs.One.{one_outcome}
use Rattle.plays.specs.Script.{clock_at, scratch_left, TotalsOf}
use Rattle.plays.proofs.Sums.{totals_one}
use Rattle.ledger.specs.declared.Ledger.{Ledger}
use Rattle.ledger.proofs.Laws.{take_one}
use Rattle.channel.specs.Channel.{made}
use Rattle.exchange.specs.Exchange.{State, message_at, was_sent, hearing, calling, Turn, makes, send, deliver, answer, turn_at}
use Rattle.exchange.specs.Exchange.{Makes, Quiet, Answered, Turns, Runs, no_record, one_more, Exchanges, ran, not_whole, too_long}
use Rattle.std.proofs.Common.{Result, Ok}
use Rattle.exchange.specs.declared.Sums.{Sums}
use Rattle.plays.specs.declared.Unplayed.{Unplayed}

quiet_one : {ds es : List Done} {w x u v : State} → u ≡ v → Quiet ds w u → Quiet es x v → (ds ≡ es) × (w ≡ x)
quiet_one e a b = (a.none ∙ sym b.none, a.is ∙ e ∙ sym b.is)

makes_one : (v : State) (t : ℕ) (c : Call) (ds es : List Done) (w x : State) → Makes v t c ds w → Makes v t c es x → (ds ≡ es) × (w ≡ x)
makes_one v t c ds es w x a b =
    let o = one_outcome v.journal t c a.answer b.answer a.after b.after a.does b.does in (
      a.done ∙ (λ i. made t c (o.0 i) (o.1 i) ∷ []) ∙ sym b.done,
      a.is ∙ (λ i. calling v (scratch_left c (o.0 i) v.scratch) (o.1 i)) ∙ sym b.is,
    )

turns_one : (v : State) (t : ℕ) (r : Turn) (ds es : List Done) (w x : State) → Turns v t r ds w → Turns v t r es x → (ds ≡ es) × (w ≡ x)
turns_one v t (makes c) ds es w x a b = makes_one v t c ds es w x a b
turns_one v t (send s place) ds es w x a b = let o = one_view v.journal a b in quiet_one refl o.1 o.2
turns_one v t (deliver place) ds es w x a b =
    quiet_one (ap (hearing v) (take_one v.ledger (message_at v.air place) a.answer b.answer a.takes b.takes)) a.quiet b.quiet
turns_one v t (answer s) ds es w x a b = by (was_sent v s) a b
  where
    by : (sent : Bool) → Answered sent v t s ds w → Answered sent v t s es x → (ds ≡ es) × (w ≡ x)
    by true a b = makes_one v t (release s) ds es w x a b
    by false a b = quiet_one refl a b

runs_one : {s : List ℕ} {terms : Terms} {v : State} {i : ℕ} {ds es : List Done} {w x : State} → Runs s terms v i ds w → Runs s terms v i es x
    → (ds ≡ es) × (w ≡ x)
runs_one no_record no_record = (refl, refl)
runs_one {s} {terms} {v} (one_more {i = i} {w = w} {x = x} es a p) (one_more {x = z} fs b q) =
    let o = runs_one a b in
    let same = subst⁻¹ (λ (n : State). Turns n (clock_at s (128 * i)) (turn_at s terms n.scratch (128 * i)) fs z) o.1 q in
    let u = turns_one w (clock_at s (128 * i)) (turn_at s terms w.scratch (128 * i)) es fs x z p same in
    ((λ k. o.0 k ++ u.0 k), u.1)

-- any two outcomes that running a script allows are equal: answer, scratch, journal and air
pub run_one : (s : List ℕ) (terms : Terms) (t j a : List ℕ) (l : Ledger) (o : Outcome (Unit {0})) (r q : Result Sums Unplayed) (u v k m b c : List ℕ)
    → Exchanges s terms t j a l o r u k b → Exchanges s terms t j a l o q v m c → (r ≡ q) × (u ≡ v) × (k ≡ m) × (b ≡ c)
run_one s terms t j a l o r q u v k m b c (ran {r = x} p) (ran {r = y} w) =
    let e = runs_one p.runs w.runs in
    let f : x.totals ≡ y.totals =
    totals_one w.done x.totals y.totals (subst (λ (ds : List Done). TotalsOf ds x.totals) e.0 p.totals) w.totals in (
      (λ i. Ok (record { ledger = (e.1 i).ledger; totals = f i })),
      ap (λ (z : State). z.scratch) e.1,
      ap (λ (z : State). z.journal) e.1,
      ap (λ (z : State). z.air) e.1,
    )
run_one s terms t j a l o r q u v k m b c not_whole not_whole = (refl, refl, refl, refl)
run_one s terms t j a l o r q u v k m b c too_long too_long = (refl, refl, refl, refl)
