-- Demand 3 of programs in C, and their walks.
use Rattle.std.proofs.Common.{Option, Some, None}
use Prim.Native.Nat.{ℕ, ◌*◌, ◌≤◌, ◌<◌}
use mathlib.Core.Path.{◌≡◌, refl, sym, ap, ◌∙◌}
use mathlib.Core.Bool.{Bool, true, false}
use mathlib.Core.List.{List, []}
use native.Mathlib.Omega.{arith}
use lib.ListN.{replicate}
use Rattle.reasons.specs.Reasons.{Outcome, gives, refuses, demand, and_then, number_in, said}
use Rattle.reasons.proofs.Laws.{gives_refuses}
use Rattle.slots.specs.Journal.{NewestIs, SameButClocks, slots_of, place}
use Rattle.slots.proofs.Views.{known}
use Rattle.held.specs.Held.{held_list}
use Rattle.held.specs.Rules.{tell_rule}
use Rattle.walker.specs.Walk.{held_here, held_rule, next_of}
use Rattle.walker.specs.Steps.{walk_rule, start_rule, step_rule, Above, Onward}
use Rattle.walker.proofs.Whole.{above_by, above_one, above_all, onward_by, onward_one, onward_all, anew}
use Rattle.history.specs.History.{AnswerTo, Does, Done, Run, no_more, next, Demand3, SameAnswer}
use Rattle.history.proofs.Laws.{demand_3}
use Rattle.history.proofs.Twins.{clocks_same, twin}
use Rattle.hands.specs.Hands.{Hands}
use Rattle.c_box.specs.Calls.{WalkStarts}
use Rattle.goltwarden.specs.Programs.{Asks, books, releases, shows, tells, walks, starts, steps, surveys, swipes, Lent, Promised, call_of, Hears, Made, Program, no_call, one_call, Heard, none_heard, one_heard, SameAsks, no_asks, same_asks, SameLeft, nothing_left, same_left, WalksTo, StepsTo}
use Rattle.hands.proofs.Handed.{outcome_is, gave}
use Rattle.hands.proofs.Laws.{hands_one}

-- ---- one call

-- what a function of the interface promises is what `history` allows for its call
pub promised_does : (j : List ℕ) (clock : ℕ) (a : Asks) (x : Lent a) (r : ℕ) (y : Lent a) (k : List ℕ) → Promised j clock a x r y k
    → (q : AnswerTo (call_of a x)) × Does j clock (call_of a x) q k × Hears a x q r y
promised_does j clock (books pan label amount) x r y k w = (w.1.answer, (w.0, w.1.allowed), w.1.handed)
promised_does j clock (releases s) x r y k w = (w.answer, w.allowed, w.handed)
promised_does j clock (shows s) x r y k w = (w.0.answer, (w.0.allowed, w.1), w.0.handed)
promised_does j clock tells x r y k w = (w.0.answer, (w.0.allowed, w.1), w.0.handed)
promised_does j clock (walks s) x r y k w = (_, (record { view = w.0.view; is = w.0.is; so = refl }, w.1), w.0.so)
promised_does j clock starts x r y k w = (_, (record { view = w.0.view; is = w.0.is; so = refl }, w.1), w.0.so)
promised_does j clock (steps s) x r y k w = (_, (refl, w.1), w.0)
promised_does j clock surveys x r y k w = (record { says = w.0.answer; states = y.1 }, (w.0.allowed, w.1), (w.0.handed, refl))
promised_does j clock (swipes card amount) x r y k w = (record { says = w.1.answer; scratch = y.1 }, (w.0, w.1.allowed), (w.1.handed, refl))

-- one answer is heard in one way
said_one : {Q A B : Type 0} (of : Q → Outcome A) {old : B} {new : A → B} {r s : ℕ} {y z : B} (p q : Q) → p ≡ q → Hands (of p) old new r y
    → Hands (of q) old new s z → (r ≡ s) × (y ≡ z)
said_one of p q e f g = hands_one f (outcome_is _ _ _ _ _ _ (ap of (sym e)) g)

hears_one : (a : Asks) (x : Lent a) (p q : AnswerTo (call_of a x)) → SameAnswer (call_of a x) p q → (r s : ℕ) (y z : Lent a) → Hears a x p r y
    → Hears a x q s z → (r ≡ s) × (y ≡ z)
hears_one (books pan label amount) x p q e r s y z f g = said_one said p q e f g
hears_one (releases n) x p q e r s y z f g = said_one said p q e f g
hears_one (shows n) x p q e r s y z f g = said_one said p q e f g
hears_one tells x p q e r s y z f g = said_one said p q e f g
hears_one (walks n) x p q e r s y z f g = said_one (λ o. o) p q e f g
hears_one starts x p q e r s y z f g = said_one (λ o. o) p q e f g
hears_one (steps n) x p q e r s y z f g = said_one (λ o. o) p q e f g
hears_one surveys x p q e r s y z f g =
    let h = said_one said p.says q.says (ap (λ v. v.says) e) f.0 g.0 in
    (h.0, λ i. (h.1 i, (f.1 ∙ ap (λ v. v.states) e ∙ sym g.1) i))
hears_one (swipes card amount) x p q e r s y z f g =
    let h = said_one said p.says q.says (ap (λ v. v.says) e) f.0 g.0 in
    (h.0, λ i. (h.1 i, (f.1 ∙ ap (λ v. v.scratch) e ∙ sym g.1) i))

-- ---- programs

-- what a program does is a run of calls of `history`, with the answers that C is handed
pub program_run : {j k : List ℕ} {ms : List Made} → Program j ms k → (ds : List Done) × Heard ms ds × Run j ds k
program_run no_call = ([], none_heard, no_more)
program_run (one_call m w more) =
    let d = promised_does _ m.clock m.asks m.lent m.number m.left m.after w in
    let r = program_run more in
    (_, one_heard m d.0 d.2 r.1, next (record { clock = m.clock; call = call_of m.asks m.lent; answer = d.0; after = m.after }) d.1 r.2)

-- demand 3, points 1 to 3, of any program in C that starts from an all-zero journal
pub program_keeps : (n : ℕ) → 1 ≤ n → n ≤ 2048 → (ms : List Made) (j : List ℕ) → Program (replicate (32 * n) 0) ms j
    → (ds : List Done) × Heard ms ds × Demand3 ds j
program_keeps n l h ms j w = let r = program_run w in (r.0, r.1, demand_3 n l h r.0 j r.2)

twin_programs : {i j k l : List ℕ} {ms ns : List Made} → SameButClocks i j → Program i ms k → Program j ns l → SameAsks ms ns → SameLeft ms ns
twin_programs s no_call no_call no_asks = nothing_left
twin_programs s no_call (one_call n q off) x = elim x [ ]
twin_programs s (one_call m p on) no_call x = elim x [ ]
twin_programs {i} {j} s (one_call m p on) (one_call n q off) (same_asks {a = a} {x = x} {y = y} {z = z} {t = t} {u = u} {r = r} {q = r'} {k = k} {l = l} rest) =
    let d = promised_does i t a x r y k p in
    let e = promised_does j u a x r' z l q in
    let w = twin i j s t u (call_of a x) d.0 e.0 k l d.1 e.1 in
    let h = hears_one a x d.0 e.0 w.0 r r' y z d.2 e.2 in
    same_left h.0 h.1 w.1 (twin_programs w.1 on off rest)

-- demand 3, point 4: of the same calls at any clock readings C is answered the same, and finds the same journal but for its clock fields
pub program_clocks : (n : ℕ) (ms ns : List Made) (j k : List ℕ) → Program (replicate (32 * n) 0) ms j → Program (replicate (32 * n) 0) ns k
    → SameAsks ms ns → SameLeft ms ns
program_clocks n ms ns j k = twin_programs (clocks_same (replicate (32 * n) 0))

-- ---- whole walks

-- a call that is answered 0 was given a value, where its rule never refuses with 0
zero_gives : {A : Type 0} (o : Outcome A) (x y : A) → (o ≡ refuses 0 → ⊥) → Hands o x (λ v. v) 0 y → o ≡ gives y
zero_gives (gives v) x y n h = ap gives (sym h.behind)
zero_gives (refuses k) x y n h = absurd (n (ap refuses (sym h.number)))

walk-number : (m : Option ℕ) (j : List ℕ) (s : ℕ) → walk_rule m j s ≡ refuses 0 → ⊥
unfolding walk_rule
walk-number None j s e = let z : ◌≡◌ {A = ℕ} 16 0 = ap number_in e in omega arith
walk-number (Some b) j s e = gives_refuses _ 0 e

step_number : (j : List ℕ) (s : ℕ) → step_rule j s ≡ refuses 0 → ⊥
unfolding step_rule held_rule
step_number j s e = go (held_here j s) e
  where
    go : (t : Bool) → and_then {B = ℕ × ℕ} (demand t 20 (gives (place (slots_of j) s))) (λ at. gives (at, next_of j s)) ≡ refuses 0 → ⊥
    go true e = gives_refuses _ 0 e
    go false e = let z : ◌≡◌ {A = ℕ} 20 0 = ap number_in e in omega arith

start-number : (j : List ℕ) (b : ℕ) → start_rule (Some b) j ≡ refuses 0 → ⊥
unfolding start_rule tell_rule
start-number j b e = gives_refuses _ 0 e

gives_one : {A : Type 0} (y z : A) → gives y ≡ gives z → y ≡ z
gives_one y z e = cc

module _ (j : List ℕ) (b : ℕ) (is : NewestIs j (Some b)) where
  walks_anew : (s : ℕ) (y : ℕ × ℕ) → WalksTo j s y → anew j b s y
  walks_anew s y w = zero_gives _ w.0 y (walk-number (Some b) j s) (known j b is w.1)

  -- gw_journal_walk, from 0 on until it says done, on a journal that stays: the held records, each once, by rising serial
  pub walk_held : Above j (WalksTo j) 0 (held_list j b)
  walk_held = above_by j (λ s y e. (y, record { view = Some b; is = is; so = gave _ _ _ y (sym e) })) (above_all j b is)

  -- and nothing else
  pub walk_held_only : (rs : List (List ℕ)) → Above j (WalksTo j) 0 rs → rs ≡ held_list j b
  walk_held_only rs w = above_one j (λ s y z p q. gives_one y z (sym (walks_anew s y p) ∙ walks_anew s z q)) w walk_held

  -- gw_walk_start, and gw_walk_step until it says done: the same
  pub steps_held : b < 4294967296 → (x s : ℕ) → WalkStarts j x 0 s → Onward j (StepsTo j) s (held_list j b)
  steps_held fits x s w =
      onward_by j (λ t y e. (y, gave _ _ _ y (sym e))) (onward_all j b is fits s (zero_gives _ x s (start-number j b) (known j b is w)))

  pub steps_held_only : b < 4294967296 → (x s : ℕ) → WalkStarts j x 0 s → (rs : List (List ℕ)) → Onward j (StepsTo j) s rs → rs ≡ held_list j b
  steps_held_only fits x s w rs v =
      onward_one j (λ t y z p q. gives_one y z (sym (stepped t y p) ∙ stepped t z q)) v (steps_held fits x s w)
    where
      stepped : (t : ℕ) (y : ℕ × ℕ) → StepsTo j t y → step_rule j t ≡ gives y
      stepped t y p = zero_gives _ p.0 y (step_number j t) p.1
