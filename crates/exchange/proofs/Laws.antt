-- Box and host agree after any script, and running a script allows one outcome.
use Prim.Native.Nat.{ℕ, zero, suc, ◌≤◌, ◌+◌, ◌*◌}
use mathlib.Core.Path.{◌≡◌, refl, sym, ap, ◌∙◌, subst, subst⁻¹}
use mathlib.Core.Bool.{Bool, true, false, cond}
use mathlib.Core.List.{List, [], ◌∷◌, ◌++◌}
use mathlib.Core.Logic.{inr}
use native.Mathlib.Omega.{arith}
use native.Mathlib.Decide.{ℕ_discrete}
use lib.Dec.{leb}
use lib.ListN.{length, get_or, take, drop, replicate, length-take}
use lib.Seq.{get_or-take, get_or-drop}
use borrow.Author.Tests.{eq-eqb, ne_eqb, leb-true}
use Rattle.text.specs.Numbers.{u32_at}
use Rattle.slots.proofs.Ranges.{differ}
use Rattle.payer.specs.Payer.{Terms}
use Rattle.history.specs.History.{Done, Payment, booked, highest, takings, Demand3}
use Rattle.history.proofs.Laws.{demand_3}
use Rattle.plays.specs.Script.{clock_at, script_rule}
use Rattle.ledger.specs.Ledger.{HeldRecord, opened}
use Rattle.ledger.specs.declared.Ledger.{Ledger}
use Rattle.channel.specs.Channel.{World, start, Act, Course, nothing_yet}
use Rattle.channel.proofs.Kept.{Kept, course_kept}
use Rattle.channel.proofs.Laws.{agree}
use Rattle.channel.proofs.CatchUp.{course_append}
use Rattle.exchange.specs.Exchange.{State, as_state, cleared, turn_at, message_at, was_sent, Runs, no_record, one_more, RunsAll, Exchanges, Agreed, Agrees}
use Rattle.exchange.specs.declared.Sums.{Sums}
use Rattle.std.proofs.Common.{Result, Ok}
use Rattle.plays.specs.declared.Unplayed.{Unplayed}
use Rattle.exchange.proofs.One as one
use Rattle.exchange.proofs.Linked.{world_of, Linked, own_turn, turn_follows}

-- any two outcomes that running a script allows are equal: answer, scratch, journal and air
pub run_one : (s : List ℕ) (terms : Terms) (t j a : List ℕ) (l : Ledger) (r q : Result Sums Unplayed) (u v k m b c : List ℕ)
    → Exchanges s terms t j a l (script_rule s) r u k b → Exchanges s terms t j a l (script_rule s) q v m c
    → (r ≡ q) × (u ≡ v) × (k ≡ m) × (b ≡ c)
run_one s terms t j a l = one.run_one s terms t j a l (script_rule s)

-- ---- a script from an empty journal and a fresh ledger is a course of events

zero_there : (n i : ℕ) → ◌≡◌ {A = ℕ} (get_or (replicate n 0) i 0) 0
zero_there zero i = refl
zero_there (suc n) zero = refl
zero_there (suc n) (suc i) = zero_there n i

-- cleared air holds no record, and no answer was given yet
module _ (t j a : List ℕ) where
  no_record_there : (p : ℕ) → HeldRecord (message_at (replicate (length a) 0) p) → ⊥
  unfolding u32_at
  no_record_there p h = omega (arith, h.some, byte 0 (omega arith), byte 1 (omega arith), byte 2 (omega arith), byte 3 (omega arith))
    where
      byte : (i : ℕ) → i + 1 ≤ 32 → get_or (message_at (replicate (length a) 0) p) i 0 ≡ 0
      byte i l =
          get_or-take 32 (drop (32 * p) (replicate (length a) 0)) i 0 (omega arith) ∙ get_or-drop (32 * p) (replicate (length a) 0) i 0
          ∙ zero_there (length a) (32 * p + i)

  none_sent : (s : ℕ) → was_sent (cleared t j a opened) s ≡ true → ⊥
  none_sent s e = by (ℕ_discrete s 0)
    where
      by : Dec (s ≡ 0) → ⊥
      by (yes q) = differ (was_sent (cleared t j a opened) s) (ap (λ (b : Bool). cond b false (leb s 0)) (eq-eqb s 0 q)) e
      by (no n) = let h = leb-true s 0 (sym (ap (λ (b : Bool). cond b false (leb s 0)) (ne_eqb s 0 n)) ∙ e) in n (omega arith)

  cleared_linked : Linked (cleared t j a opened) [] []
  cleared_linked = record { air = λ p. inr (no_record_there p); told = λ s e. absurd (none_sent s e) }

-- the course that led to the state x, at which the box made the calls ds
record Reached (n : ℕ) (ds : List Done) (x : State) : Type 0 where
  pub acts : List Act
  pub taken : List (List ℕ)
  pub records : List (List ℕ)
  pub answers : List ℕ
  pub course : Course (start n) acts ds (world_of x taken records answers)
  pub linked : Linked x records answers

reached : {s : List ℕ} {terms : Terms} (t a : List ℕ) (n : ℕ) {i : ℕ} {ds : List Done} {x : State}
    → Runs s terms (cleared t (replicate (32 * n) 0) a opened) i ds x → Reached n ds x
reached t a n no_record = record {
  acts = [];
  taken = [];
  records = [];
  answers = [];
  course = nothing_yet;
  linked = cleared_linked t (replicate (32 * n) 0) a;
}
reached {s} {terms} t a n (one_more {i = i} {w = w} {x = x} es c m) =
    let p = reached t a n c in
    let turn = turn_at s terms w.scratch (128 * i) in
    let own = own_turn s terms w.scratch (128 * i) in
    let f = turn_follows w p.taken p.records p.answers p.linked (clock_at s (128 * i)) turn es x own m in
    record {
      acts = f.acts ++ p.acts;
      taken = f.taken;
      records = f.records;
      answers = f.answers;
      course = course_append p.course f.course;
      linked = f.linked;
    }

-- ---- so box and host agree

takings-take : (m n : ℕ) (ps : List Payment) → m ≤ n → takings (take m ps) ≤ takings (take n ps)
unfolding takings
takings-take zero n ps h = omega arith
takings-take (suc m) zero ps h = absurd (omega arith)
takings-take (suc m) (suc n) [] h = omega arith
takings-take (suc m) (suc n) (p ∷ ps) h = let ih = takings-take m n ps (omega arith) in omega arith

takings_some : (n : ℕ) (ps : List Payment) → takings (take n ps) ≤ takings ps
unfolding takings
takings_some zero ps = omega arith
takings_some (suc n) [] = omega arith
takings_some (suc n) (p ∷ ps) = let ih = takings_some n ps in omega arith

pub run_agrees : (s : List ℕ) (terms : Terms) (t a : List ℕ) (n : ℕ) (r : Sums) (u k b : List ℕ) → 1 ≤ n → n ≤ 2048
    → RunsAll s terms (cleared t (replicate (32 * n) 0) a opened) r u k b → Agreed s terms t a n r u k b
run_agrees s terms t a n r u k b least most w =
    let ds : List Done = w.done in
    let p = reached t a n w.runs in
    let world : World = world_of (as_state u k b r.ledger w.zero_sent) p.taken p.records p.answers in
    let kept : Kept (replicate (32 * n) 0) ds world = course_kept n least most p.course in
    let three : Demand3 ds k = demand_3 n least most ds k kept.run in
    let v = w.totals in
    let few : length (take (highest ds) (booked ds)) ≤ highest ds = subst⁻¹ (λ (x : ℕ). x ≤ highest ds) (length-take (highest ds) (booked ds)) (omega arith) in
    record {
      all = w;
      acts = p.acts;
      world = world;
      course = p.course;
      journal = refl;
      ledger = refl;
      agree = agree n least most p.acts ds world p.course;
      counts = (omega (arith, v.released_is, three.counted, kept.past), omega (arith, v.booked_is, kept.reach));
      sums = (
        omega (arith, v.remitted_is, three.summed, kept.total, takings-take (highest ds) r.ledger.taken (booked ds) kept.past),
        omega (arith, v.takings_is, kept.total, takings_some r.ledger.taken (booked ds)),
      );
    }

-- whatever the journal and the ledger are, where they are empty and fresh
pub agreed : (s : List ℕ) (terms : Terms) (t j a : List ℕ) (l : Ledger) (r : Sums) (u k b : List ℕ) → RunsAll s terms (cleared t j a l) r u k b
    → Agrees s terms t j a l (Ok r) u k b
agreed s terms t j a l r u k b w n least most ej el =
    run_agrees s terms t a n r u k b least most
    (subst (λ (x : Ledger). RunsAll s terms (cleared t (replicate (32 * n) 0) a x) r u k b) el
    (subst (λ (x : List ℕ). RunsAll s terms (cleared t x a l) r u k b) ej w))
