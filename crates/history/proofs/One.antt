-- Each call allows one outcome, and so does each run.
use Prim.Native.Nat.{ℕ}
use mathlib.Core.Path.{◌≡◌, refl, sym, ◌∙◌, subst, subst⁻¹}
use mathlib.Core.List.{List, ◌∷◌, map}
use Rattle.reasons.specs.Reasons.{Outcome}
use Rattle.slots.proofs.Views.{one_view}
use Rattle.held.specs.Rules.{show_rule}
use Rattle.held.proofs.Laws.{one_finding, one_telling, one_number}
use Rattle.journal.proofs.Laws.{one_booking, one_release}
use Rattle.surveys.proofs.Surveys.{one_survey}
use Rattle.swipe.proofs.Laws.{swipe_one}
use Rattle.walker.specs.Walk.{held_rule}
use Rattle.history.specs.History.{Question, find, show, show_number, tell, survey, ReplyTo, Replies, Part}
use Rattle.history.specs.History.{walk_start, walk_number, walk_record, walk_on, walk_above, walk_first, walk_step}
use Rattle.history.specs.History.{Call, book, swipe, release, reads, aside, AnswerTo, Does, Done, Run, no_more, next, SameCalls, no_calls, same_call}
use Rattle.history.proofs.Twins.{IsPart, the_part, no_part, shown_part, walked_part}

part_one : (j : List ℕ) (o : Outcome ℕ) (p q : Part) → IsPart j o p → IsPart j o q → p ≡ q
part_one j o p q (the_part x y) (the_part u v) = λ i. record { at = (x ∙ sym u) i; bytes = (y ∙ sym v) i }
part_one j o p q (no_part x y) (no_part u v) = λ i. record { at = (x ∙ sym u) i; bytes = (y ∙ sym v) i }

one_reply : (j : List ℕ) (n : Question) (a d : ReplyTo n) → Replies j n a → Replies j n d → a ≡ d
one_reply j (find s) a d p q = one_finding j s a d p q
one_reply j (show s) a d p q = let w = one_view j (shown_part j s a p) (shown_part j s d q) in part_one j (show_rule w.0 j s) a d w.1 w.2
one_reply j (show_number s) a d p q = one_number j s a d p q
one_reply j tell a d p q = one_telling j a d p q
one_reply j (survey t) a d p q = let w = one_survey j t a.says d.says a.states d.states p q in λ i. record { says = w.0 i; states = w.1 i }
one_reply j walk_start a d p q = let w = one_view j p q in w.1 ∙ sym w.2
one_reply j walk_number a d p q = let w = one_view j p q in w.1 ∙ sym w.2
one_reply j (walk_record s) a d p q = part_one j (held_rule j s) a d (walked_part j s a p) (walked_part j s d q)
one_reply j (walk_on s) a d p q = p ∙ sym q
one_reply j (walk_above s) a d p q = let w = one_view j p q in w.1 ∙ sym w.2
one_reply j walk_first a d p q = let w = one_view j p q in w.1 ∙ sym w.2
one_reply j (walk_step s) a d p q = p ∙ sym q

-- any two outcomes that a call's promise allows are equal
pub one_outcome : (j : List ℕ) (t : ℕ) (c : Call) (a d : AnswerTo c) (l m : List ℕ) → Does j t c a l → Does j t c d m → (a ≡ d) × (l ≡ m)
one_outcome j t (book pan label amount) a d l m p q = one_booking j pan label amount t a d l m p.1 q.1
one_outcome j t (swipe card amount scratch) a d l m p q =
    let w = swipe_one card amount t scratch j a.says d.says a.scratch d.scratch l m p.1 q.1 in
    ((λ i. record { says = w.0 i; scratch = w.1 i }), w.2)
one_outcome j t (release s) a d l m p q = one_release j s a d l m p q
one_outcome j t (reads n) a d l m p q = (one_reply j n a d p.0 q.0, p.1 ∙ sym q.1)
one_outcome j t aside a d l m p q = (refl, p ∙ sym q)

-- the calls and the clock readings decide a run: every answer, and the bytes after every call
pub one_run : {j k l : List ℕ} {ds es : List Done} → Run j ds k → Run j es l → SameCalls ds es
    → map (λ (d : Done). d.clock) ds ≡ map (λ (d : Done). d.clock) es → (ds ≡ es) × (k ≡ l)
one_run no_more no_more no_calls e = (refl, refl)
one_run no_more (next f q off) h e = elim h [ ]
one_run (next d p on) no_more h e = elim h [ ]
one_run {j} {k} {l} (next d p on) (next f q off) (same_call {c = c} {t = t} {u = u} {a = a} {b = b} {k = m} {l = n} {ds = ds} {es = es} rest) e =
    let now : u ≡ t = cc in
    let later : map (λ (d : Done). d.clock) ds ≡ map (λ (d : Done). d.clock) es = cc in
    let w = one_outcome j t c a b m n p (subst (λ (x : ℕ). Does j x c b n) now q) in
    let r = one_run on (subst⁻¹ (λ (i : List ℕ). Run i es l) w.1 off) rest later in
    ((λ i. record { clock = sym now i; call = c; answer = w.0 i; after = w.1 i } ∷ r.0 i), r.1)
