-- Two runs over the same calls at any clock readings: what one call does on journals that differ in clocks alone.
use Rattle.std.proofs.Common.{Option}
use Prim.Native.Nat.{ℕ, zero, suc, min, max, ◌+◌, ◌-◌, ◌/◌, ◌%◌}
use mathlib.Core.Path.{◌≡◌, refl, sym, ap, ◌∙◌, subst, subst⁻¹}
use mathlib.Core.Bool.{Bool, not, cond, ◌&&◌}
use mathlib.Core.List.{List, []}
use native.Mathlib.Omega.{arith}
use lib.ListN.{length, get_or, take, drop, length-take, length-drop}
use lib.Dec.{eqb}
use denote.Ref.{Bor}
use Rattle.text.specs.Bytes.{within}
use Rattle.reasons.specs.Reasons.{Outcome, gives, refuses, demand, and_then, after, number_in}
use Rattle.slots.specs.Record.{is_held, serial_at}
use Rattle.slots.proofs.Clocks.{slot_state}
use Rattle.slots.specs.Journal.{SameButClocks, slots_of, place, state_of}
use Rattle.slots.specs.Views.{Seen, formed, newest}
use Rattle.held.specs.Held.{record_at, SameRecord, held_after, low_of, first_of}
use Rattle.held.specs.Rules.{Shows, the_record, nothing, ShowsOf, show_rule, held_in}
use Rattle.held.specs.declared.Told.{Told}
use Rattle.reasons.proofs.Laws.{passed, said_one}
use Rattle.surveys.proofs.Surveys.{one_survey}
use Rattle.held.proofs.Clocks.{same_first, clock_held, clock_shown, clock_tell, clock_show}
use Rattle.journal.proofs.Clocks.{clock_book, clock_release, clock_book_bytes, clock_release_bytes}
use Rattle.walker.specs.Walk.{held_here, held_rule, next_of}
use Rattle.walker.specs.Steps.{first_above, walk_place, walk_rule, start_rule, step_rule}
use Rattle.history.proofs.Views.{both}
use Rattle.history.proofs.Slots.{clock_serial, clock_survey}
use Rattle.history.proofs.Swipes.{swipe_twin}
use Rattle.history.specs.History.{Call, book, swipe, release, reads, Question, find, show, show_number, tell, survey, walk_start, walk_number, walk_record, walk_on, walk_above, walk_first, walk_step, aside, AnswerTo, ReplyTo, Replies, SameReply, Part, HandsOut, Does, Done, Run, no_more, next, SameCalls, no_calls, same_call, SamePart, SameAnswer, SameOutcomes, no_outcomes, same_outcome}

-- ---- a part that was handed out is told by the outcome of its rule

pub data IsPart : List ℕ → Outcome ℕ → Part → Type 0 where
  the_part : {j : List ℕ} {at : ℕ} {p : Part} → p.at ≡ at → p.bytes ≡ take 32 (drop at j) → IsPart j (gives at) p
  no_part : {j : List ℕ} {x : ℕ} {p : Part} → p.at ≡ 0 → p.bytes ≡ [] → IsPart j (refuses x) p

is_part : (i r : Bor (List ℕ)) (o : Outcome ℕ) (p : Part) → Shows i o r → r.ref_ptr.1 ≡ i.ref_ptr.1 + p.at → r.now ≡ p.bytes → IsPart i.now o p
is_part i r o p (the_record {at = a} w) e f = let q : p.at ≡ a = omega (arith, e, w.place) in the_part q (sym f ∙ w.bytes)
is_part i r o p (nothing w) e f = let q : p.at ≡ 0 = omega (arith, e, w.place) in no_part q (sym f ∙ w.bytes)

pub shown_part : (j : List ℕ) (t : ℕ) (p : Part) → HandsOut j (λ i r. ShowsOf i t r) p → Seen j (λ m. IsPart j (show_rule m j t) p)
shown_part j t p h =
    subst (λ (l : List ℕ). Seen l (λ m. IsPart l (show_rule m l t) p)) h.lent
    (record {
      view = h.promised.view;
      is = h.promised.is;
      so = is_part h.journal h.part (show_rule h.promised.view h.journal.now t) p h.promised.so h.place h.same;
    })

pub walked_part : (j : List ℕ) (t : ℕ) (p : Part) → HandsOut j (λ i r. Shows i (held_rule i.now t) r) p → IsPart j (held_rule j t) p
walked_part j t p h =
    subst (λ (l : List ℕ). IsPart l (held_rule l t) p) h.lent (is_part h.journal h.part (held_rule h.journal.now t) p h.promised h.place h.same)

-- where a record that is handed out begins
shown_at : (m : Option ℕ) (j : List ℕ) (t at : ℕ) → show_rule m j t ≡ gives at → place (slots_of j) t ≡ at
unfolding show_rule
shown_at m j t at e =
    let v = (passed (formed m) 16 _ at e).1 in
    let w = (passed (held_in j (newest m) t) 20 (gives (place (slots_of j) t)) at v).1 in cc

walked_at : (j : List ℕ) (t at : ℕ) → held_rule j t ≡ gives at → place (slots_of j) t ≡ at
unfolding held_rule
walked_at j t at e = let w = (passed (held_here j t) 20 (gives (place (slots_of j) t)) at e).1 in cc

parts_same : (j k : List ℕ) (t : ℕ) (o : Outcome ℕ) (p q : Part) → SameButClocks j k → ((at : ℕ) → o ≡ gives at → place (slots_of j) t ≡ at) → IsPart j o p → IsPart k o q
    → SamePart p q
unfolding record_at
parts_same j k t o p q s e (the_part {at = a} x y) (the_part u v) =
    record {
      place = x ∙ sym u;
      size = ap length y ∙ long a ∙ sym (ap length v);
      bytes = subst⁻¹ (λ (l : List ℕ). SameRecord l q.bytes) y (subst⁻¹ (λ (l : List ℕ). SameRecord (take 32 (drop a j)) l) v
          (subst (λ (n : ℕ). SameRecord (take 32 (drop n j)) (take 32 (drop n k))) (e a refl) (clock_shown j k s (slots_of j) t)));
    }
  where
    long : (a : ℕ) → length (take 32 (drop a j)) ≡ length (take 32 (drop a k))
    long a = length-take 32 (drop a j) ∙ ap (min 32) (length-drop a j ∙ ap (λ (n : ℕ). n - a) s.size ∙ sym (length-drop a k)) ∙ sym (length-take 32 (drop a k))
parts_same j k t o p q s e (no_part x y) (no_part u v) =
    record {
      place = x ∙ sym u;
      size = ap length (y ∙ sym v);
      bytes = λ i l h. ap (λ (r : List ℕ). get_or r i 0) (y ∙ sym v);
    }

-- ---- the walker looks at serials and states

module _ (j k : List ℕ) (s : SameButClocks j k) where
  clock_here : (t : ℕ) → held_here j t ≡ held_here k t
  unfolding held_here
  clock_here t =
      ap (λ (n : ℕ). within 1 2048 n && (not (eqb t 0) && (eqb (serial_at j (place n t)) t && is_held (state_of j n t)))) (ap (λ (x : ℕ). x / 32) s.size)
      ∙ (λ i. within 1 2048 (slots_of k) && (not (eqb t 0) && (eqb (clock_serial j k s ((t - 1) % slots_of k) i) t && is_held (slot_state j k s ((t - 1) % slots_of k) i))))

  clock_walk : (t : ℕ) → held_rule j t ≡ held_rule k t
  unfolding held_rule
  clock_walk t = (λ i. demand (clock_here t i) 20 (gives (place (s.size i / 32) t)))

  clock_next : (t : ℕ) → next_of j t ≡ next_of k t
  unfolding next_of
  clock_next t = ap (λ (b : Bool). cond (within 1 4294967294 t && b) (t + 1) 0) (clock_here (t + 1))

  clock_above : (b t : ℕ) → first_above j b t ≡ first_above k b t
  unfolding first_above
  clock_above b t =
      same_first _ _ (clock_held j k s (slots_of j) (max (low_of j b) t) (b - max (low_of j b) t))
      ∙ ap (λ (n : ℕ). first_of (held_after k n (max (b - n) t) (b - max (b - n) t))) (ap (λ (x : ℕ). x / 32) s.size)

  clock_walk_place : (t : ℕ) → walk_place j t ≡ walk_place k t
  clock_walk_place zero = refl
  clock_walk_place (suc t) = ap (λ (x : ℕ). place (x / 32) (suc t)) s.size

  clock_anew : (m : Option ℕ) (t : ℕ) → walk_rule m j t ≡ walk_rule m k t
  unfolding walk_rule
  clock_anew m t =
      ap (λ (x : ℕ). demand (formed m) 16 (gives (x, walk_place j x))) (clock_above (newest m) t)
      ∙ ap (λ (y : ℕ). demand (formed m) 16 (gives (first_above k (newest m) t, y))) (clock_walk_place (first_above k (newest m) t))

  clock_start : (m : Option ℕ) → start_rule m j ≡ start_rule m k
  unfolding start_rule
  clock_start m = ap (λ (o : Outcome Told). and_then o (λ t. gives t.oldest)) (clock_tell j k s m)

  clock_step : (t : ℕ) → step_rule j t ≡ step_rule k t
  unfolding step_rule
  clock_step t = λ i. and_then (clock_walk t i) (λ at. gives (at, clock_next t i))

-- ---- one call on two journals

module _ (j k : List ℕ) (s : SameButClocks j k) where
  same_bytes : {i n l m : List ℕ} → l ≡ i → m ≡ n → SameButClocks i n → SameButClocks l m
  same_bytes {i} {n} {l} {m} e f w = subst⁻¹ (λ (r : List ℕ). SameButClocks r m) e (subst⁻¹ (λ (r : List ℕ). SameButClocks i r) f w)

  replies : (n : Question) (a d : ReplyTo n) → Replies j n a → Replies k n d → SameReply n a d
  replies (find n) a d p q = let v = both j k s p q in said_one a d (v.left ∙ clock_show j k s v.view n ∙ sym v.right)
  replies (show n) a d p q =
      let v = both j k s (shown_part j n a p) (shown_part k n d q) in
      parts_same j k n (show_rule v.view j n) a d s (shown_at v.view j n) v.left (subst⁻¹ (λ (o : Outcome ℕ). IsPart k o d) (clock_show j k s v.view n) v.right)
  replies (show_number n) a d p q = let v = both j k s p q in v.left ∙ ap number_in (clock_show j k s v.view n) ∙ sym v.right
  replies tell a d p q = let v = both j k s p q in said_one a d (v.left ∙ clock_tell j k s v.view ∙ sym v.right)
  replies (survey t) a d p q =
      let w = one_survey k t a.says d.says a.states d.states (clock_survey j k s t a.says a.states p) q in
      λ i. record { says = w.0 i; states = w.1 i }
  replies walk_start a d p q = let v = both j k s p q in v.left ∙ ap (λ (o : Outcome Told). after o 0 (λ t. t.oldest)) (clock_tell j k s v.view) ∙ sym v.right
  replies walk_number a d p q = let v = both j k s p q in v.left ∙ ap number_in (clock_tell j k s v.view) ∙ sym v.right
  replies (walk_record n) a d p q =
      parts_same j k n (held_rule j n) a d s (walked_at j n) (walked_part j n a p) (subst⁻¹ (λ (o : Outcome ℕ). IsPart k o d) (clock_walk j k s n) (walked_part k n d q))
  replies (walk_on n) a d p q = p ∙ clock_next j k s n ∙ sym q
  replies (walk_above n) a d p q = let v = both j k s p q in v.left ∙ clock_anew j k s v.view n ∙ sym v.right
  replies walk_first a d p q = let v = both j k s p q in v.left ∙ clock_start j k s v.view ∙ sym v.right
  replies (walk_step n) a d p q = p ∙ clock_step j k s n ∙ sym q

  pub twin : (t u : ℕ) (c : Call) (a d : AnswerTo c) (l m : List ℕ) → Does j t c a l → Does k u c d m → SameAnswer c a d × SameButClocks l m
  twin t u (book pan label amount) a d l m p q =
      let v = both j k s p.1 q.1 in (
        said_one a d (v.left.0 ∙ clock_book j k s v.view pan label amount ∙ sym v.right.0),
        same_bytes v.left.1 v.right.1 (clock_book_bytes j k s v.view v.is pan label amount t u),
      )
  twin t u (swipe card amount scratch) a d l m p q =
      let v = swipe_twin j k s card amount t u scratch a.says d.says a.scratch d.scratch l m p.1 q.1 in
      ((λ i. record { says = v.0 i; scratch = v.1 i }), v.2)
  twin t u (release n) a d l m p q =
      let v = both j k s p q in
      (said_one a d (v.left.0 ∙ clock_release j k s v.view n ∙ sym v.right.0), same_bytes v.left.1 v.right.1 (clock_release_bytes j k s v.view n))
  twin t u (reads n) a d l m p q = (replies n a d p.0 q.0, same_bytes p.1 q.1 s)
  twin t u aside a d l m p q = (refl, same_bytes p q s)

-- ---- two runs

pub clocks_same : (j : List ℕ) → SameButClocks j j
clocks_same j = record { size = refl; bytes = λ i h. refl }

pub twins : {j k l m : List ℕ} {ds es : List Done} → SameButClocks j k → Run j ds l → Run k es m → SameCalls ds es → SameOutcomes ds es
twins s no_more no_more no_calls = no_outcomes
twins s no_more (next e q off) h = elim h [ ]
twins s (next d p on) no_more h = elim h [ ]
twins {j} {k} s (next d p on) (next e q off) (same_call {c = c} {t = t} {u = u} {a = a} {b = a'} {k = j'} {l = k'} rest) =
    let w = twin j k s t u c a a' j' k' p q in
    same_outcome w.0 w.1 (twins w.1 on off rest)
