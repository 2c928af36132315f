-- Clocks decide nothing here either: two runs of the same acts from one start, at any clock readings.
use Prim.Native.Nat.{ℕ, ◌*◌, ◌≤◌}
use mathlib.Core.Path.{◌≡◌, refl, sym, ap, ◌∙◌, subst, subst⁻¹}
use mathlib.Core.Bool.{Bool, true, false, cond}
use mathlib.Core.List.{List, [], ◌∷◌, ◌++◌}
use lib.ListN.{length, replicate}
use Rattle.slots.specs.Journal.{slots_of}
use Rattle.slots.proofs.Form.{formed_one}
use Rattle.slots.proofs.Clocks.{clock_view}
use Rattle.held.specs.Held.{held_list, SameRecord, SameRecords, none, more}
use Rattle.journal.specs.Rules.{Releases}
use Rattle.journal.specs.declared.Released.{Released}
use Rattle.held.proofs.Clocks.{clock_list}
use Rattle.history.specs.History.{Call, release, AnswerTo, Does, Done, SameOutcomes, no_outcomes, same_outcome}
use Rattle.history.proofs.Twins.{clocks_same, twin}
use Rattle.ledger.specs.Ledger.{wants, Takes}
use Rattle.ledger.specs.declared.Ledger.{Ledger}
use Rattle.reasons.specs.declared.Reason.{Reason}
use Rattle.std.proofs.Common.{Some, Result, Ok, Err}
use Rattle.ledger.proofs.Laws.{take_one, clock_wants, clock_take}
use Rattle.channel.specs.Channel.{World, start, leaving, answering, made, Nth, head_is, further, Act, SameButTimes}
use Rattle.channel.specs.Channel.{Event, box_calls, box_sends, host_hears, host_hears_noise, box_hears, Course, nothing_yet, and_then}
use Rattle.channel.proofs.Lists.{nth_among}
use Rattle.channel.proofs.Kept.{Kept, course_kept}

-- ---- lists

outcomes_append : {ds es fs gs : List Done} → SameOutcomes ds es → SameOutcomes fs gs → SameOutcomes (ds ++ fs) (es ++ gs)
outcomes_append no_outcomes t = t
outcomes_append (same_outcome a k s) t = same_outcome a k (outcomes_append s t)

records_append : {rs qs ts us : List (List ℕ)} → SameRecords rs qs → SameRecords ts us → SameRecords (rs ++ ts) (qs ++ us)
records_append none t = t
records_append (more r s) t = more r (records_append s t)

same_nth : {i : ℕ} {rs qs : List (List ℕ)} {r q : List ℕ} → SameRecords rs qs → Nth i rs r → Nth i qs q → SameRecord r q
same_nth none n _ = elim n [ ]
same_nth (more s w) head_is head_is = s
same_nth (more s w) (further n) (further m) = same_nth w n m

nth_one : {A : Type 0} {i : ℕ} {l : List A} {x y : A} → Nth i l x → Nth i l y → x ≡ y
nth_one head_is head_is = refl
nth_one (further n) (further m) = nth_one n m

-- ---- one act

module _ (ds es : List Done) (w x : World) (s : SameButTimes ds es w x) where
  -- the host hears one message and the other, which are the same but for a clock, and takes both so
  hears_twin : (m q : List ℕ) (r : Result Ledger Reason) → length m ≡ length q → SameRecord m q → SameButTimes (ds ++ []) (es ++ []) (answering w m r) (answering x q r)
  hears_twin m q (Ok l) size same = record {
    outcomes = outcomes_append s.outcomes no_outcomes;
    journals = s.journals;
    ledgers = refl;
    took = subst⁻¹ (λ (b : Bool). SameRecords (cond b (w.took ++ (m ∷ [])) w.took) (cond (wants x.ledger q) (x.took ++ (q ∷ [])) x.took))
        (clock_wants m q size same w.ledger ∙ ap (λ (k : Ledger). wants k q) s.ledgers) (by (wants x.ledger q));
    records = s.records;
    answers = ap (λ (older : List ℕ). l.taken ∷ older) s.answers;
  }
    where
      by : (b : Bool) → SameRecords (cond b (w.took ++ (m ∷ [])) w.took) (cond b (x.took ++ (q ∷ [])) x.took)
      by true = records_append s.took (more same none)
      by false = s.took
  hears_twin m q (Err y) size same = record {
    outcomes = outcomes_append s.outcomes no_outcomes;
    journals = s.journals;
    ledgers = s.ledgers;
    took = s.took;
    records = s.records;
    answers = s.answers;
  }

  -- and it can't take them otherwise
  heard_twin : (m q : List ℕ) (r t : Result Ledger Reason) → length m ≡ length q → SameRecord m q → Takes w.ledger m r → Takes x.ledger q t
      → SameButTimes (ds ++ []) (es ++ []) (answering w m r) (answering x q t)
  heard_twin m q r t size same a b =
      let e : r ≡ t = take_one x.ledger q r t (clock_take m q size same x.ledger r (subst (λ (l : Ledger). Takes l m r) s.ledgers a)) b in
      subst (λ (u : Result Ledger Reason). SameButTimes (ds ++ []) (es ++ []) (answering w m r) (answering x q u)) e (hears_twin m q r size same)

  -- the box makes one call, here and there
  call_twin : (t u : ℕ) (c : Call) (a b : AnswerTo c) (j k : List ℕ) → Does w.journal t c a j → Does x.journal u c b k
      → SameButTimes (ds ++ (made t c a j ∷ [])) (es ++ (made u c b k ∷ [])) (leaving w j) (leaving x k)
  call_twin t u c a b j k p q =
      let e = twin w.journal x.journal s.journals t u c a b j k p q in
      record {
        outcomes = outcomes_append s.outcomes (same_outcome e.0 e.1 no_outcomes);
        journals = e.1;
        ledgers = s.ledgers;
        took = s.took;
        records = s.records;
        answers = s.answers;
      }

  release_twin : (t u y z : ℕ) (a b : Result Released Reason) (j k : List ℕ) → y ≡ z → Releases w.journal y a j → Releases x.journal z b k
      → SameButTimes (ds ++ (made t (release y) a j ∷ [])) (es ++ (made u (release z) b k ∷ [])) (leaving w j) (leaving x k)
  release_twin t u y z a b j k e p q =
      subst (λ (i : ℕ). SameButTimes (ds ++ (made t (release y) a j ∷ [])) (es ++ (made u (release i) b k ∷ [])) (leaving w j) (leaving x k)) e
      (call_twin t u (release y) a b j k p (subst⁻¹ (λ (i : ℕ). Releases x.journal i b k) e q))

module _ (n : ℕ) (least : 1 ≤ n) (most : n ≤ 2048) where
  event_twin : {a : Act} {ds es fs gs : List Done} {w x v u : World} → Kept (replicate (32 * n) 0) ds w → Kept (replicate (32 * n) 0) es x
      → SameButTimes ds es w x → Event w a fs v → Event x a gs u → SameButTimes (ds ++ fs) (es ++ gs) v u
  event_twin {ds = ds} {es = es} {w = w} {x = x} k l s (box_calls {c = c} {k = j} t a o p) (box_calls {k = i} u b o' q) =
      call_twin ds es w x s t u c a b j i p q
  event_twin {w = w} {x = x} k l s (box_sends {i = i} {r = r} b f m) (box_sends {r = q} c g o) =
      let j = w.journal in
      let e : b ≡ c = formed_one x.journal (slots_of x.journal) b c (clock_view j x.journal s.journals (Some b) f) g in
      let o' : Nth i (held_list x.journal b) q = subst⁻¹ (λ (y : ℕ). Nth i (held_list x.journal y) q) e o in
      record {
        outcomes = outcomes_append s.outcomes no_outcomes;
        journals = s.journals;
        ledgers = s.ledgers;
        took = s.took;
        records = more (same_nth (clock_list j x.journal s.journals b) m o') s.records;
        answers = s.answers;
      }
  event_twin {ds = ds} {es = es} {w = w} {x = x} k l s (host_hears {message = m} r i p) (host_hears {message = q} t j o) =
      let size : length m ≡ length q = (k.sent m (nth_among i)).held.size ∙ sym (l.sent q (nth_among j)).held.size in
      heard_twin ds es w x s m q r t size (same_nth s.records i j) p o
  event_twin {ds = ds} {es = es} {w = w} {x = x} k l s (host_hears_noise {message = m} r h p) (host_hears_noise t h' o) =
      heard_twin ds es w x s m m r t refl (λ i b c. refl) p o
  event_twin {ds = ds} {es = es} {w = w} {x = x} k l s (box_hears {i = i} {s = y} {k = j} t a m p) (box_hears {s = z} {k = h} u b o q) =
      release_twin ds es w x s t u y z a b j h (nth_one (subst (λ (r : List ℕ). Nth i r y) s.answers m) o) p q

  pub clocks_decide_nothing : {acts : List Act} {ds es : List Done} {w x : World} → Course (start n) acts ds w → Course (start n) acts es x
      → SameButTimes ds es w x
  clocks_decide_nothing nothing_yet nothing_yet = record {
    outcomes = no_outcomes;
    journals = clocks_same (replicate (32 * n) 0);
    ledgers = refl;
    took = none;
    records = none;
    answers = refl;
  }
  clocks_decide_nothing (and_then c e) (and_then d f) =
      event_twin (course_kept n least most c) (course_kept n least most d) (clocks_decide_nothing c d) e f
