-- The laws of a standard with a check pair, over any that asks in the order of both: count (2), bytes (3), country (5), layout (6),
-- pair (4).
use Prim.Native.Nat.{ℕ, suc, ◌+◌, ◌%◌, ◌/◌, ◌<◌, ◌≤◌}
use mathlib.Core.Path.{◌≡◌, sym, ap, ◌∙◌}
use mathlib.Core.Bool.{Bool, true}
use mathlib.Core.List.{List, [], ◌∷◌}
use mathlib.Core.Logic.{◌↔◌}
use native.Mathlib.Omega.{arith}
use lib.ListN.{length, get_or}
use Rattle.text.specs.Bytes.{within, every, swap}
use Rattle.text.proofs.Every.{every_swap, every_cons, every_both}
use Rattle.text.proofs.Tests.{inside_is}
use Rattle.reasons.specs.Reasons.{Outcome, gives, demand}
use Rattle.reasons.proofs.Laws.{passed, passes_on}
use Rattle.mod97.specs.Kinds.{Mixed, Unseen}
use Rattle.mod97.specs.Pair.{checks, paired, pair_for}
use Rattle.mod97.proofs.Pairs.{swap-length, neighbours_checks, checks_made}
use Rattle.mod97.proofs.Refusals.{Sound}

-- ---- what is asked before the pair, in testing and in making

-- the answers: count, bytes, country, layout
pub record Answers : Type 0 where
  pub count : Bool
  pub bytes : Bool
  pub country : Bool
  pub layout : Bool

abbrev pub asked : {A : Type 0} → Answers → Outcome A → Outcome A
asked a next = demand a.count 2 (demand a.bytes 3 (demand a.country 5 (demand a.layout 6 next)))

pub record AllYes (a : Answers) : Type 0 where
  pub right_count : a.count ≡ true
  pub right_bytes : a.bytes ≡ true
  pub right_country : a.country ≡ true
  pub right_layout : a.layout ≡ true

module _ {A : Type 0} (a : Answers) (next : Outcome A) where
  -- a value is given exactly where all four are yes
  pub all_yes : (v : A) → asked a next ≡ gives v → AllYes a × (next ≡ gives v)
  all_yes v h =
      let at-layout = demand a.layout 6 next in
      let at-country = demand a.country 5 at-layout in
      let p = passed a.count 2 (demand a.bytes 3 at-country) v h in
      let q = passed a.bytes 3 at-country v p.1 in
      let r = passed a.country 5 at-layout v q.1 in
      let t = passed a.layout 6 next v r.1 in
      (record { right_count = p.0; right_bytes = q.0; right_country = r.0; right_layout = t.0 }, t.1)

  pub goes_on : AllYes a → asked a next ≡ next
  goes_on y = simp (y.right_count, y.right_bytes, y.right_country, y.right_layout)

-- ---- testing

-- a standard: lengths, bytes, countries (every text has one where the standard knows none), layout
pub record Standard : Type 0 where
  pub low : ℕ
  pub high : ℕ
  pub allows : ℕ → Bool
  pub lists : List ℕ → Bool
  pub lays : List ℕ → Bool

abbrev pub answers : Standard → List ℕ → Answers
answers d s = record { count = within d.low d.high (length s); bytes = every d.allows s; country = d.lists s; layout = d.lays s }

abbrev pub rule : Standard → List ℕ → Outcome (Unit {0})
rule d s = asked (answers d s) (demand (checks s) 4 (gives tt))

module _ (d : Standard) where
  -- a text is accepted exactly where all five tests pass
  pub accepted : (s : List ℕ) → rule d s ≡ gives tt → AllYes (answers d s) × (checks s ≡ true)
  accepted s h =
      let (y, at_pair) = all_yes (answers d s) (demand (checks s) 4 (gives tt)) tt h in
      (y, (passed (checks s) 4 (gives tt) tt at_pair).0)

  pub accepts : (s : List ℕ) → AllYes (answers d s) → checks s ≡ true → gives tt ≡ rule d s
  accepts s y p = sym (goes_on (answers d s) (demand (checks s) 4 (gives tt)) y ∙ passes_on (checks s) 4 (gives tt) p)

  -- of a standard whose texts are neither too short nor too long, the laws on refusals hold
  pub sound : 4 ≤ d.low → d.high < 48 → (s : List ℕ) → rule d s ≡ gives tt → Sound s
  sound long short s p =
      let (y, k) = accepted s p in
      let b = inside_is d.low d.high (length s) y.right_count in
      record { long = omega arith; short = omega arith; pair = k }

  -- neighbours exchanged where country and layout stay
  pub neighbours_accepted : (s : List ℕ) (i : ℕ) → rule d s ≡ gives tt → 4 ≤ i → suc i < length s → Mixed (get_or s i 0) (get_or s (suc i) 0)
      → d.lists (swap s i (suc i)) ≡ true → d.lays (swap s i (suc i)) ≡ true
      → (rule d (swap s i (suc i)) ≡ gives tt) ↔ Unseen (get_or s i 0) (get_or s (suc i) 0)
  neighbours_accepted s i p h l k country layout =
      let (y, pair) = accepted s p in
      let t = swap s i (suc i) in
      let x = neighbours_checks s i h l pair k in
      let z : AllYes (answers d t) =
      record {
        right_count = ap (within d.low d.high) (swap-length s i (suc i)) ∙ y.right_count;
        right_bytes = every_swap d.allows s i (suc i) y.right_bytes (omega arith) l;
        right_country = country;
        right_layout = layout;
      } in
      (λ q. x.0 (accepted t q).1, λ w. sym (accepts t z (x.1 w)))

  -- letters, a pair and a body: accepted exactly where the pair is the one that is made
  pub paired_accepted : (x y q : ℕ) (body : List ℕ) → q < 100 → ((c : ℕ) → c < 10 → d.allows (48 + c) ≡ true)
      → every d.allows (x ∷ y ∷ []) ≡ true → every d.allows body ≡ true
      → within d.low d.high (length (paired (x ∷ y ∷ []) q body)) ≡ true → d.lists (paired (x ∷ y ∷ []) q body) ≡ true → d.lays (paired (x ∷ y ∷ []) q body) ≡ true
      → (rule d (paired (x ∷ y ∷ []) q body) ≡ gives tt) ↔ (q ≡ pair_for (x ∷ y ∷ []) body)
  paired_accepted x y q body l digit letters bytes count country layout =
      let s = paired (x ∷ y ∷ []) q body in
      let w = checks_made x y body q l in
      let digits = every_cons d.allows _ _ (digit (q / 10) (omega arith)) (every_cons d.allows _ _ (digit (q % 10) (omega arith)) bytes) in
      let z : AllYes (answers d s) =
      record { right_count = count; right_bytes = every_both d.allows (x ∷ y ∷ []) _ letters digits; right_country = country; right_layout = layout } in
      (λ p. w.0 (accepted s p).1, λ e. sym (accepts s z (w.1 e)))

-- ---- making

-- a pair is made only where all that is asked is answered with yes, and it is the one that the rule names
pub making : (a : Answers) (v p : ℕ) → asked a (gives v) ≡ gives p → AllYes a × (p ≡ v)
making a v p h = let (y, e) = all_yes a (gives v) p h in (y, cc e)
