-- What each record's call comes to, and how long a script may be.
use Rattle.std.proofs.Common.{Option, Some, None}
use Prim.Native.Nat.{ℕ, zero, suc, min, ◌≤◌, ◌<◌, ◌+◌, ◌-◌, ◌*◌, ◌/◌, ◌%◌}
use mathlib.Core.Path.{◌≡◌, refl, sym, ap, ◌∙◌, subst, subst⁻¹}
use mathlib.Core.Bool.{Bool, true, false, cond}
use mathlib.Core.List.{List, [], ◌∷◌, ◌++◌, append-nil}
use Rattle.std.proofs.Common.{Ok, Err, Option, Some, None}
use native.Mathlib.Omega.{arith}
use lib.ListN.{get_or, length, take, drop}
use lib.Seq.{get_or-take, get_or-drop}
use borrow.Author.Tests.{eq-eqb, ne_eqb, le-leb, lt-leb, leb-true}
use lib.Dec.{eqb, leb}
use Rattle.text.specs.Bytes.{within}
use Rattle.text.specs.Numbers.{u32_at}
use Rattle.text.proofs.Tests.{inside_is}
use Rattle.reasons.specs.Reasons.{Outcome, gives, refuses}
use Rattle.reasons.specs.declared.Reason.{Reason}
use Rattle.reasons.proofs.Laws.{passed}
use Rattle.slots.specs.Journal.{NewestIs, slots_of, state_of, place}
use Rattle.slots.specs.Record.{is_held}
use Rattle.held.specs.Held.{record_at, held_after, held_up_to, sum_of, amount_of}
use Rattle.journal.specs.Rules.{Books, Releases, release_rule}
use Rattle.journal.specs.declared.Released.{Released}
use Rattle.held.proofs.Lists.{held_at_most}
use Rattle.layout.specs.declared.Track.{Track}
use Rattle.layout.specs.declared.Track.TheVariants.{Two, One}
use Rattle.payer.specs.Payer.{Terms, Given, Payer}
use Rattle.swipe.specs.Swipe.{Swipes}
use Rattle.swipe.specs.declared.Receipt.{Receipt}
use Rattle.swipe.proofs.Laws.{ComesTo, refusal, one_booking, swipe_comes_to}
use Rattle.history.specs.History.{Call, book, swipe, release, aside, AnswerTo, Does, Done, Payment, takings}
use Rattle.history.specs.History.{Effect, booked_one, released_to, nothing, of_swipe, effect, effect_of, booked_in, count_in, sum_in, booked, freed_count, freed_sum}
use Rattle.plays.specs.declared.Totals.{Totals}
use Rattle.plays.specs.Script.{kind_at, pan_at, label_at, amount_at, serial_at, swipe_at, call_at, script_rule, scratch_left}
use Rattle.plays.specs.Script.{refused_in, skipped_in, refused_count, skipped_count, TotalsOf}
use Rattle.plays.specs.Script.{Nothing, Paid, Freed, PlaysOne}

-- ---- the totals of one call

record Tells (e : Effect) (c : Call) (r : Totals) : Type 0 where
  booked : r.booked ≡ length (booked_in e)
  takings : r.takings ≡ takings (booked_in e)
  released : r.released ≡ count_in e
  remitted : r.remitted ≡ sum_in e
  refused : r.refused ≡ refused_in c e
  skipped : r.skipped ≡ skipped_in c

totals_of : (d : Done) (e : Effect) (r : Totals) → effect_of d ≡ e → Tells e d.call r → TotalsOf (d ∷ []) r
unfolding booked freed_count freed_sum refused_count skipped_count
totals_of d e r q w =
    let v : Tells (effect_of d) d.call r = subst⁻¹ (λ (x : Effect). Tells x d.call r) q w in
    let n : booked_in (effect_of d) ++ [] ≡ booked_in (effect_of d) = append-nil (booked_in (effect_of d)) in
    record {
      booked_is = v.booked ∙ ap length (sym n);
      takings_is = v.takings ∙ ap takings (sym n);
      released_is = v.released ∙ omega arith;
      remitted_is = v.remitted ∙ omega arith;
      refused_is = v.refused ∙ omega arith;
      skipped_is = v.skipped ∙ omega arith;
    }

-- a call that is refused, and a record that makes none
pub nothing_came : (c : Call) (clock : ℕ) (a : AnswerTo c) (t j : List ℕ) (r : Totals) (u k : List ℕ)
    → effect clock c a ≡ nothing → refused_in c nothing + skipped_in c ≤ 1
    → Does j clock c a k → u ≡ scratch_left c a t → Nothing (refused_in c nothing) (skipped_in c) r → PlaysOne c clock t j r u k
unfolding takings
nothing_came c clock a t j r u k e small w s n =
    record {
      answer = a;
      does = w;
      scratch = s;
      totals = totals_of (record { clock = clock; call = c; answer = a; after = k }) nothing r e
          (record { booked = n.0; takings = n.1; released = n.2; remitted = n.3; refused = n.4; skipped = n.5 });
      small = (omega (arith, n.0), omega (arith, n.1), omega (arith, n.2), omega (arith, n.3), omega (arith, n.4), omega (arith, n.5));
    }

-- a call that books
payment_came : (c : Call) (clock : ℕ) (a : AnswerTo c) (p : Payment) (t j : List ℕ) (r : Totals) (u k : List ℕ)
    → effect clock c a ≡ booked_one p → p.amount < 4294967296
    → refused_in c (booked_one p) ≡ 0 → skipped_in c ≡ 0 → Does j clock c a k → u ≡ scratch_left c a t → Paid p.amount r → PlaysOne c clock t j r u k
unfolding takings
payment_came c clock a p t j r u k e small x y w s n =
    record {
      answer = a;
      does = w;
      scratch = s;
      totals = totals_of (record { clock = clock; call = c; answer = a; after = k }) (booked_one p) r e
          (record { booked = n.0; takings = omega (arith, n.1); released = n.2; remitted = n.3; refused = n.4 ∙ sym x; skipped = n.5 ∙ sym y });
      small = (omega (arith, n.0), omega (arith, n.1), omega (arith, n.2), omega (arith, n.3), omega (arith, n.4), omega (arith, n.5));
    }

-- ---- book

module _ (pan : List ℕ) (label amount clock : ℕ) (small : amount < 4294967296) (t j k : List ℕ) (r : Totals) where
  pub book_refused_came : (x : Reason) → Books j pan label amount clock (Err x) k → Nothing 1 0 r → PlaysOne (book pan label amount) clock t j r t k
  book_refused_came x w n = nothing_came (book pan label amount) clock (Err x) t j r t k refl (omega arith) (small, w) refl n

  pub booked_came : (s : ℕ) → Books j pan label amount clock (Ok s) k → Paid amount r → PlaysOne (book pan label amount) clock t j r t k
  booked_came s w n =
      payment_came (book pan label amount) clock (Ok s) (record { serial = s; clock = clock; amount = amount; label = label; pan = pan }) t j r t k
      refl small refl refl (small, w) refl n

pub same_book : {pan pan' : List ℕ} {label label' amount amount' clock clock' : ℕ} (t j : List ℕ) (r : Totals) (k : List ℕ)
    → pan ≡ pan' → label ≡ label' → amount ≡ amount' → clock ≡ clock'
    → PlaysOne (book pan label amount) clock t j r t k → PlaysOne (book pan' label' amount') clock' t j r t k
same_book {pan} {pan'} {label} {label'} {amount} {amount'} {clock} {clock'} t j r k ep el ea ec w =
    subst (λ (x : List ℕ). PlaysOne (book x label' amount') clock' t j r t k) ep
    (subst (λ (x : ℕ). PlaysOne (book pan x amount') clock' t j r t k) el
    (subst (λ (x : ℕ). PlaysOne (book pan label x) clock' t j r t k) ea
    (subst (λ (x : ℕ). PlaysOne (book pan label amount) x t j r t k) ec w)))

-- ---- swipe

module _ (g : Given) (amount clock : ℕ) (small : amount < 4294967296) (t j u k : List ℕ) (r : Totals) where
  pub swipe_refused_came : (x : Reason) → Swipes g amount clock t j (Err x) u k → Nothing 1 0 r → PlaysOne (swipe g amount t) clock t j r u k
  swipe_refused_came x w n =
      nothing_came (swipe g amount t) clock (record { says = Err x; scratch = u }) t j r u k refl (omega arith) (small, w) refl n

  pub swiped_came : (y : Receipt) → Swipes g amount clock t j (Ok y) u k → Paid amount r → PlaysOne (swipe g amount t) clock t j r u k
  swiped_came y w n = go (swipe_comes_to g amount clock t j (Ok y) u k w)
    where
      go : ComesTo g amount clock j (Ok y) k → PlaysOne (swipe g amount t) clock t j r u k
      go (refusal x f h) = let z : ◌≡◌ {A = ℕ} 0 1 = cc in absurd (omega arith)
      go (one_booking p f h) =
          payment_came (swipe g amount t) clock (record { says = Ok y; scratch = u })
          (record { serial = y.serial; clock = clock; amount = amount; label = p.label; pan = p.pan }) t j r u k
          (ap (λ (o : Outcome Payer). of_swipe (Ok y) o clock amount) f) small refl refl (small, w) refl n

pub same_swipe : {g g' : Given} {amount amount' clock clock' : ℕ} (t j : List ℕ) (r : Totals) (u k : List ℕ)
    → g ≡ g' → amount ≡ amount' → clock ≡ clock' → PlaysOne (swipe g amount t) clock t j r u k → PlaysOne (swipe g' amount' t) clock' t j r u k
same_swipe {g} {g'} {amount} {amount'} {clock} {clock'} t j r u k eg ea ec w =
    subst (λ (x : Given). PlaysOne (swipe x amount' t) clock' t j r u k) eg
    (subst (λ (x : ℕ). PlaysOne (swipe g x t) clock' t j r u k) ea
    (subst (λ (x : ℕ). PlaysOne (swipe g amount t) x t j r u k) ec w))

-- ---- release

-- a release frees no more than there are slots, and their amounts are 32-bit numbers
module _ (j : List ℕ) (bytes : (i : ℕ) → get_or j i 0 < 256) where
  amount_fits : (n s : ℕ) → amount_of (record_at j n s) ≤ 4294967295
  unfolding record_at u32_at
  amount_fits n s = omega (arith, at 8 (omega arith), at 9 (omega arith), at 10 (omega arith), at 11 (omega arith))
    where
      at : (i : ℕ) → i < 32 → get_or (take 32 (drop (place n s) j)) i 0 < 256
      at i h = subst⁻¹ (λ (x : ℕ). x < 256) (get_or-take 32 (drop (place n s) j) i 0 h ∙ get_or-drop (place n s) j i 0) (bytes (place n s + i))

  sum_fits : (n low m : ℕ) → sum_of (held_after j n low m) ≤ 4294967295 * m
  unfolding held_after sum_of
  sum_fits n low zero = omega arith
  sum_fits n low (suc m) = go (is_held (state_of j n (low + 1))) (sum_fits n (low + 1) m)
    where
      go : (t : Bool) → sum_of (held_after j n (low + 1) m) ≤ 4294967295 * m
          → sum_of (cond t (record_at j n (low + 1) ∷ held_after j n (low + 1) m) (held_after j n (low + 1) m)) ≤ 4294967295 * suc m
      go true h = let a = amount_fits n (low + 1) in omega arith
      go false h = omega arith

  freed_fits : (m : Option ℕ) (s c y : ℕ) → NewestIs j m → ◌≡◌ {A = Outcome Released} (gives (record { count = c; sum = y })) (release_rule m j s)
      → (c ≤ 2048) × (y ≤ 8796093020160)
  unfolding release_rule
  freed_fits None s c y is e = let z : ◌≡◌ {A = ℕ} 0 1 = cc in absurd (omega arith)
  freed_fits (Some b) s c y f e =
      let n : ℕ = slots_of j in
      let freed : Released = record { count = length (held_up_to j b s); sum = sum_of (held_up_to j b s) } in
      let a = passed (within 1 b s) 20 (gives freed) (record { count = c; sum = y }) (sym e) in
      let r = inside_is 1 b s a.0 in
      let t : freed ≡ record { count = c; sum = y } = cc a.1 in
      let ec : length (held_up_to j b s) ≡ c = ap (λ (x : Released). x.count) t in
      let ey : sum_of (held_up_to j b s) ≡ y = ap (λ (x : Released). x.sum) t in
      let lc = held_at_most j n (b - n) (s - (b - n)) in
      let ly = sum_fits n (b - n) (s - (b - n)) in
      let most : s - (b - n) ≤ 2048 = omega (arith, f.most, r.1) in
      (omega arith, omega arith)

module _ (serial clock : ℕ) (t j k : List ℕ) (r : Totals) where
  pub release_refused_came : (x : Reason) → Releases j serial (Err x) k → Nothing 1 0 r → PlaysOne (release serial) clock t j r t k
  release_refused_came x w n = nothing_came (release serial) clock (Err x) t j r t k refl (omega arith) w refl n

  pub released_came : ((i : ℕ) → get_or j i 0 < 256) → (y : Released) → Releases j serial (Ok y) k → Freed y r → PlaysOne (release serial) clock t j r t k
  unfolding takings
  released_came bytes y w n =
      let f = freed_fits j bytes w.view serial y.count y.sum w.is w.so.0 in
      record {
        answer = Ok y;
        does = w;
        scratch = refl;
        totals = totals_of (record { clock = clock; call = release serial; answer = Ok y; after = k }) (released_to serial y.count y.sum) r refl
            (record { booked = n.0; takings = n.1; released = n.2; remitted = n.3; refused = n.4; skipped = n.5 });
        small = (omega (arith, n.0), omega (arith, n.1), omega (arith, n.2, f.0), omega (arith, n.3, f.1), omega (arith, n.4), omega (arith, n.5));
      }

pub same_release : {serial serial' : ℕ} (clock : ℕ) (t j : List ℕ) (r : Totals) (k : List ℕ)
    → serial ≡ serial' → PlaysOne (release serial) clock t j r t k → PlaysOne (release serial') clock t j r t k
same_release clock t j r k e w = subst (λ (x : ℕ). PlaysOne (release x) clock t j r t k) e w

-- ---- the call of a record

pub pan_is : (r : List ℕ) (n : ℕ) → n ≡ min (get_or r 1 0) 108 → take (20 + n - 20) (drop 20 r) ≡ pan_at r 0
pan_is r n e = let long : 20 + n - 20 ≡ n = omega arith in ap (λ (m : ℕ). take m (drop 20 r)) (long ∙ e)

module _ (s : List ℕ) (terms : Terms) (t : List ℕ) (at : ℕ) where
  pub is_book : kind_at s at ≡ 1 → book (pan_at s at) (label_at s at) (amount_at s at) ≡ call_at s terms t at
  unfolding call_at
  is_book e = simp (eq-eqb (kind_at s at) 1 e)

  pub is_release : kind_at s at ≡ 2 → release (serial_at s at) ≡ call_at s terms t at
  unfolding call_at
  is_release e = simp (ne_eqb (kind_at s at) 1 (λ z. omega arith), eq-eqb (kind_at s at) 2 e)

  -- the kind of a record that swipes a track
  abbrev kind_of : Track → ℕ
  kind_of Two = 3
  kind_of One = 4

  pub is_swipe : (k : Track) → kind_at s at ≡ kind_of k → swipe_at k s terms t at ≡ call_at s terms t at
  unfolding call_at
  is_swipe Two e = simp (ne_eqb (kind_at s at) 1 (λ z. omega arith), ne_eqb (kind_at s at) 2 (λ z. omega arith), eq-eqb (kind_at s at) 3 e)
  is_swipe One e =
      simp (
        ne_eqb (kind_at s at) 1 (λ z. omega arith),
        ne_eqb (kind_at s at) 2 (λ z. omega arith),
        ne_eqb (kind_at s at) 3 (λ z. omega arith),
        eq-eqb (kind_at s at) 4 e,
      )

  pub is_none : (kind_at s at ≡ 1 → ⊥) → (kind_at s at ≡ 2 → ⊥) → (kind_at s at ≡ 3 → ⊥) → (kind_at s at ≡ 4 → ⊥) → aside ≡ call_at s terms t at
  unfolding call_at
  is_none a b c d = simp (ne_eqb (kind_at s at) 1 a, ne_eqb (kind_at s at) 2 b, ne_eqb (kind_at s at) 3 c, ne_eqb (kind_at s at) 4 d)

pub as_call : {c c' : Call} (clock : ℕ) (t j : List ℕ) (r : Totals) (u k : List ℕ) → c ≡ c' → PlaysOne c clock t j r u k → PlaysOne c' clock t j r u k
as_call clock t j r u k e w = subst (λ (c : Call). PlaysOne c clock t j r u k) e w

-- ---- how long a script may be

module _ (s : List ℕ) where
  pub broken : (length s % 128 ≡ 0 → ⊥) → script_rule s ≡ refuses 6
  unfolding script_rule
  broken h = simp (ne_eqb (length s % 128) 0 h)

  pub too_many : length s % 128 ≡ 0 → 1048576 < length s / 128 → script_rule s ≡ refuses 99
  unfolding script_rule
  too_many e h = simp (eq-eqb (length s % 128) 0 e, lt-leb (length s / 128) 1048576 h)

  pub whole : length s % 128 ≡ 0 → length s / 128 ≤ 1048576 → script_rule s ≡ gives tt
  unfolding script_rule
  whole e h = simp (eq-eqb (length s % 128) 0 e, le-leb (length s / 128) 1048576 h)

  -- a script that is played isn't too long
  pub few : script_rule s ≡ gives tt → length s / 128 ≤ 1048576
  unfolding script_rule
  few e =
      let p = passed (eqb (length s % 128) 0) 6 _ tt e in
      leb-true (length s / 128) 1048576 (passed (leb (length s / 128) 1048576) 99 (gives tt) tt p.1).0
