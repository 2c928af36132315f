-- The records of a script one after another, and what they keep.
use Rattle.std.proofs.Common.{Some}
use Prim.Native.Nat.{ℕ, suc, ◌≤◌, ◌<◌, ◌+◌, ◌-◌, ◌*◌, ◌/◌}
use mathlib.Core.Path.{◌≡◌, refl, sym, ap, ◌∙◌, subst, subst⁻¹}
use mathlib.Core.List.{List, [], ◌∷◌, ◌++◌, map}
use native.Mathlib.Omega.{arith}
use native.Mathlib.Decide.{dec_le}
use lib.ListN.{get_or, length, length-append, length-map}
use Rattle.text.specs.Numbers.{u32_at}
use Rattle.slots.specs.Journal.{Formed, NewestIs, slots_of, place}
use Rattle.held.specs.Held.{held_list, sum_of}
use Rattle.held.proofs.Lists.{held_at_most, sum-append}
use Rattle.plays.proofs.Sums.{totals_append, bounded_none, bounded_more, sum}
use Rattle.payer.specs.Payer.{Terms}
use Rattle.history.specs.History.{Call, Done, Run, no_more, next, record_of, takings}
use Rattle.history.specs.History.{booked, freed_count, freed_sum}
use Rattle.history.proofs.Account.{Open, account}
use Rattle.history.proofs.Demand.{sum_records}
use Rattle.plays.specs.declared.Totals.{Totals}
use Rattle.std.proofs.Common.{Ok, Err}
use Rattle.plays.specs.declared.Unplayed.{Unplayed}
use Rattle.plays.specs.declared.Unplayed.TheVariants.{NotWhole, TooLong}
use Rattle.plays.proofs.Cuts.{cut_of, call_same, clock_same}
use Rattle.reasons.specs.Reasons.{gives}
use Rattle.plays.specs.Script.{clock_at, call_at, script_rule, Cut, refused_count, skipped_count, TotalsOf, Nothing, Bounded, PlaysOne, Adds}
use Rattle.replay.specs.Replay.{Plays, no_record, one_record, PlaysAll, Replays, played, not_whole, too_long, Conserved}

-- ---- one record after another

-- the first i of n records are played; whatever the others come to, with r before them they are all
pub record Going (s : List ℕ) (terms : Terms) (t j : List ℕ) (n i : ℕ) (u k : List ℕ) (r : Totals) : Type 0 where
  pub scratch_long : length u ≡ length t
  pub journal_long : length k ≡ length j
  pub in_range : i ≤ n
  pub small : Bounded i r
  pub rest : (ds : List Done) (v l : List ℕ) (x y : Totals) → Plays s terms i (n - i) u k ds v l → TotalsOf ds x → Adds r x y
      → (es : List Done) × Plays s terms 0 n t j es v l × TotalsOf es y

pub going_start : (s : List ℕ) (terms : Terms) (t j : List ℕ) (n : ℕ) (r : Totals) → Nothing 0 0 r → Going s terms t j n 0 t j r
going_start s terms t j n r z =
    record {
      scratch_long = refl;
      journal_long = refl;
      in_range = omega arith;
      small = bounded_none r z;
      rest = λ ds v l x y p w a.
          let e : n - 0 ≡ n = omega arith in (
            ds,
            subst (λ (c : ℕ). Plays s terms 0 c t j ds v l) e p,
            record {
              booked_is = omega (arith, z.0, a.booked, w.booked_is);
              takings_is = omega (arith, z.1, a.takings, w.takings_is);
              released_is = omega (arith, z.2, a.released, w.released_is);
              remitted_is = omega (arith, z.3, a.remitted, w.remitted_is);
              refused_is = omega (arith, z.4, a.refused, w.refused_is);
              skipped_is = omega (arith, z.5, a.skipped, w.skipped_is);
            },
          );
    }

-- a record that is cut from the script plays what stands at its place
cut_plays : (s : List ℕ) (terms : Terms) (at : ℕ) (u k : List ℕ) (x : Totals) (v l : List ℕ) → {c : List ℕ} → c ≡ cut_of s at
    → PlaysOne (call_at c terms u 0) (clock_at c 0) u k x v l → PlaysOne (call_at s terms u at) (clock_at s at) u k x v l
cut_plays s terms at u k x v l e p =
    subst (λ (t : ℕ). PlaysOne (call_at s terms u at) t u k x v l) (clock_same s at)
    (subst (λ (d : Call). PlaysOne d (clock_at (cut_of s at) 0) u k x v l) (call_same s at terms u)
    (subst (λ (r : List ℕ). PlaysOne (call_at r terms u 0) (clock_at r 0) u k x v l) e p))

pub going_turn : (s : List ℕ) (terms : Terms) (t j : List ℕ) (n i : ℕ) (u k u' k' : List ℕ) (r x r' : Totals) → Going s terms t j n i u k r → i < n
    → {c : List ℕ} → c ≡ cut_of s (128 * i) → PlaysOne (call_at c terms u 0) (clock_at c 0) u k x u' k' → Adds r x r' → length u' ≡ length u → length k' ≡ length k
    → Going s terms t j n (i + 1) u' k' r'
going_turn s terms t j n i u k u' k' r x r' g h {c} e q a eu ek =
    let p : PlaysOne (call_at s terms u (128 * i)) (clock_at s (128 * i)) u k x u' k' = cut_plays s terms (128 * i) u k x u' k' e q in
    record {
      scratch_long = eu ∙ g.scratch_long;
      journal_long = ek ∙ g.journal_long;
      in_range = omega arith;
      small = bounded_more i r x r' g.small p.small a;
      rest = λ ds v l y z q w b.
          let e : suc (n - (i + 1)) ≡ n - i = omega arith in
          let d : Done = record { clock = clock_at s (128 * i); call = call_at s terms u (128 * i); answer = p.answer; after = k' } in
          g.rest (d ∷ ds) v l (sum x y) z
          (subst (λ (c : ℕ). Plays s terms i c u k (d ∷ ds) v l) e
          (one_record d refl refl p.does (subst (λ (c : List ℕ). Plays s terms (i + 1) (n - (i + 1)) c k' ds v l) p.scratch q)))
          (totals_append (d ∷ []) ds x y (sum x y) p.totals w
          (record { booked = refl; takings = refl; released = refl; remitted = refl; refused = refl; skipped = refl }))
          (record {
            booked = omega (arith, a.booked, b.booked);
            takings = omega (arith, a.takings, b.takings);
            released = omega (arith, a.released, b.released);
            remitted = omega (arith, a.remitted, b.remitted);
            refused = omega (arith, a.refused, b.refused);
            skipped = omega (arith, a.skipped, b.skipped);
          });
    }

pub going_done : (s : List ℕ) (terms : Terms) (t j : List ℕ) (i : ℕ) (u k : List ℕ) (r : Totals)
    → Going s terms t j (length s / 128) i u k r → length s / 128 ≤ i → PlaysAll s terms t j r u k
unfolding booked takings freed_count freed_sum refused_count skipped_count
going_done s terms t j i u k r g h =
    let l = g.in_range in
    let e : 0 ≡ length s / 128 - i = omega arith in
    let w = g.rest [] u k (record { booked = 0; takings = 0; released = 0; remitted = 0; refused = 0; skipped = 0 }) r
    (subst (λ (c : ℕ). Plays s terms i c u k [] u k) e no_record)
    (record { booked_is = refl; takings_is = refl; released_is = refl; remitted_is = refl; refused_is = refl; skipped_is = refl })
    (record { booked = omega arith; takings = omega arith; released = omega arith; remitted = omega arith; refused = omega arith; skipped = omega arith }) in
    record { done = w.0; plays = w.1; totals = w.2 }

-- ---- what replay says

module _ (s : List ℕ) (terms : Terms) (t j : List ℕ) where
  pub rule_unplayed : (x : Unplayed) → Cut s (Err x) → Replays s terms t j (script_rule s) (Err x) t j
  rule_unplayed NotWhole e = subst⁻¹ (λ o. Replays s terms t j o (Err NotWhole) t j) e not_whole
  rule_unplayed TooLong e = subst⁻¹ (λ o. Replays s terms t j o (Err TooLong) t j) e too_long

  pub rule_played : (r : Totals) (u k : List ℕ) → script_rule s ≡ gives tt → PlaysAll s terms t j r u k
      → Replays s terms t j (script_rule s) (Ok r) u k
  rule_played r u k e w = subst⁻¹ (λ o. Replays s terms t j o (Ok r) u k) e (played w)

-- ---- what was held and what was booked is what was released and what is held

pub plays_run : {s : List ℕ} {terms : Terms} {t j u k : List ℕ} {i m : ℕ} {ds : List Done} → Plays s terms i m t j ds u k → Run j ds k
plays_run no_record = no_more
plays_run (one_record d e f w p) = next d w (plays_run p)

-- a newest serial that stands in bytes is a 32-bit number
newest-fits : (j : List ℕ) (b : ℕ) → ((i : ℕ) → get_or j i 0 < 256) → Formed j (slots_of j) b → b < 4294967296
unfolding u32_at
newest-fits j b bytes f = go (dec_le b 0)
  where
    go : Dec (b ≤ 0) → b < 4294967296
    go (yes h) = omega arith
    go (no h) =
        let l = f.least in
        let at : ℕ = place (slots_of j) b in
        let g = (f.stands b (omega arith) (omega arith)).serial in
        omega (arith, g, bytes at, bytes (at + 1), bytes (at + 2), bytes (at + 3))

pub conserved : (s : List ℕ) (terms : Terms) (t j : List ℕ) (r : Totals) (u k : List ℕ) → ((i : ℕ) → get_or j i 0 < 256) → PlaysAll s terms t j r u k
    → (b : ℕ) → NewestIs j (Some b) → Conserved b j r k
conserved s terms t j r u k bytes w b f =
    let n : ℕ = slots_of j in
    let most : length (held_list j b) ≤ b - (b - n) = held_at_most j n (b - n) (b - (b - n)) in
    let top : ℕ = b - length (held_list j b) in
    let o : Open j b top = record { formed = f; fits = newest-fits j b bytes f; above = omega arith } in
    let a = account b top o (plays_run w.plays) in
    let v = w.totals in
    let e : b + length (booked w.done) ≡ b + r.booked = ap (λ (x : ℕ). b + x) (sym v.booked_is) in
    let held : List (List ℕ) = held_list k (b + r.booked) in
    let whole : a.gone ++ held ≡ held_list j b ++ map record_of (booked w.done) = ap (λ (x : ℕ). a.gone ++ held_list k x) (sym e) ∙ a.whole in
    let counts : length a.gone + length held ≡ length (held_list j b) + length (booked w.done) =
    sym (length-append a.gone held) ∙ ap length whole ∙ length-append (held_list j b) _
    ∙ ap (λ (x : ℕ). length (held_list j b) + x) (length-map (booked w.done) record_of) in
    let sums : sum_of a.gone + sum_of held ≡ sum_of (held_list j b) + takings (booked w.done) =
    sym (sum-append a.gone held) ∙ ap sum_of whole ∙ sum-append (held_list j b) _
    ∙ ap (λ (x : ℕ). sum_of (held_list j b) + x) (sum_records (booked w.done) a.small) in
    record {
      newest = subst (λ (x : ℕ). NewestIs k (Some x)) e a.newest;
      counts = omega (arith, counts, a.counted, v.booked_is, v.released_is);
      sums = omega (arith, sums, a.summed, v.takings_is, v.remitted_is);
    }
