-- What box and host agree on, from an empty journal of 1 to 2,048 slots and a fresh ledger, whatever the channel does.
use Prim.Native.Nat.{ℕ, zero, suc, ◌≤◌, ◌<◌, ◌+◌, ◌-◌, ◌*◌}
use mathlib.Core.Path.{◌≡◌, refl, sym, ap, ◌∙◌, subst, subst⁻¹}
use mathlib.Core.Bool.{Bool, false, cond, ◌&&◌}
use mathlib.Core.List.Memᴰ
use mathlib.Core.List.{List, [], ◌∷◌, ◌++◌, map, append-nil, Memᴰ as Among}
use native.Mathlib.Omega.{arith}
use native.Mathlib.Decide.{dec_lt}
use lib.ListN.{length, get_or, take, drop, replicate, drop_of_length-le}
use lib.Seq.{split_at, drop-append-le, length-take-le, take_all}
use borrow.Author.Tests.{le-ltb}
use Rattle.text.proofs.Tests.{under, inside}
use Rattle.reasons.specs.Reasons.{gives, number_of, said}
use Rattle.reasons.proofs.Laws.{gives_refuses, said_one}
use Rattle.reasons.specs.declared.Reason.TheVariants.{NoSerial}
use Rattle.slots.specs.Record.{is_held}
use Rattle.slots.specs.Journal.{slots_of, place, state_of, Formed}
use Rattle.slots.proofs.Views.{known}
use Rattle.slots.proofs.Records.{serial_of_lem}
use Rattle.held.specs.Held.{low_of, held_up_to, held_list, serial_of, sum_of}
use Rattle.held.specs.Rules.{held_in}
use Rattle.journal.specs.Rules.{Releases, freed_after}
use Rattle.journal.specs.declared.Released.{Released}
use Rattle.journal.proofs.Rule.{release_none, release_done}
use Rattle.journal.proofs.Radio.{freed_bytes}
use Rattle.held.proofs.Lists.{held_none}
use Rattle.journal.proofs.Walks.{freed_not}
use Rattle.journal.proofs.Calls.{release_refused}
use Rattle.history.specs.History.{Done, release, Payment, record_of, booked_in, serial_in, of_release, booked, highest, takings, freed_count, freed_sum, Demand3}
use Rattle.history.proofs.Account.{Account, account, map-append}
use Rattle.history.proofs.Demand.{zeros_open}
use Rattle.history.proofs.Laws.{demand_3}
use Rattle.history.proofs.Runs.{booked-append, highest-append}
use Rattle.ledger.specs.Ledger.{wants, moved, Takes}
use Rattle.reasons.specs.declared.Reason.{Reason}
use Rattle.std.proofs.Common.{Result, Ok, Err}
use Rattle.ledger.specs.declared.Ledger.{Ledger}
use Rattle.ledger.proofs.Laws.{held_taken}
use Rattle.channel.specs.Channel.{World, start, leaving, Nth, head_is, Act, made, Course, and_then, box_hears, counted, Agree, AllTaken}
use Rattle.channel.proofs.Lists.{Serials, serial_at_lem, below_is, among_more}
use Rattle.channel.proofs.Kept.{LastAnswer, the_last, Kept, course_kept, one_highest}

-- ---- releases by an answer

module _ (j : List ℕ) (b s : ℕ) (r : Result Released Reason) (k : List ℕ) (f : Formed j (slots_of j) b) (w : Releases j s r k) where
  none_there : s ≡ 0 → r ≡ Err NoSerial
  none_there e = said_one r (Err NoSerial) ((known j b f w).0 ∙ sym (release_none j b s (under 1 b s (omega arith))))

  -- one up to a booked serial is refused only where that is 0
  reaches : s ≤ b → s ≤ serial_in (of_release r s)
  reaches h = go r refl (dec_lt 0 s)
    where
      go : (q : Result Released Reason) → r ≡ q → Dec (0 < s) → s ≤ serial_in (of_release q s)
      go (Ok y) e d = omega arith
      go (Err x) e (no z) = omega arith
      go (Err x) e (yes z) = gives_refuses _ (number_of x) (release_done j b s z h ∙ sym (known j b f w).0 ∙ ap said e)

-- a kept serial that isn't among the held ones has another state
not_held : (j : List ℕ) (b s : ℕ) → low_of j b < s → s ≤ b → held_in j b s ≡ false → is_held (state_of j (slots_of j) s) ≡ false
unfolding held_in
not_held j b s l h e = sym (ap (λ (t : Bool). t && is_held (state_of j (slots_of j) s)) (inside (low_of j b + 1) b s (omega arith) h)) ∙ e

-- where none of them is held, releasing them changes nothing
freed_gone : (j : List ℕ) (n low m : ℕ) → ((s : ℕ) → low < s → s ≤ low + m → is_held (state_of j n s) ≡ false) → freed_after j n low m ≡ j
unfolding freed_after
freed_gone j n low zero gone = refl
freed_gone j n low (suc m) gone =
    ap (λ (k : List ℕ). freed_after k n (low + 1) m) (sym (freed_not j (place n (low + 1)) (gone (low + 1) (omega arith) (omega arith))))
    ∙ freed_gone j n (low + 1) m (λ s l h. gone s (omega arith) (omega arith))

last_is : {s taken : ℕ} {older : List ℕ} → LastAnswer taken (s ∷ older) → s ≡ taken
last_is (the_last e) = e

-- ---- from an empty journal and a fresh ledger

module _ (n : ℕ) (least : 1 ≤ n) (most : n ≤ 2048) (acts : List Act) (ds : List Done) (w : World) (c : Course (start n) acts ds w) where
  kept : Kept (replicate (32 * n) 0) ds w
  kept = course_kept n least most c

  -- demand 3 of its calls
  three : Demand3 ds w.journal
  three = demand_3 n least most ds w.journal kept.run

  counted_is : counted ds w.ledger ≡ take w.ledger.taken (booked ds)
  counted_is =
      let e : w.ledger.taken + 1 - (0 + 1) ≡ w.ledger.taken = omega arith in
      below_is 0 (w.ledger.taken + 1) (booked ds) three.serials ∙ ap (λ (x : ℕ). take x (booked ds)) e

  -- "whatever the channel does, the host's total is the sum of booked payments below its next serial, and no released payment is missing from it"
  pub agree : Agree ds w
  agree = record {
    total = kept.total ∙ ap takings (sym counted_is);
    as_booked = kept.as_booked ∙ ap (map record_of) (sym counted_is);
    none_missing = λ p a. subst⁻¹ (Among p) counted_is (among_more p (highest ds) w.ledger.taken (booked ds) kept.past a);
    from_booked = kept.reach;
    past_released = kept.past;
  }

  -- a payment that the host hasn't taken is still held: the box can send the one that is wanted
  pub wanted_is_held : w.ledger.taken < length (booked ds)
      → (r : List ℕ) × Among r (held_list w.journal (length (booked ds))) × (serial_of r ≡ w.ledger.taken + 1)
  wanted_is_held h =
      let ps : List Payment = booked ds in
      let t : ℕ = w.ledger.taken in
      let p : Payment = get_or ps t (record { serial = 0; clock = 0; amount = 0; label = 0; pan = [] }) in
      let a : Account (replicate (32 * n) 0) 0 0 (booked ds) (highest ds) (freed_count ds) (freed_sum ds) w.journal =
      account 0 0 (zeros_open n least most) kept.run in
      let split : ps ≡ take t ps ++ (p ∷ drop (suc t) ps) = split_at ps t _ h in
      let long : length (take t ps) ≡ t = length-take-le t ps (omega arith) in
      let serial : p.serial ≡ 0 + length (take t ps) + 1 = serial_at_lem 0 (take t ps) p (drop (suc t) ps) (subst (Serials 0) split three.serials) in
      let waits : drop (highest ds) ps ≡ drop (highest ds) (take t ps) ++ (p ∷ drop (suc t) ps) =
      ap (drop (highest ds)) split ∙ drop-append-le (highest ds) (take t ps) (p ∷ drop (suc t) ps) (omega (arith, kept.past)) in
      let held : held_list w.journal (length ps) ≡ map record_of (drop (highest ds) (take t ps)) ++ (record_of p ∷ map record_of (drop (suc t) ps)) =
      three.held ∙ ap (map record_of) waits ∙ map-append record_of (drop (highest ds) (take t ps)) (p ∷ drop (suc t) ps) in (
        record_of p,
        subst⁻¹ (Among (record_of p)) held (Memᴰ.append_right (map record_of (drop (highest ds) (take t ps))) (Among.head refl)),
        serial_of_lem p.serial p.clock p.amount p.label p.pan (omega (arith, a.fits)) ∙ omega arith,
      )

  -- a record that the box sent is never refused
  pub sent_never_refused : (message : List ℕ) (r : Result Ledger Reason) → Among message w.records → Takes w.ledger message r
      → r ≡ Ok (cond (wants w.ledger message) (moved w.ledger message) w.ledger)
  sent_never_refused message r a t = held_taken w.ledger message r (kept.sent message a).held kept.fine t

  -- "An answer of 0 meets reason 20 at the box and does no harm"
  pub zero_does_no_harm : (r : Result Released Reason) (after : List ℕ) → Releases w.journal 0 r after → (r ≡ Err NoSerial) × (after ≡ w.journal)
  zero_does_no_harm r after t =
      let e : r ≡ Err NoSerial = none_there w.journal (length (booked ds)) 0 r after three.formed t refl in
      (e, release_refused w.journal 0 NoSerial after (subst (λ (q : Result Released Reason). Releases w.journal 0 q after) e t))

  -- old answers do no harm: one up to a serial that was released before releases nothing, and no byte changes
  pub old_does_no_harm : (s : ℕ) → 1 ≤ s → s ≤ highest ds → (r : Result Released Reason) (after : List ℕ) → Releases w.journal s r after
      → (r ≡ Ok (record { count = 0; sum = 0 })) × (after ≡ w.journal)
  unfolding sum_of
  old_does_no_harm s l h r after t =
      let j : List ℕ = w.journal in
      let b : ℕ = length (booked ds) in
      let in_range : s ≤ b = omega (arith, three.reach) in
      let gone : (u : ℕ) → low_of j b < u → u ≤ low_of j b + (s - low_of j b) → is_held (state_of j (slots_of j) u) ≡ false =
      λ u x y. not_held j b u x (omega arith) (three.either u (inside 1 b u (omega arith) (omega arith)) ∙ le-ltb (highest ds) u (omega arith)) in
      let none : held_up_to j b s ≡ [] = held_none j (slots_of j) (low_of j b) (s - low_of j b) gone in
      let says = known j b three.formed t in (
        said_one r (Ok (record { count = 0; sum = 0 }))
            (says.0 ∙ sym (release_done j b s l in_range) ∙ (λ i. gives (record { count = length (none i); sum = sum_of (none i) }))),
        says.1 ∙ freed_bytes j b s l in_range ∙ freed_gone j (slots_of j) (low_of j b) (s - low_of j b) gone,
      )

  -- where the host has taken every held record it has taken every booked payment
  taken_all : AllTaken ds w → w.ledger.taken ≡ length (booked ds)
  taken_all all = go (dec_lt w.ledger.taken (length (booked ds)))
    where
      go : Dec (w.ledger.taken < length (booked ds)) → w.ledger.taken ≡ length (booked ds)
      go (yes h) = let r = wanted_is_held h in let z : serial_of r.0 ≤ w.ledger.taken = all r.0 r.1 in absurd (omega (arith, r.2))
      go (no h) = omega (arith, kept.reach)

  -- the host's last answer s arrives at the box
  module _ (s : ℕ) (older : List ℕ) (is_last : w.answers ≡ s ∷ older) (clock : ℕ) (r : Result Released Reason) (after : List ℕ) (t : Releases w.journal s r after) where
    -- the calls with the release by it
    abbrev pub es : List Done
    es = ds ++ (made clock (release s) r after ∷ [])

    kept_then : Kept (replicate (32 * n) 0) es (leaving w after)
    kept_then = course_kept n least most (and_then c (box_hears clock r (subst⁻¹ (λ (l : List ℕ). Nth 0 l s) is_last head_is) t))

    three_then : Demand3 es after
    three_then = demand_3 n least most es after kept_then.run

    up_to_taken : highest es ≡ w.ledger.taken
    up_to_taken =
        let e : s ≡ w.ledger.taken = last_is (subst (LastAnswer w.ledger.taken) is_last kept.last) in
        let up = reaches w.journal (length (booked ds)) s r after three.formed t (omega (arith, kept.reach)) in
        omega (arith, highest-append ds (made clock (release s) r after ∷ []), one_highest (made clock (release s) r after), kept_then.past)

    pub same_booked : booked es ≡ booked ds
    unfolding booked
    same_booked = booked-append ds (made clock (release s) r after ∷ []) ∙ ap (λ (l : List Payment). booked ds ++ (l ++ [])) (none r) ∙ append-nil (booked ds)
      where
        none : (q : Result Released Reason) → booked_in (of_release q s) ≡ []
        none (Ok y) = refl
        none (Err x) = refl

    -- "If its last answer arrives while the host has taken every held record, the box's released total equals the host's total":
    -- so it does whether the host has taken every one or not,
    pub last_answer_settles : freed_sum es ≡ w.ledger.total
    last_answer_settles = three_then.summed ∙ ap (λ (x : ℕ). takings (take x (booked es))) up_to_taken ∙ sym kept_then.total

    -- and where it has, both are the sum of all that was booked, and nothing is held any more
    pub all_settled : AllTaken ds w → (w.ledger.total ≡ takings (booked ds)) × (held_list after (length (booked ds)) ≡ [])
    all_settled all =
        let e : w.ledger.taken ≡ length (booked ds) = taken_all all in
        let n : length (booked es) ≡ length (booked ds) = ap length same_booked in (
          kept.total ∙ ap takings (take_all w.ledger.taken (booked ds) (omega arith)),
          ap (held_list after) (sym n) ∙ three_then.held ∙ ap (map record_of) (drop_of_length-le (booked es) {i = highest es} (omega (arith, up_to_taken))),
        )
