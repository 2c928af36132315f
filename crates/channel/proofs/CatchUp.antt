-- Whatever the channel has lost so far, sending again brings every booked payment in.
use Prim.Native.Nat.{ℕ, zero, suc, ◌≤◌, ◌<◌, ◌+◌, ◌-◌, ◌*◌}
use mathlib.Core.Path.{◌≡◌, refl, sym, ap, ◌∙◌, subst, subst⁻¹}
use mathlib.Core.Bool.{true}
use mathlib.Core.List.Memᴰ
use mathlib.Core.List.{List, [], ◌∷◌, ◌++◌, append_assoc, append-nil}
use native.Mathlib.Omega.{arith}
use native.Mathlib.Decide.{dec_lt}
use lib.ListN.{length, replicate}
use lib.Seq.{take_all}
use borrow.Author.Tests.{eq-eqb}
use Rattle.slots.specs.Record.{amount_at}
use Rattle.slots.specs.Journal.{slots_of, Formed}
use Rattle.slots.proofs.Ranges.{tells_yes}
use Rattle.held.specs.Held.{held_up_to, held_list, serial_of, sum_of}
use Rattle.journal.specs.Rules.{Releases, release_bytes}
use Rattle.journal.specs.declared.Released.{Released}
use Rattle.reasons.specs.declared.Reason.{Reason}
use Rattle.journal.proofs.Rule.{release_done}
use Rattle.history.specs.History.{Done, release, booked, highest, takings, freed_sum, freed_count, Demand3}
use Rattle.history.proofs.Account.{Account, account}
use Rattle.history.proofs.Demand.{zeros_open}
use Rattle.history.proofs.Laws.{demand_3}
use Rattle.ledger.specs.Ledger.{moved, Takes}
use Rattle.std.proofs.Common.{Some, Result, Ok}
use Rattle.ledger.proofs.Rule.{next_is, moves_on}
use Rattle.channel.specs.Channel.{World, start, leaving, sending, answering, Nth, head_is, Act, sends, hears, is_answered, made}
use Rattle.channel.specs.Channel.{Course, nothing_yet, and_then, box_sends, host_hears, box_hears, Settles}
use Rattle.channel.proofs.Lists.{among_nth}
use Rattle.channel.proofs.Kept.{LastAnswer, none_yet, the_last, Kept, course_kept}
use Rattle.channel.proofs.Laws.{wanted_is_held, last_answer_settles, same_booked}

-- a release up to a serial that was booked can be made
release_can : (j : List ℕ) (b s : ℕ) → Formed j (slots_of j) b → 1 ≤ s → s ≤ b
    → Releases j s (Ok (record { count = length (held_up_to j b s); sum = sum_of (held_up_to j b s) })) (release_bytes (Some b) j s)
release_can j b s f l h = record { view = Some b; is = f; so = (release_done j b s l h, refl) }

-- ---- one course after another

pub course_append : {v w x : World} {acts bs : List Act} {ds es : List Done} → Course v acts ds w → Course w bs es x → Course v (bs ++ acts) (ds ++ es) x
course_append {v} {w} {x} {acts} {bs} {ds} c nothing_yet = subst⁻¹ (λ (l : List Done). Course v acts l x) (append-nil ds) c
course_append {v} {w} {x} {acts} {bs} {ds} c (and_then {a = b} {acts = bs'} {ds = es} {es = fs} d e) =
    subst (λ (l : List Done). Course v (b ∷ (bs' ++ acts)) l x) (append_assoc ds es fs) (and_then (course_append c d) e)

-- one at which the box makes no call
course_quiet : {v w x : World} {acts bs : List Act} {ds : List Done} → Course v acts ds w → Course w bs [] x → Course v (bs ++ acts) ds x
course_quiet {v} {w} {x} {acts} {bs} {ds} c d = subst (λ (l : List Done). Course v (bs ++ acts) l x) (append-nil ds) (course_append c d)

-- ---- the host catches up, then the box releases

-- from the world w a course with no call of the box leads to one where the host has taken every payment booked by the calls ds
record CaughtUp (ds : List Done) (w : World) : Type 0 where
  pub acts : List Act
  pub world : World
  pub course : Course w acts [] world
  pub all : world.ledger.taken ≡ length (booked ds)

-- one of them more
record OneMore (w : World) : Type 0 where
  pub acts : List Act
  pub world : World
  pub course : Course w acts [] world
  pub next : world.ledger.taken ≡ w.ledger.taken + 1

module _ (n : ℕ) (least : 1 ≤ n) (most : n ≤ 2048) where
  -- the wanted record is sent and heard
  one_more : (acts : List Act) (ds : List Done) (w : World) → Course (start n) acts ds w → w.ledger.taken < length (booked ds) → OneMore w
  one_more acts ds w c h =
      let three : Demand3 ds w.journal = demand_3 n least most ds w.journal (course_kept n least most c).run in
      let a : Account (replicate (32 * n) 0) 0 0 (booked ds) (highest ds) (freed_count ds) (freed_sum ds) w.journal =
      account 0 0 (zeros_open n least most) (course_kept n least most c).run in
      let q = wanted_is_held n least most acts ds w c h in
      let r : List ℕ = q.0 in
      let i = among_nth r (held_list w.journal (length (booked ds))) q.1 in
      let sent : Course w (sends i.0 ∷ []) [] (sending w r) = and_then nothing_yet (box_sends (length (booked ds)) three.formed i.1) in
      let kept : Kept (replicate (32 * n) 0) ds (sending w r) = course_kept n least most (course_quiet c sent) in
      let takes : Takes w.ledger r (Ok (moved w.ledger r)) =
      moves_on w.ledger r true (tells_yes (kept.sent r (Memᴰ.head refl)).held) refl kept.fine (w.ledger.taken + 1) (amount_at r 0)
      (sym q.2) refl
      (next_is w.ledger.taken (serial_of r) (omega (arith, a.fits)) ∙ eq-eqb (serial_of r) (w.ledger.taken + 1) q.2) in
      record {
        acts = hears 0 ∷ sends i.0 ∷ [];
        world = answering (sending w r) r (Ok (moved w.ledger r));
        course = and_then sent (host_hears (Ok (moved w.ledger r)) head_is takes);
        next = refl;
      }

  -- m times, for the m payments that are missing
  catch_up : (m : ℕ) (acts : List Act) (ds : List Done) (w : World) → Course (start n) acts ds w → w.ledger.taken + m ≡ length (booked ds) → CaughtUp ds w
  catch_up zero acts ds w c e = record { acts = []; world = w; course = nothing_yet; all = omega arith }
  catch_up (suc m) acts ds w c e =
      let x = one_more acts ds w c (omega arith) in
      let y = catch_up m (x.acts ++ acts) ds x.world (course_quiet c x.course) (omega (arith, x.next)) in
      record { acts = y.acts ++ x.acts; world = y.world; course = course_append x.course y.course; all = y.all }

  -- the host has taken every booked payment, and its last answer arrives
  settle_up : (acts : List Act) (ds : List Done) (w : World) → Course (start n) acts ds w → w.ledger.taken ≡ length (booked ds) → Settles ds w
  settle_up acts ds w c e = go (dec_lt 0 w.ledger.taken) w.answers refl kept.last
    where
      kept : Kept (replicate (32 * n) 0) ds w
      kept = course_kept n least most c

      three : Demand3 ds w.journal
      three = demand_3 n least most ds w.journal kept.run

      total : w.ledger.total ≡ takings (booked ds)
      total = kept.total ∙ ap takings (take_all w.ledger.taken (booked ds) (omega arith))

      go : Dec (0 < w.ledger.taken) → (told : List ℕ) → w.answers ≡ told → LastAnswer w.ledger.taken told → Settles ds w
      go (no z) told q last = record {
        acts = [];
        more = [];
        world = w;
        course = nothing_yet;
        no_booking = ap booked (append-nil ds);
        host_has = total;
        box_released = ap freed_sum (append-nil ds) ∙ three.summed ∙ ap takings (take_all (highest ds) (booked ds) (omega arith));
      }
      go (yes z) told q (none_yet y) = absurd (omega arith)
      go (yes z) told q (the_last {s} {older} y) =
          let j : List ℕ = w.journal in
          let b : ℕ = length (booked ds) in
          let r : Result Released Reason = Ok (record { count = length (held_up_to j b s); sum = sum_of (held_up_to j b s) }) in
          let k : List ℕ = release_bytes (Some b) j s in
          let t : Releases j s r k = release_can j b s three.formed (omega arith) (omega arith) in
          record {
            acts = is_answered 0 ∷ [];
            more = made 0 (release s) r k ∷ [];
            world = leaving w k;
            course = and_then nothing_yet (box_hears 0 r (subst⁻¹ (λ (l : List ℕ). Nth 0 l s) q head_is) t);
            no_booking = same_booked n least most acts ds w c s older q 0 r k t;
            host_has = total;
            box_released = last_answer_settles n least most acts ds w c s older q 0 r k t ∙ total;
          }

  -- whatever the channel has done so far, it keeps nobody from bringing in all that was booked
  pub settles_in_the_end : (acts : List Act) (ds : List Done) (w : World) → Course (start n) acts ds w → Settles ds w
  settles_in_the_end acts ds w c =
      let u : CaughtUp ds w = catch_up (length (booked ds) - w.ledger.taken) acts ds w c (omega (arith, (course_kept n least most c).reach)) in
      let v : Settles ds u.world = settle_up (u.acts ++ acts) ds u.world (course_quiet c u.course) u.all in
      record {
        acts = v.acts ++ u.acts;
        more = v.more;
        world = v.world;
        course = course_append u.course v.course;
        no_booking = v.no_booking;
        host_has = v.host_has;
        box_released = v.box_released;
      }
