-- The account of calls made on a journal: what was held and then what they booked is what they released and then what is held.
use Rattle.std.proofs.Common.{Some, Result, Ok, Err}
use Prim.Native.Nat.{ℕ, zero, suc, max, ◌≤◌, ◌<◌, ◌+◌, ◌-◌}
use mathlib.Core.Path.{◌≡◌, refl, sym, ap, ◌∙◌, subst, subst⁻¹}
use mathlib.Core.List.{List, [], ◌∷◌, ◌++◌, map, append_assoc, append-nil}
use native.Mathlib.Omega.{arith}
use lib.ListN.{length, length-append}
use Rattle.slots.specs.Journal.{Formed, NewestIs, slots_of}
use Rattle.slots.proofs.Views.{known}
use Rattle.held.specs.Held.{held_after, held_up_to, held_list, sum_of}
use Rattle.journal.specs.Rules.{Books, Releases}
use Rattle.journal.specs.declared.Released.{Released}
use Rattle.held.proofs.Lists.{held_at_most, held_count, sum-append}
use Rattle.journal.proofs.Calls.{Booked_so, book_changes, book_refused, Released_so, release_changes, release_refused}
use Rattle.reasons.specs.Reasons.{Outcome, gives}
use Rattle.payer.specs.Payer.{Given, Payer, card_rule}
use Rattle.reasons.specs.declared.Reason.{Reason}
use Rattle.swipe.specs.declared.Receipt.{Receipt}
use Rattle.swipe.proofs.Laws.{ComesTo, refusal, one_booking, as_booked, swipe_comes_to}
use Rattle.history.specs.History.{Payment, record_of, Effect, nothing, booked_in, serial_in, count_in, sum_in, of_booking, of_release, up_from, Call, book, swipe, of_swipe, release, reads, aside, AnswerTo, Does, Done, Run, no_more, next, effect, booked, highest, freed_count, freed_sum}

-- ---- lists

pub map-append : {A B : Type 0} (f : A → B) (a b : List A) → map f (a ++ b) ≡ map f a ++ map f b
map-append f [] b = refl
map-append f (x ∷ a) b = ap (λ l. f x ∷ l) (map-append f a b)

up_append : (low m p : ℕ) → up_from low (m + p) ≡ up_from low m ++ up_from (low + m) p
unfolding up_from
up_append low zero p =
    let z : 0 + p ≡ p = omega arith in
    let e : low ≡ low + 0 = omega arith in
    λ i. up_from (e i) (z i)
up_append low (suc m) p =
    let e : suc m + p ≡ suc (m + p) = omega arith in
    let w : low + 1 + m ≡ low + suc m = omega arith in
    ap (up_from low) e ∙ ap (λ (l : List ℕ). (low + 1) ∷ l) (up_append (low + 1) m p ∙ ap (λ (x : ℕ). up_from (low + 1) m ++ up_from x p) w)

-- the amounts of payments are 32-bit numbers
abbrev pub Smalls : List Payment → Type 0
Smalls [] = Unit {0}
Smalls (p ∷ ps) = (p.amount < 4294967296) × Smalls ps

smalls_append : (ps qs : List Payment) → Smalls ps → Smalls qs → Smalls (ps ++ qs)
smalls_append [] qs a b = b
smalls_append (p ∷ ps) qs a b = (a.0, smalls_append ps qs a.1 b)

-- ---- the account

-- calls on the journal j with newest serial b, all up to serial top released, which booked ps, released up to `to`, answered that these were
-- so many of such a sum, and left k
pub record Account (j : List ℕ) (b top : ℕ) (ps : List Payment) (to count sum : ℕ) (k : List ℕ) : Type 0 where
  pub newest : NewestIs k (Some (b + length ps))
  pub fits : b + length ps < 4294967296
  pub small : Smalls ps
  pub serials : map (λ (p : Payment). p.serial) ps ≡ up_from b (length ps)
  -- the records that were released
  pub gone : List (List ℕ)
  pub counted : count ≡ length gone
  pub summed : sum ≡ sum_of gone
  pub whole : gone ++ held_list k (b + length ps) ≡ held_list j b ++ map record_of ps
  pub above : length (held_list k (b + length ps)) + max top to ≡ b + length ps

-- a journal that an account may start from
pub record Open (j : List ℕ) (b top : ℕ) : Type 0 where
  pub formed : Formed j (slots_of j) b
  pub fits : b < 4294967296
  pub above : length (held_list j b) + top ≡ b

pub closes : {j k : List ℕ} {b top : ℕ} {ps : List Payment} {to count sum : ℕ} → Account j b top ps to count sum k → Open k (b + length ps) (max top to)
closes a = record { formed = a.newest; fits = a.fits; above = a.above }

-- one after another
join : {j k l : List ℕ} {b top : ℕ} {ps qs : List Payment} {to on count more sum rest : ℕ} → Account j b top ps to count sum k
    → Account k (b + length ps) (max top to) qs on more rest l → Account j b top (ps ++ qs) (max to on) (count + more) (sum + rest) l
join {j} {k} {l} {b} {top} {ps} {qs} {to} {on} {count} {more} {sum} {rest} x y =
    let n : b + length ps + length qs ≡ b + length (ps ++ qs) = omega (arith, length-append ps qs) in
    let m : max (max top to) on ≡ max top (max to on) = omega arith in
    let g : List (List ℕ) = x.gone in
    let h : List (List ℕ) = y.gone in
    record {
      newest = subst (λ (c : ℕ). NewestIs l (Some c)) n y.newest;
      fits = subst (λ (c : ℕ). c < 4294967296) n y.fits;
      small = smalls_append ps qs x.small y.small;
      serials = map-append (λ (p : Payment). p.serial) ps qs ∙ (λ i. x.serials i ++ y.serials i)
          ∙ sym (up_append b (length ps) (length qs)) ∙ ap (up_from b) (sym (length-append ps qs));
      gone = g ++ h;
      counted = (λ i. x.counted i + y.counted i) ∙ sym (length-append g h);
      summed = (λ i. x.summed i + y.summed i) ∙ sym (sum-append g h);
      whole = ap (λ (c : ℕ). g ++ h ++ held_list l c) (sym n) ∙ append_assoc g h (held_list l (b + length ps + length qs))
          ∙ ap (λ (r : List (List ℕ)). g ++ r) y.whole ∙ sym (append_assoc g (held_list k (b + length ps)) (map record_of qs))
          ∙ ap (λ (r : List (List ℕ)). r ++ map record_of qs) x.whole ∙ append_assoc (held_list j b) (map record_of ps) (map record_of qs)
          ∙ ap (λ (r : List (List ℕ)). held_list j b ++ r) (sym (map-append record_of ps qs));
      above = ap (λ (c : ℕ). length (held_list l c) + max top (max to on)) (sym n) ∙ ap (λ (t : ℕ). length (held_list l (b + length ps + length qs)) + t) (sym m) ∙ y.above ∙ n;
    }

-- ---- call by call

abbrev pub Step : List ℕ → ℕ → ℕ → Effect → List ℕ → Type 0
Step j b top e k = Account j b top (booked_in e) (serial_in e) (count_in e) (sum_in e) k

-- a refused call, and a reading one
quiet : (j : List ℕ) (b top : ℕ) (k : List ℕ) → Open j b top → k ≡ j → Step j b top nothing k
unfolding up_from sum_of
quiet j b top k o e =
    let n : b ≡ b + 0 = omega arith in
    let m : max top 0 ≡ top = omega arith in
    subst⁻¹ (λ (l : List ℕ). Step j b top nothing l) e
    (record {
      newest = subst (λ (c : ℕ). NewestIs j (Some c)) n o.formed;
      fits = subst (λ (c : ℕ). c < 4294967296) n o.fits;
      small = tt;
      serials = refl;
      gone = [];
      counted = refl;
      summed = refl;
      whole = ap (held_list j) (sym n) ∙ sym (append-nil (held_list j b));
      above = ap (λ (c : ℕ). length (held_list j c) + max top 0) (sym n) ∙ ap (λ (t : ℕ). length (held_list j b) + t) m ∙ o.above ∙ n;
    })

-- a booking
book_step : (j : List ℕ) (b top : ℕ) (pan : List ℕ) (label amount clock : ℕ) (r : Result ℕ Reason) (k : List ℕ) → Open j b top → amount < 4294967296
    → Books j pan label amount clock r k → Step j b top (of_booking r clock amount label pan) k
unfolding up_from sum_of
book_step j b top pan label amount clock (Err x) k o small w = quiet j b top k o (book_refused j pan label amount clock x k w)
book_step j b top pan label amount clock (Ok s) k o small w =
    let v = known j b o.formed w in
    let d : Booked_so j pan label amount clock b s k = book_changes j pan label amount clock b s k o.formed o.fits small v.0 v.1 in
    let n : s ≡ b + 1 = d.serial in
    let l : length (held_list k (b + 1)) ≡ length (held_list j b) + 1 = ap (λ (c : ℕ). length (held_list k c)) (sym n) ∙ ap length d.held ∙ length-append (held_list j b) _ in
    record {
      newest = subst (λ (c : ℕ). NewestIs k (Some c)) n d.newest;
      fits = subst (λ (c : ℕ). c < 4294967296) n d.fits;
      small = (small, tt);
      serials = ap (λ (c : ℕ). c ∷ []) n;
      gone = [];
      counted = refl;
      summed = refl;
      whole = ap (held_list k) (sym n) ∙ d.held;
      above = let a = o.above in omega arith;
    }

swipe_step : (j : List ℕ) (b top : ℕ) (g : Given) (amount clock : ℕ) (r : Result Receipt Reason) (k : List ℕ) → Open j b top → amount < 4294967296
    → ComesTo g amount clock j r k → Step j b top (of_swipe r (card_rule g) clock amount) k
swipe_step j b top g amount clock r k o small (refusal x e q) =
    subst⁻¹ (λ (a : Result Receipt Reason). Step j b top (of_swipe a (card_rule g) clock amount) k) e (quiet j b top k o q)
swipe_step j b top g amount clock r k o small (one_booking p e w) =
    subst⁻¹ (λ (c : Outcome Payer). Step j b top (of_swipe r c clock amount) k) e (pays r (book_step j b top p.pan p.label amount clock (as_booked r) k o small w))
  where
    pays : (r : Result Receipt Reason) → Step j b top (of_booking (as_booked r) clock amount p.label p.pan) k → Step j b top (of_swipe r (gives p) clock amount) k
    pays (Ok b) w = w
    pays (Err x) w = w

-- a release up to s frees those above the highest released before
pub up_count : (j : List ℕ) (b s top : ℕ) → Formed j (slots_of j) b → s ≤ b → length (held_list j b) + top ≡ b → length (held_up_to j b s) ≡ s - top
up_count j b s top f h e =
    let n : ℕ = slots_of j in
    let m : ℕ = s - (b - n) in
    let p : ℕ = b - (b - n) - m in
    let sp : b - (b - n) ≡ m + p = omega arith in
    let most : length (held_after j n (b - n) (b - (b - n))) ≤ b - (b - n) = held_at_most j n (b - n) (b - (b - n)) in
    let q : length (held_after j n (b - n) m) ≡ b - n + m - top =
    held_count j n b m p top f (omega arith) (subst (λ (x : ℕ). length (held_after j n (b - n) x) + top ≡ b) sp e) in
    omega arith

release_step : (j : List ℕ) (b top s : ℕ) (r : Result Released Reason) (k : List ℕ) → Open j b top → Releases j s r k → Step j b top (of_release r s) k
unfolding up_from
release_step j b top s (Err x) k o w = quiet j b top k o (release_refused j s x k w)
release_step j b top s (Ok q) k o w =
    let v = known j b o.formed w in
    let d : Released_so j b s q.count q.sum k = release_changes j b s q.count q.sum k o.formed v.0 v.1 in
    let n : b ≡ b + 0 = omega arith in
    let up : List (List ℕ) = held_up_to j b s in
    let lu : length up ≡ s - top = up_count j b s top o.formed d.there o.above in
    let ll : length up + length (held_list k b) ≡ length (held_list j b) = sym (length-append up (held_list k b)) ∙ ap length d.held in
    let lk : length (held_list k b) + max top s ≡ b = let a = o.above in let t = d.there in omega arith in
    record {
      newest = subst (λ (c : ℕ). NewestIs k (Some c)) n d.newest;
      fits = subst (λ (c : ℕ). c < 4294967296) n o.fits;
      small = tt;
      serials = refl;
      gone = up;
      counted = d.count;
      summed = d.sum;
      whole = ap (λ (c : ℕ). up ++ held_list k c) (sym n) ∙ d.held ∙ sym (append-nil (held_list j b));
      above = ap (λ (c : ℕ). length (held_list k c) + max top s) (sym n) ∙ lk ∙ n;
    }

pub step : (j : List ℕ) (b top clock : ℕ) (c : Call) (a : AnswerTo c) (k : List ℕ) → Open j b top → Does j clock c a k → Step j b top (effect clock c a) k
step j b top clock (book pan label amount) r k o w = book_step j b top pan label amount clock r k o w.0 w.1
step j b top clock (swipe card amount scratch) r k o w = swipe_step j b top card amount clock r.says k o w.0 (swipe_comes_to card amount clock scratch j r.says r.scratch k w.1)
step j b top clock (release s) r k o w = release_step j b top s r k o w
step j b top clock (reads q) r k o w = quiet j b top k o w.1
step j b top clock aside r k o w = quiet j b top k o w

-- any sequence of calls
pub account : {j k : List ℕ} {ds : List Done} (b top : ℕ) → Open j b top → Run j ds k → Account j b top (booked ds) (highest ds) (freed_count ds) (freed_sum ds) k
unfolding booked highest freed_count freed_sum
account {j} b top o no_more = quiet j b top j o refl
account {j} b top o (next d w more) = let s = step j b top d.clock d.call d.answer d.after o w in join s (account _ _ (closes s) more)
