-- What the stripe says of a card, step by step: the reading, the layout, Luhn, the look-up, the expiry and the hot list.
use Prim.Native.Nat.{ℕ, zero, suc, ◌+◌, ◌-◌, ◌≤◌}
use mathlib.Core.Path.{◌≡◌, refl, sym, ap, ◌∙◌, subst}
use mathlib.Core.Bool.{Bool, true, false, not}
use mathlib.Core.List.{List, [], ◌∷◌, ◌++◌}
use native.Mathlib.Omega.{arith}
use native.Mathlib.Nat.{add-sub_cancel_left}
use borrow.Author.Tests.{le-leb}
use lib.ListN.{length, take, drop}
use lib.Seq.{take-take, length-take-le, drop-append-add, drop-drop}
use Rattle.std.proofs.Common.{Option, Result, Ok, Err}
use Rattle.text.specs.Bytes.{all_digits}
use Rattle.text.specs.Numbers.{put}
use Rattle.text.proofs.Tests.{inside, inside_is}
use Rattle.text.proofs.Put.{put_front, length_put}
use Rattle.reasons.specs.Reasons.{Outcome, gives, refuses, demand}
use Rattle.reasons.specs.declared.Reason.{Reason}
use Rattle.reasons.proofs.Laws.{passed, went_on, gives_refuses}
use Rattle.luhn.specs.Luhn.{passes, luhn_rule}
use Rattle.pan.specs.Pan.{pan_length}
use Rattle.ranges.specs.Ranges.{label_rule}
use Rattle.hotlist.specs.Hotlist.{listed}
use Rattle.chars.specs.Reading.{Format}
use Rattle.bits.specs.Reading.{Track as Read, read_rule, read_bytes, said, counted}
use Rattle.bits.specs.declared.Read.{Read as Way}
use Rattle.bits.specs.declared.Read.TheVariants.{Forward, Reversed}
use Rattle.bits.proofs.Laws.{chars_fit}
use Rattle.bits.proofs.Counts as counts
use Rattle.layout.specs.Layout.{layout_rule}
use Rattle.layout.specs.Grammar.{field_in}
use Rattle.layout.specs.declared.Track.{Track}
use Rattle.layout.specs.declared.Track.TheVariants.{Two, One}
use Rattle.layout.proofs.Laws as layout
use Rattle.layout1.specs.Layout1.{layout1_rule}
use Rattle.layout1.proofs.Laws as layout1
use Rattle.dates.specs.Dates.{left_rule}
use Rattle.dates.specs.declared.Date.{Date}
use Rattle.payer.specs.Payer.{format, count_of, spot, division_rule, room, Terms, Given, Payer, payer_rule, part_of, chars_rule, card_rule}
use Rattle.payer.specs.Payer.{said_card, pan_end, Divided}
use Rattle.payer.specs.declared.Spot.{Spot}
use Rattle.payer.specs.declared.Paying.{Paying}

-- a part that ends within the front of a text
part_front : (a n m : ℕ) (s : List ℕ) → a + n ≤ m → part_of (take m s) a n ≡ part_of s a n
part_front zero n m s h = take-take n m s (omega arith)
part_front (suc a) n zero s h = absurd (omega arith)
part_front (suc a) n (suc m) [] h = refl
part_front (suc a) n (suc m) (b ∷ s) h = part_front a n m s (omega arith)

-- a part from a place up to its end
pub part_is : (s : List ℕ) (a n : ℕ) → take (a + n - a) (drop a s) ≡ part_of s a n
part_is s a n = rw add-sub_cancel_left

-- a card's PAN stands in the front of the scratch, so what follows it does not matter
pub card_front : (r : Result Paying Reason) (m : ℕ) (s : List ℕ) → pan_end r ≤ m → said_card r (take m s) ≡ said_card r s
card_front (Ok c) m s h = ap (λ (p : List ℕ). gives (record { pan = p; label = c.label; left = c.left })) (part_front c.at c.digits m s h)
card_front (Err r) m s h = refl

-- ---- of a PAN and its expiry

-- where the last test of a chain refuses, a longer chain refuses there as well
stopped_alike : (b : Bool) (m n : ℕ) (o : Outcome Payer) → ◌≡◌ {A = Outcome (Unit {0})} (demand b m (gives tt)) (refuses n) → demand b m o ≡ refuses n
stopped_alike true m n o e = gives_refuses tt n e
stopped_alike false m n o e = cc

module _ (t : Terms) (a : Date) (pan : List ℕ) (expiry : Option (List ℕ)) (l : pan_length (length pan) ≡ true) (d : all_digits pan ≡ true) where
  -- of a card number Luhn asks only whether it passes
  luhn_of_pan : luhn_rule pan ≡ demand (passes pan) 4 (gives tt)
  unfolding luhn_rule
  luhn_of_pan = let w = inside_is 13 19 (length pan) l in simp (inside 2 40 (length pan) (omega arith) (omega arith), d)

  pub luhn_refused : (n : ℕ) → luhn_rule pan ≡ refuses n → payer_rule t a pan expiry ≡ refuses n
  unfolding payer_rule
  luhn_refused n e = stopped_alike (passes pan) 4 n _ (sym luhn_of_pan ∙ e)

  luhn_passed : luhn_rule pan ≡ gives tt → passes pan ≡ true
  luhn_passed e = (passed (passes pan) 4 (gives tt) tt (sym luhn_of_pan ∙ e)).0

  pub no_label : (n : ℕ) → luhn_rule pan ≡ gives tt → label_rule t.site t.acquirer pan ≡ refuses n → payer_rule t a pan expiry ≡ refuses n
  unfolding payer_rule
  no_label n e f = simp (luhn_passed e, f)

  module _ (x : ℕ) (e : luhn_rule pan ≡ gives tt) (f : label_rule t.site t.acquirer pan ≡ gives x) where
    pub expired : (n : ℕ) → left_rule a expiry ≡ refuses n → payer_rule t a pan expiry ≡ refuses n
    unfolding payer_rule
    expired n g = simp (luhn_passed e, f, g)

    module _ (y : Option ℕ) (g : left_rule a expiry ≡ gives y) where
      pub is_listed : listed t.hot t.digits pan ≡ true → payer_rule t a pan expiry ≡ refuses 22
      unfolding payer_rule
      is_listed h = simp (luhn_passed e, f, g, h)

      pub pays : listed t.hot t.digits pan ≡ false → payer_rule t a pan expiry ≡ gives (record { pan = pan; label = x; left = y })
      unfolding payer_rule
      pays h = simp (luhn_passed e, f, g, h)

-- a PAN that pays passes, is the PAN that was asked about, and has left what its expiry says on the date
pan_pays : (t : Terms) (a : Date) (pan : List ℕ) (x : Option (List ℕ)) (p : Payer) → payer_rule t a pan x ≡ gives p
    → (passes pan ≡ true) × (p.pan ≡ pan) × (left_rule a x ≡ gives p.left)
unfolding payer_rule
pan_pays t a pan x p e =
    let l = passed (passes pan) 4 _ p e in
    let b = went_on (label_rule t.site t.acquirer pan) _ p l.1 in
    let d = went_on (left_rule a x) _ p b.2 in
    let h = passed (not (listed t.hot t.digits pan)) 22 _ p d.2 in
    let c : record { pan = pan; label = b.0; left = d.0 } ≡ p = cc h.1 in
    (l.0, sym (ap (λ (q : Payer). q.pan) c), d.1 ∙ ap (λ (q : Payer). gives q.left) c)

-- a card number that passes, as the journal asks of one that it books (`Fine` there)
pub record Passing (pan : List ℕ) : Type 0 where
  pub count : pan_length (length pan) ≡ true
  pub digits : all_digits pan ≡ true
  pub sum : passes pan ≡ true

-- ---- of the characters

-- where a division puts PAN and expiry there are such
pub divided : (k : Track) (chars : List ℕ) (c : Spot) → division_rule k chars ≡ gives c → Divided chars c
divided Two chars c e =
    let a = went_on (layout_rule chars) _ c e in
    let f = (layout.accepted_form chars a.0 a.1).formed in
    let z : spot 0 a.0.pan a.0.expiry ≡ c = cc a.2 in
    let fits = layout.pan_fits chars a.0 a.1 in
    subst (Divided chars) z
    (record { fits = omega (arith, fits); count = f.pan_length_lem; digits = f.pan_digits; expiry_right = f.expiry_right })
divided One chars c e =
    let a = went_on (layout1_rule chars) _ c e in
    let f = (layout1.accepted_form chars a.0 a.1).formed in
    let z : spot 1 a.0.pan a.0.expiry ≡ c = cc a.2 in
    let fits = layout1.pan_fits chars a.0 a.1 in
    subst (Divided chars) z
    (record { fits = fits; count = f.pan_length_lem; digits = f.pan_digits; expiry_right = f.expiry_right })

module _ (k : Track) (t : Terms) (a : Date) (chars : List ℕ) where
  pub well_divided : (c : Spot) → division_rule k chars ≡ gives c → chars_rule k t a chars ≡ payer_rule t a (part_of chars c.at c.digits) (field_in 4 chars c.expiry)
  unfolding chars_rule
  well_divided c e = rw e

  chars_pay : (p : Payer) → chars_rule k t a chars ≡ gives p → Passing p.pan
  unfolding chars_rule
  chars_pay p e =
      let c = went_on (division_rule k chars) _ p e in
      let l = divided k chars c.0 c.1 in
      let b = pan_pays t a (part_of chars c.0.at c.0.digits) (field_in 4 chars c.0.expiry) p c.2 in
      subst Passing (sym b.1) (record { count = l.count; digits = l.digits; sum = b.0 })

-- ---- of the stripe

-- an output that is longer than the reading asks for is as good as one that is just as long
room_enough : (f : Format) (s : List ℕ) (bits n : ℕ) → f.limit - 2 ≤ n → read_rule f s bits n ≡ read_rule f s bits (f.limit - 2)
unfolding read_rule
room_enough f s bits n h = simp (le-leb (f.limit - 2) n h, le-leb (f.limit - 2) (f.limit - 2) (omega arith))

-- what is written over the front leaves the rest
rest_stays : (out vs : List ℕ) (m : ℕ) → length vs ≤ m → drop m (put out 0 vs) ≡ drop m out
unfolding put
rest_stays out vs m h =
    let k = m - length vs in
    let e : m ≡ length vs + k = omega arith in
    let f : 0 + length vs + k ≡ m = omega arith in
    ap (λ (x : ℕ). drop x (vs ++ drop (0 + length vs) out)) e
    ∙ drop-append-add vs (drop (0 + length vs) out) k
    ∙ drop-drop k (0 + length vs) out
    ∙ ap (λ (x : ℕ). drop x out) f

-- n characters were read into the scratch, `out` before and `new` after it
pub record ReadSo (g : Given) (out new : List ℕ) (n : ℕ) : Type 0 where
  pub fits : n ≤ length new
  pub goes : chars_rule g.track g.terms g.date (take n new) ≡ card_rule g
  pub rest : drop (room g.track) new ≡ drop (room g.track) out

pub read_card : (g : Given) (out new : List ℕ) (n : ℕ) (r : Result Paying Reason) → ReadSo g out new n
    → said_card r (take n new) ≡ chars_rule g.track g.terms g.date (take n new) → pan_end r ≤ length (take n new)
    → (said_card r new ≡ card_rule g) × (pan_end r ≤ length new) × (drop (room g.track) new ≡ drop (room g.track) out)
read_card g out new n r s e h =
    let k = length-take-le n new s.fits in
    (sym (card_front r n new (omega arith)) ∙ e ∙ s.goes, omega (arith, s.fits), s.rest)

module _ (g : Given) (out new : List ℕ) (long : room g.track ≤ length out) (wrote : new ≡ read_bytes (format g.track) g.stream g.bits out) where
  pub unread : (n : ℕ) → refuses n ≡ counted (read_rule (format g.track) g.stream g.bits (length out))
      → (refuses n ≡ card_rule g) × (drop (room g.track) new ≡ drop (room g.track) out)
  unfolding card_rule
  unread n e =
      let o = sym (counts.refused (read_rule (format g.track) g.stream g.bits (length out)) n e) in
      let f = sym (room_enough (format g.track) g.stream g.bits (length out) long) ∙ o in
      let same : new ≡ out = wrote ∙ rw o in
      (rw f, ap (drop (room g.track)) same)

  track_so : (t : Read) (n : ℕ) → read_rule (format g.track) g.stream g.bits (length out) ≡ gives t → n ≡ length t.chars → ReadSo g out new n
  unfolding card_rule
  track_so t n e c =
      let few = chars_fit (format g.track) g.stream g.bits (length out) t e in
      let now : new ≡ put out 0 t.chars = wrote ∙ rw e in
      let f = sym (room_enough (format g.track) g.stream g.bits (length out) long) ∙ e in
      let size : length new ≡ length out = ap length now ∙ length_put out t.chars 0 (omega arith) in
      let front : take n new ≡ t.chars = ap (take n) now ∙ ap (λ (m : ℕ). take m (put out 0 t.chars)) c ∙ put_front out t.chars in
      record {
        fits = omega arith;
        goes = ap (chars_rule g.track g.terms g.date) front ∙ rw f;
        rest = ap (drop (room g.track)) now ∙ rest_stays out t.chars (room g.track) few;
      }

  read_so : (w : Bool) (n : ℕ) → gives (w, n) ≡ counted (read_rule (format g.track) g.stream g.bits (length out)) → ReadSo g out new n
  read_so w n e =
      let b = counts.behind (read_rule (format g.track) g.stream g.bits (length out)) w n e in
      track_so b.track n (sym b.is) b.count

  pub read_way : (r : Way) → said (Ok r) ≡ counted (read_rule (format g.track) g.stream g.bits (length out)) → ReadSo g out new (count_of r)
  read_way (Forward n) e = read_so false n e
  read_way (Reversed n) e = read_so true n e

-- the number of a card that pays passes
pub card_pays : (g : Given) (p : Payer) → card_rule g ≡ gives p → Passing p.pan
unfolding card_rule
card_pays g p e =
    let a = went_on (read_rule (format g.track) g.stream g.bits (room g.track)) _ p e in
    chars_pay g.track g.terms g.date a.0.chars p a.2

-- what is left to it: what the expiry that the stripe has, in the characters read from it and where their division puts it, says on the date
pub record LeftOf (g : Given) (d : Option ℕ) : Type 0 where
  pub read : Read
  pub was_read : read_rule (format g.track) g.stream g.bits (room g.track) ≡ gives read
  pub stands : Spot
  pub was_divided : division_rule g.track read.chars ≡ gives stands
  pub says : left_rule g.date (field_in 4 read.chars stands.expiry) ≡ gives d

pub card_left : (g : Given) (p : Payer) → card_rule g ≡ gives p → LeftOf g p.left
unfolding card_rule chars_rule
card_left g p e =
    let r = went_on (read_rule (format g.track) g.stream g.bits (room g.track)) _ p e in
    let c = went_on (division_rule g.track r.0.chars) _ p r.2 in
    record { read = r.0; was_read = r.1; stands = c.0; was_divided = c.1; says = (pan_pays g.terms g.date _ _ p c.2).2 }
