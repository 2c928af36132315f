-- The laws of track 1's layout.
use Prim.Native.Nat.{ℕ, suc, ◌+◌, ◌≤◌, ◌<◌}
use mathlib.Core.Path.{◌≡◌, sym, ap, ap₂, ◌∙◌, subst}
use mathlib.Core.Bool.{true, ◌&&◌}
use mathlib.Core.List.{List, ◌∷◌, ◌++◌}
use mathlib.Core.Logic.{◌↔◌}
use native.Mathlib.Omega.{arith}
use lib.Dec.{eqb}
use lib.ListN.{length, get_or, take, drop, take-append-drop, length-append, length-drop}
use lib.Seq.{drop-cons, drop-drop, length-take-le}
use borrow.Author.Tests.{eqb-true}
use denote.Ref.{Bor}
use Rattle.std.proofs.Common.{Result}
use Rattle.text.specs.Bytes.{within, is_digit, every, all_digits}
use Rattle.text.proofs.Tests.{inside_is, both_true}
use Rattle.text.proofs.Parts.{Same, part_one}
use Rattle.reasons.specs.Reasons.{number_in, gives, refuses, said}
use Rattle.reasons.specs.declared.Reason.{Reason}
use Rattle.reasons.proofs.Laws.{gives_refuses, said_one, passed, went_on}
use Rattle.pan.specs.Pan.{pan_length}
use Rattle.layout.specs.Layout.{is_named, is_expiry, is_service, lead, mark_at, expiry_rule, CutOf, field_cut}
use Rattle.layout.specs.declared.Fields.{Fields as Behind}
use Rattle.layout.specs.Grammar.{written}
use Rattle.layout.specs.declared.Track.TheVariants.{One}
use Rattle.layout.proofs.Forms.{present_byte, lead_pass, expiry_is, service_is}
use Rattle.layout.proofs.Laws.{Tail, tail_there, tail_text, tail_places, field_fits, written_size, placed-start, stops_six, then_six, expiry_six, refused_exactly}
use Rattle.layout1.specs.Layout1.{name_length, fields_rule, name_rule, layout1_rule, pan_cut, name_cut, expiry_cut, service_cut, rest_cut}
use Rattle.layout1.specs.Grammar1.{Pieces, text_of, Formed, expiry_at, places_of, pieces_at}
use Rattle.layout1.specs.declared.Fields.{Fields}
use Rattle.layout1.proofs.Forms.{form_accepted}

-- any two answers that the promise of divide allows are equal
pub divide_one : (s : List ℕ) (r q : Result Fields Reason) → said r ≡ layout1_rule s → said q ≡ layout1_rule s → r ≡ q
divide_one s r q a b = said_one r q (a ∙ sym b)

-- ---- what is accepted has the form

-- these places divide the text: what stands there is formed, makes up the text, and stands there
pub record Divides (s : List ℕ) (d : Fields) : Type 0 where
  pub formed : Formed (pieces_at s d)
  pub text : text_of (pieces_at s d) ≡ s
  pub places : places_of (pieces_at s d) ≡ d

module _ (s : List ℕ) (p n : ℕ) (x : Behind) (code : get_or s 0 0 ≡ 66) (long : pan_length p ≡ true) (digits : all_digits (take p (drop 1 s)) ≡ true)
    (mark : get_or s (p + 1) 0 ≡ 94) (some : within 2 26 n ≡ true) (named : every is_named (take n (drop (p + 2) s)) ≡ true) (end : get_or s (p + n + 2) 0 ≡ 94)
    (t : Tail One s p (p + n + 3) x) where
  abbrev found : Fields
  found = record { pan = p; name = n; expiry = x.expiry; service = x.service; rest = x.rest }

  mark_in : p + 1 < length s
  mark_in = present_byte s (p + 1) (omega arith)

  end_in : p + n + 2 < length s
  end_in = present_byte s (p + n + 2) (omega arith)

  pan_size : length (take p (drop 1 s)) ≡ p
  pan_size = length-take-le p (drop 1 s) (rw length-drop (omega (arith, mark_in)))

  name_size : length (take n (drop (p + 2) s)) ≡ n
  name_size = length-take-le n (drop (p + 2) s) (rw length-drop (omega (arith, end_in)))

  -- a `^`, and a piece, in front of the rest of the text
  marked : (q m : ℕ) (l : List ℕ) → q < length s → get_or s q 0 ≡ 94 → m ≡ suc q → l ≡ drop m s → 94 ∷ l ≡ drop q s
  marked q m l h e f k = ap₂ (λ (b : ℕ) (r : List ℕ). b ∷ r) (sym e) (k ∙ ap (λ (i : ℕ). drop i s) f) ∙ sym (drop-cons s q 0 h)

  joined : (q m k : ℕ) (l : List ℕ) → m ≡ q + k → l ≡ drop m s → take k (drop q s) ++ l ≡ drop q s
  joined q m k l e f =
      ap (λ (r : List ℕ). take k (drop q s) ++ r) (f ∙ ap (λ (i : ℕ). drop i s) e ∙ sym (drop-drop k q s)) ∙ take-append-drop k (drop q s)

  whole : text_of (pieces_at s found) ≡ s
  whole =
      let e = marked (p + n + 2) (p + n + 3) _ end_in end (omega arith) (tail_text One s p (p + n + 3) x t) in
      let m = marked (p + 1) (p + 2) _ mark_in mark (omega arith) (joined (p + 2) (p + n + 2) n _ (omega arith) e) in
      let b : 0 < length s = omega (arith, mark_in) in
      ap₂ (λ (c : ℕ) (l : List ℕ). c ∷ l) (sym code) (joined 1 (p + 1) p _ (omega arith) m) ∙ sym (drop-cons s 0 0 b)

  divides : Divides s found
  divides =
      let m = length (take p (drop 1 s)) + length (take n (drop (p + 2) s)) + 3 in
      let w = tail_places One s p (p + n + 3) x t m (ap₂ (λ (a b : ℕ). a + b + 3) pan_size name_size) in
      record {
        formed = record {
          pan_length_lem = ap pan_length pan_size ∙ long;
          pan_digits = digits;
          name_length_lem = ap (within 2 26) name_size ∙ some;
          name_right = named;
          expiry_right = t.expiry.right;
          service_right = t.service.right;
          rest_right = t.free;
        };
        text = whole;
        places = λ i. record { pan = pan_size i; name = name_size i; expiry = w.0 i; service = w.1 i; rest = w.2 i };
      }

pub accepted_form : (s : List ℕ) (d : Fields) → layout1_rule s ≡ gives d → Divides s d
unfolding layout1_rule name_rule fields_rule
accepted_form s d accepted =
    let p = lead (drop 1 s) in
    let n = name_length s p in
    let a = passed (eqb (get_or s 0 0) 66 && (pan_length p && mark_at One s (p + 1))) 6 _ d accepted in
    let c = both_true (eqb (get_or s 0 0) 66) _ a.0 in
    let m = both_true (pan_length p) (mark_at One s (p + 1)) c.1 in
    let b = passed (within 2 26 n && mark_at One s (p + n + 2)) 6 _ d a.1 in
    let e = both_true (within 2 26 n) (mark_at One s (p + n + 2)) b.0 in
    let f = went_on (expiry_rule One s p (p + n + 3)) _ d b.1 in
    let x = f.0 in
    let t = tail_there One s p (p + n + 3) x f.1 in
    let z : record { pan = x.pan; name = n; expiry = x.expiry; service = x.service; rest = x.rest } ≡ d = cc f.2 in
    let among : ℕ → Fields = λ q. record { pan = q; name = n; expiry = x.expiry; service = x.service; rest = x.rest } in
    subst (Divides s) (sym (ap among t.pan) ∙ z)
    (divides s p n x (eqb-true (get_or s 0 0) 66 c.0) m.0 (lead_pass is_digit (drop 1 s)) (eqb-true (get_or s (p + 1) 0) 94 m.1) e.0
    (lead_pass is_named (drop (p + 2) s)) (eqb-true (get_or s (p + n + 2) 0) 94 e.1) t)

-- so that the parts stand within it
module _ (s : List ℕ) (d : Fields) (accepted : layout1_rule s ≡ gives d) where
  size : length (text_of (pieces_at s d)) ≡ length s
  size = ap length (accepted_form s d accepted).text

  pub pan_fits : 1 + d.pan ≤ length s
  pan_fits = omega (arith, simp length-append at size, ap (λ (x : Fields). x.pan) (accepted_form s d accepted).places)

  pub name_fits : d.pan + 2 + d.name ≤ length s
  name_fits =
      let a = accepted_form s d accepted in
      omega (arith, simp length-append at size, ap (λ (x : Fields). x.pan) a.places, ap (λ (x : Fields). x.name) a.places)

  pub rest_fits : d.rest ≤ length s
  rest_fits = omega (arith, simp length-append at size, ap (λ (x : Fields). x.rest) (accepted_form s d accepted).places)

  pub expiry_fits : (field_cut 4 d.expiry).start + (field_cut 4 d.expiry).size ≤ length s
  expiry_fits = field_fits s 4 is_expiry expiry_is d.expiry (accepted_form s d accepted).formed.expiry_right

  pub service_fits : (field_cut 3 d.service).start + (field_cut 3 d.service).size ≤ length s
  service_fits = field_fits s 3 is_service service_is d.service (accepted_form s d accepted).formed.service_right

-- and near its front
pub places_small : (s : List ℕ) (d : Fields) → layout1_rule s ≡ gives d
    → (d.pan ≤ 19) × (d.name ≤ 26) × ((field_cut 4 d.expiry).start ≤ 48) × ((field_cut 3 d.service).start ≤ 52) × (d.rest ≤ 55)
places_small s d accepted =
    let a = accepted_form s d accepted in
    let g = pieces_at s d in
    let p : length g.pan ≤ 19 = (inside_is 13 19 _ a.formed.pan_length_lem).1 in
    let n : length g.name ≤ 26 = (inside_is 2 26 _ a.formed.name_length_lem).1 in
    let e = written_size One 4 is_expiry expiry_is g.expiry a.formed.expiry_right in
    let v = written_size One 3 is_service service_is g.service a.formed.service_right in
    subst
    (λ (x : Fields).
    (x.pan ≤ 19) × (x.name ≤ 26) × ((field_cut 4 x.expiry).start ≤ 48) × ((field_cut 3 x.service).start ≤ 52) × (x.rest ≤ 55))
    a.places (
      p,
      n,
      omega (arith, p, n, placed-start 4 (expiry_at g) g.expiry),
      omega (arith, p, n, e, placed-start 3 (expiry_at g + length (written One g.expiry)) g.service),
      omega (arith, p, n, e, v),
    )

-- ---- anything else is 6

module _ (s : List ℕ) (m : ℕ) where
  fields_six : (p n : ℕ) → fields_rule s p n ≡ refuses m → m ≡ 6
  unfolding fields_rule
  fields_six p n =
      then_six (expiry_rule One s p (p + n + 3)) _ m (expiry_six One s m p (p + n + 3)) (λ d. gives_refuses (told n d) m)
    where
      told : ℕ → Behind → Fields
      told n d = record { pan = d.pan; name = n; expiry = d.expiry; service = d.service; rest = d.rest }

  name_six : (p : ℕ) → name_rule s p ≡ refuses m → m ≡ 6
  unfolding name_rule
  name_six p = stops_six (within 2 26 (name_length s p) && mark_at One s (p + name_length s p + 2)) _ m (fields_six p (name_length s p))

  only_six : layout1_rule s ≡ refuses m → m ≡ 6
  unfolding layout1_rule
  only_six =
      let p = lead (drop 1 s) in
      stops_six (eqb (get_or s 0 0) 66 && (pan_length p && mark_at One s (p + 1))) (name_rule s p) m (name_six p)

-- a text is refused exactly where no pieces of the form make it up, and then with 6
pub six_exactly : (s : List ℕ) (n : ℕ) → (layout1_rule s ≡ refuses n) ↔ ((n ≡ 6) × ((g : Pieces) → Formed g × (text_of g ≡ s) → ⊥))
six_exactly s =
    refused_exactly (λ (g : Pieces). Formed g × (text_of g ≡ s)) (layout1_rule s) (only_six s)
    (λ g h. (places_of g, sym (ap layout1_rule h.1) ∙ form_accepted g h.0))
    (λ d e. let w = accepted_form s d e in (pieces_at s d, (w.formed, w.text)))

-- any two answers that the promise of a part, or of the number, allows are equal: its place and its bytes
module _ (s r q : Bor (List ℕ)) where
  pub pan_one : CutOf s (pan_cut (layout1_rule s.now)) r → CutOf s (pan_cut (layout1_rule s.now)) q → Same r q
  pan_one = part_one s r q _ _

  pub name_one : CutOf s (name_cut (layout1_rule s.now)) r → CutOf s (name_cut (layout1_rule s.now)) q → Same r q
  name_one = part_one s r q _ _

  pub expiry_one : CutOf s (expiry_cut (layout1_rule s.now)) r → CutOf s (expiry_cut (layout1_rule s.now)) q → Same r q
  expiry_one = part_one s r q _ _

  pub service_one : CutOf s (service_cut (layout1_rule s.now)) r → CutOf s (service_cut (layout1_rule s.now)) q → Same r q
  service_one = part_one s r q _ _

  pub discretionary_one : CutOf s (rest_cut (length s.now) (layout1_rule s.now)) r → CutOf s (rest_cut (length s.now) (layout1_rule s.now)) q → Same r q
  discretionary_one = part_one s r q _ _

pub number_one : (s : List ℕ) (n m : ℕ) → n ≡ number_in (layout1_rule s) → m ≡ number_in (layout1_rule s) → n ≡ m
number_one s n m f g = f ∙ sym g
