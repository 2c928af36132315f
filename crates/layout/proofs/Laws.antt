-- The laws of the layout: what is accepted has the form, what has the form is accepted, and its division is the only one.
use Prim.Native.Nat.{ℕ, ◌+◌, ◌≤◌, ◌<◌}
use mathlib.Core.Path.{◌≡◌, refl, sym, ap, ap₂, ◌∙◌, subst}
use mathlib.Core.Bool.{Bool, true, false, ◌&&◌, cond}
use mathlib.Core.Logic.{◌↔◌, ⊎_elim}
use mathlib.Core.List.{List, ◌∷◌, ◌++◌}
use native.Mathlib.Omega.{arith}
use native.Mathlib.Numerals.{add-one}
use lib.ListN.{length, get_or, take, drop, take-append-drop, length-append, length-take, length-drop}
use lib.Seq.{drop-cons, drop-drop, take_at, drop-append-add, take-append_seam, drop-append_seam, length-take-le}
use borrow.Author.Tests.{eqb-true, eq-eqb}
use denote.Ref.{Bor}
use Rattle.std.proofs.Common.{Option, None, Some, Result}
use Rattle.text.specs.Bytes.{is_digit, every, all_digits}
use Rattle.text.proofs.Tests.{inside_is, both_true}
use Rattle.text.proofs.Parts.{Same, part_one}
use Rattle.reasons.specs.Reasons.{Outcome, number_in, gives, refuses, demand, and_then, said}
use Rattle.reasons.specs.declared.Reason.{Reason}
use Rattle.reasons.proofs.Laws.{gives_refuses, said_one, passed, stopped, went_on, went_wrong}
use Rattle.pan.specs.Pan.{pan_length}
use Rattle.layout.specs.Layout.{allowed, is_expiry, is_service, lead, mark_at, field_rule, past, rest_rule, service_rule, expiry_rule, layout_rule, CutOf, field_cut, pan_cut, expiry_cut, service_cut, rest_cut}
use Rattle.layout.specs.Grammar.{written, Passes, Pieces, text_of, Formed, placed, places_of, field_in, pieces_at}
use Rattle.layout.specs.declared.Fields.{Fields}
use Rattle.layout.specs.declared.Track.{Track}
use Rattle.layout.specs.declared.Track.TheVariants.{Two}
use Rattle.layout.proofs.Forms.{present_byte, front_byte, lead_is, lead_pass, Digits, expiry_is, service_is, field_found, past_written, Written, field_written}

-- pieces with the same parts are the same
same_pieces : {a a' r r' : List ℕ} {e e' v v' : Option (List ℕ)} → a ≡ a' → e ≡ e' → v ≡ v' → r ≡ r'
    → ◌≡◌ {A = Pieces} (record { pan = a; expiry = e; service = v; discretionary = r }) (record { pan = a'; expiry = e'; service = v'; discretionary = r' })
same_pieces h i j k = λ x. record { pan = h x; expiry = i x; service = j x; discretionary = k x }

-- ---- the fields from the expiry's place q on, of either track

-- a written field is read off again
pub field_again : (k : Track) (n : ℕ) (test : List ℕ → Bool) → Digits n test → (s : List ℕ) (q : ℕ) (o : Option (List ℕ)) (y : List ℕ)
    → drop q s ≡ written k o ++ y → Passes test o → field_in n s (placed q o) ≡ o
field_again k n test d s q None y h t = refl
field_again k n test d s q (Some o) y h t = ap Some (ap (take n) h ∙ take_at o y n (d.size o t))

module _ (k : Track) (s : List ℕ) (p q : ℕ) (e v : Option (List ℕ)) (r : List ℕ) (text : drop q s ≡ written k e ++ (written k v ++ r)) where
  pub behind_expiry : drop (q + length (written k e)) s ≡ written k v ++ r
  behind_expiry = sym (drop-drop (length (written k e)) q s) ∙ ap (drop (length (written k e))) text ∙ drop-append_seam (written k e) (written k v ++ r)

  pub behind_service : drop (q + length (written k e) + length (written k v)) s ≡ r
  behind_service =
      sym (drop-drop (length (written k v)) (q + length (written k e)) s) ∙ ap (drop (length (written k v))) behind_expiry ∙ drop-append_seam (written k v) r

  -- what is written there is accepted
  pub tail_accepted : Passes is_expiry e → Passes is_service v → every (allowed k) r ≡ true
      → expiry_rule k s p q
      ≡ gives (record { pan = p; expiry = placed q e; service = placed (q + length (written k e)) v; rest = q + length (written k e) + length (written k v) })
  unfolding expiry_rule service_rule rest_rule
  tail_accepted he hv hr =
      let fe = field_found k 4 is_expiry expiry_is s q e _ text he in
      let pe = past_written k 4 is_expiry expiry_is s q e he in
      let fv = field_found k 3 is_service service_is s (q + length (written k e)) v _ behind_expiry hv in
      let pv = past_written k 3 is_service service_is s (q + length (written k e)) v hv in
      rw (fe, pe, fv, pv, behind_service, hr)

-- the text of pieces, from each place on
module _ (g : Pieces) where
  from_expiry : drop (length g.pan + 1) (text_of g) ≡ written Two g.expiry ++ (written Two g.service ++ g.discretionary)
  from_expiry = drop-append-add g.pan (61 ∷ (written Two g.expiry ++ (written Two g.service ++ g.discretionary))) 1

  at_equals : get_or (text_of g) (length g.pan) 0 ≡ 61
  at_equals = front_byte (text_of g) (length g.pan) (61 ∷ (written Two g.expiry ++ (written Two g.service ++ g.discretionary)))
      (drop-append_seam g.pan (61 ∷ (written Two g.expiry ++ (written Two g.service ++ g.discretionary))))

  -- "A text is accepted exactly when it has this form": what has it is accepted, and divided into its pieces
  pub form_accepted : Formed g → layout_rule (text_of g) ≡ gives (places_of g)
  unfolding layout_rule is_digit
  form_accepted ok =
      let p : lead (text_of g) ≡ length g.pan = lead_is is_digit g.pan 61 _ ok.pan_digits refl in
      rw (p, ok.pan_length_lem, eq-eqb (get_or (text_of g) (length g.pan) 0) 61 at_equals)
      (tail_accepted Two (text_of g) (length g.pan) (length g.pan + 1) g.expiry g.service g.discretionary from_expiry
      ok.expiry_right ok.service_right ok.rest_digits)

  -- its pieces are read off again
  pub pieces_again : Formed g → pieces_at (text_of g) (places_of g) ≡ g
  pieces_again ok =
      let q = length g.pan + 1 in
      let s = text_of g in
      let v = behind_expiry Two s 0 q g.expiry g.service g.discretionary from_expiry in
      same_pieces (take-append_seam g.pan (61 ∷ (written Two g.expiry ++ (written Two g.service ++ g.discretionary))))
      (field_again Two 4 is_expiry expiry_is s q g.expiry _ from_expiry ok.expiry_right)
      (field_again Two 3 is_service service_is s (q + length (written Two g.expiry)) g.service _ v ok.service_right)
      (behind_service Two s 0 q g.expiry g.service g.discretionary from_expiry)

-- "its division is the only one": two divisions of one text are the same
pub only_division : (g h : Pieces) → Formed g → Formed h → text_of g ≡ text_of h → g ≡ h
only_division g h a b e =
    let d : gives (places_of g) ≡ gives (places_of h) = sym (form_accepted g a) ∙ ap layout_rule e ∙ form_accepted h b in
    let z : places_of g ≡ places_of h = cc in
    sym (pieces_again g a) ∙ ap₂ pieces_at e z ∙ pieces_again h b

-- these places divide the text: what stands there is formed, makes up the text, and stands there
pub record Divides (s : List ℕ) (d : Fields) : Type 0 where
  pub formed : Formed (pieces_at s d)
  pub text : text_of (pieces_at s d) ≡ s
  pub places : places_of (pieces_at s d) ≡ d

-- what is accepted from the expiry's place on: the fields are written there, one behind the other
pub record Tail (k : Track) (s : List ℕ) (p q : ℕ) (d : Fields) : Type 0 where
  pub pan : d.pan ≡ p
  pub expiry : Written k 4 is_expiry expiry_is s q d.expiry
  pub service : Written k 3 is_service service_is s (past 4 q d.expiry) d.service
  pub rest : d.rest ≡ past 3 (past 4 q d.expiry) d.service
  pub free : every (allowed k) (drop d.rest s) ≡ true

pub tail_there : (k : Track) (s : List ℕ) (p q : ℕ) (d : Fields) → expiry_rule k s p q ≡ gives d → Tail k s p q d
unfolding expiry_rule service_rule rest_rule
tail_there k s p q d accepted =
    let e = went_on (field_rule k is_expiry 4 s q) _ d accepted in
    let v = went_on (field_rule k is_service 3 s (past 4 q e.0)) _ d e.2 in
    let r = passed (every (allowed k) (drop (past 3 (past 4 q e.0) v.0) s)) 6 _ d v.2 in
    let z : record { pan = p; expiry = e.0; service = v.0; rest = past 3 (past 4 q e.0) v.0 } ≡ d = cc r.1 in
    subst (Tail k s p q) z
    (record {
      pan = refl;
      expiry = field_written k 4 is_expiry expiry_is s q e.0 e.1;
      service = field_written k 3 is_service service_is s (past 4 q e.0) v.0 v.1;
      rest = refl;
      free = r.0;
    })

-- so that they make up the rest of the text, each where the one before it ends
module _ (k : Track) (s : List ℕ) (p q : ℕ) (d : Fields) (t : Tail k s p q d) where
  abbrev expiry : Option (List ℕ)
  expiry = field_in 4 s d.expiry

  abbrev service : Option (List ℕ)
  service = field_in 3 s d.service

  pub tail_text : written k expiry ++ (written k service ++ drop d.rest s) ≡ drop q s
  tail_text =
      ap (λ (l : List ℕ). written k expiry ++ l) (ap (λ (m : ℕ). written k service ++ drop m s) t.rest ∙ sym t.service.text)
      ∙ sym t.expiry.text

  expiry_end : q + length (written k expiry) ≡ past 4 q d.expiry
  expiry_end = sym (ap (past 4 q) (sym t.expiry.place) ∙ past_written k 4 is_expiry expiry_is s q expiry t.expiry.right)

  service_end : past 4 q d.expiry + length (written k service) ≡ d.rest
  service_end =
      let e = past 4 q d.expiry in
      sym (ap (past 3 e) (sym t.service.place) ∙ past_written k 3 is_service service_is s e service t.service.right) ∙ sym t.rest

  pub tail_places : (m : ℕ) → m ≡ q
      → (placed m expiry ≡ d.expiry) × (placed (m + length (written k expiry)) service ≡ d.service)
      × (m + length (written k expiry) + length (written k service) ≡ d.rest)
  tail_places m e =
      let v = ap (λ (n : ℕ). n + length (written k expiry)) e ∙ expiry_end in (
        ap (λ (n : ℕ). placed n expiry) e ∙ t.expiry.place,
        ap (λ (n : ℕ). placed n service) v ∙ t.service.place,
        ap (λ (n : ℕ). n + length (written k service)) v ∙ service_end,
      )

-- ---- what is accepted has the form

module _ (s : List ℕ) (p : ℕ) (d : Fields) (long : pan_length p ≡ true) (digits : all_digits (take p s) ≡ true) (equals : get_or s p 0 ≡ 61)
    (t : Tail Two s p (p + 1) d) where
  abbrev found : Fields
  found = record { pan = p; expiry = d.expiry; service = d.service; rest = d.rest }

  within : p < length s
  within = present_byte s p (omega arith)

  pan_size : length (take p s) ≡ p
  pan_size = length-take-le p s (omega (arith, within))

  whole : text_of (pieces_at s found) ≡ s
  whole =
      ap (λ (l : List ℕ). take p s ++ l)
      (ap (λ (l : List ℕ). 61 ∷ l) (tail_text Two s p (p + 1) d t)
      ∙ sym (drop-cons s p 0 within ∙ ap₂ (λ (b : ℕ) (l : List ℕ). b ∷ l) equals (ap (λ (m : ℕ). drop m s) (sym (add-one p)))))
      ∙ take-append-drop p s

  divides : Divides s found
  divides =
      let w = tail_places Two s p (p + 1) d t (length (take p s) + 1) (ap (λ (m : ℕ). m + 1) pan_size) in
      record {
        formed = record {
          pan_length_lem = rw pan_size long;
          pan_digits = digits;
          expiry_right = t.expiry.right;
          service_right = t.service.right;
          rest_digits = t.free;
        };
        text = whole;
        places = λ i. record { pan = pan_size i; expiry = w.0 i; service = w.1 i; rest = w.2 i };
      }

pub accepted_form : (s : List ℕ) (d : Fields) → layout_rule s ≡ gives d → Divides s d
unfolding layout_rule
accepted_form s d accepted =
    let start = passed (pan_length (lead s) && mark_at Two s (lead s)) 6 _ d accepted in
    let pan = both_true (pan_length (lead s)) (mark_at Two s (lead s)) start.0 in
    let t = tail_there Two s (lead s) (lead s + 1) d start.1 in
    let among : ℕ → Fields = λ p. record { pan = p; expiry = d.expiry; service = d.service; rest = d.rest } in
    subst (Divides s) (sym (ap among t.pan))
    (divides s (lead s) d pan.0 (lead_pass is_digit s) (eqb-true (get_or s (lead s) 0) 61 pan.1) t)

-- so that the parts stand within it
pub field_fits : (s : List ℕ) (n : ℕ) (test : List ℕ → Bool) → Digits n test → (f : Option ℕ) → Passes test (field_in n s f)
    → (field_cut n f).start + (field_cut n f).size ≤ length s
field_fits s n test k None h = omega arith
field_fits s n test k (Some q) h = omega (arith, k.some, simp (length-take, length-drop) at (k.size (take n (drop q s)) h))

module _ (s : List ℕ) (d : Fields) (accepted : layout_rule s ≡ gives d) where
  pub pan_fits : d.pan ≤ length s
  pan_fits = omega (arith, length-take d.pan s, ap (λ (x : Fields). x.pan) (accepted_form s d accepted).places)

  pub rest_fits : d.rest ≤ length s
  rest_fits =
      let g = pieces_at s d in
      let a = accepted_form s d accepted in
      omega (arith, ap (λ (x : Fields). x.rest) a.places, simp length-append at (ap length a.text))

  pub expiry_fits : (field_cut 4 d.expiry).start + (field_cut 4 d.expiry).size ≤ length s
  expiry_fits = field_fits s 4 is_expiry expiry_is d.expiry (accepted_form s d accepted).formed.expiry_right

  pub service_fits : (field_cut 3 d.service).start + (field_cut 3 d.service).size ≤ length s
  service_fits = field_fits s 3 is_service service_is d.service (accepted_form s d accepted).formed.service_right

-- and near its front
pub written_size : (k : Track) (n : ℕ) (test : List ℕ → Bool) → Digits n test → (o : Option (List ℕ)) → Passes test o → length (written k o) ≤ n
written_size k n test d None h = d.some
written_size k n test d (Some t) h = omega (arith, d.size t h)

pub placed-start : (n q : ℕ) (o : Option (List ℕ)) → (field_cut n (placed q o)).start ≤ q
placed-start n q None = omega arith
placed-start n q (Some t) = omega arith

pub places_small : (s : List ℕ) (d : Fields) → layout_rule s ≡ gives d
    → (d.pan ≤ 19) × ((field_cut 4 d.expiry).start ≤ 20) × ((field_cut 3 d.service).start ≤ 24) × (d.rest ≤ 27)
places_small s d accepted =
    let a = accepted_form s d accepted in
    let g = pieces_at s d in
    let p : length g.pan ≤ 19 = (inside_is 13 19 _ a.formed.pan_length_lem).1 in
    let e = written_size Two 4 is_expiry expiry_is g.expiry a.formed.expiry_right in
    let v = written_size Two 3 is_service service_is g.service a.formed.service_right in
    subst (λ (x : Fields). (x.pan ≤ 19) × ((field_cut 4 x.expiry).start ≤ 20) × ((field_cut 3 x.service).start ≤ 24) × (x.rest ≤ 27)) a.places (
      p,
      omega (arith, p, placed-start 4 (length g.pan + 1) g.expiry),
      omega (arith, p, e, placed-start 3 (length g.pan + 1 + length (written Two g.expiry)) g.service),
      omega (arith, p, e, v),
    )

-- ---- "Anything else is 6"

-- each step refuses with 6 alone, and so do steps one after another
pub stops_six : {A : Type 0} (t : Bool) (o : Outcome A) (m : ℕ) → (o ≡ refuses m → m ≡ 6) → demand t 6 o ≡ refuses m → m ≡ 6
stops_six t o m h e = ⊎_elim (λ x. x.1) (λ x. h x.1) (stopped t 6 o m e)

pub then_six : {A B : Type 0} (o : Outcome A) (f : A → Outcome B) (m : ℕ) → (o ≡ refuses m → m ≡ 6) → ((v : A) → f v ≡ refuses m → m ≡ 6)
    → and_then o f ≡ refuses m → m ≡ 6
then_six o f m h k e = ⊎_elim h (λ x. k x.0 x.2) (went_wrong o f m e)

module _ (k : Track) (s : List ℕ) (m : ℕ) where
  field_six : (test : List ℕ → Bool) (n q : ℕ) → field_rule k test n s q ≡ refuses m → m ≡ 6
  unfolding field_rule
  field_six test n q = by (mark_at k s q)
    where
      by : (b : Bool) → cond b (gives None) (demand (test (take n (drop q s))) 6 (gives (Some q))) ≡ refuses m → m ≡ 6
      by true e = gives_refuses None m e
      by false e = stops_six (test (take n (drop q s))) (gives (Some q)) m (gives_refuses (Some q) m) e

  rest_six : (d : Fields) → rest_rule k s d ≡ refuses m → m ≡ 6
  unfolding rest_rule
  rest_six d = stops_six (every (allowed k) (drop d.rest s)) (gives d) m (gives_refuses d m)

  service_six : (p : ℕ) (e : Option ℕ) (q : ℕ) → service_rule k s p e q ≡ refuses m → m ≡ 6
  unfolding service_rule
  service_six p e q =
      then_six (field_rule k is_service 3 s q) (λ v. rest_rule k s (record { pan = p; expiry = e; service = v; rest = past 3 q v })) m
      (field_six is_service 3 q)
      (λ v. rest_six (record { pan = p; expiry = e; service = v; rest = past 3 q v }))

  pub expiry_six : (p q : ℕ) → expiry_rule k s p q ≡ refuses m → m ≡ 6
  unfolding expiry_rule
  expiry_six p q =
      then_six (field_rule k is_expiry 4 s q) (λ e. service_rule k s p e (past 4 q e)) m
      (field_six is_expiry 4 q)
      (λ e. service_six p e (past 4 q e))

-- what is refused with 6 alone, and given exactly where pieces of the form make the text up, is refused exactly where none do
pub refused_exactly : {P A : Type 0} (Makes : P → Type 0) (o : Outcome A) → ((m : ℕ) → o ≡ refuses m → m ≡ 6)
    → ((g : P) → Makes g → (d : A) × (o ≡ gives d)) → ((d : A) → o ≡ gives d → (g : P) × Makes g)
    → (n : ℕ) → (o ≡ refuses n) ↔ ((n ≡ 6) × ((g : P) → Makes g → ⊥))
refused_exactly Makes o six made found n = (
  λ e. (six n e, λ g h. let d = made g h in gives_refuses d.0 n (sym d.1 ∙ e)),
  λ h. by o refl h.0 h.1,
)
  where
    by : (p : Outcome _) → o ≡ p → n ≡ 6 → ((g : _) → Makes g → ⊥) → p ≡ refuses n
    by (gives d) e h k = let g = found d e in absurd (k g.0 g.1)
    by (refuses m) e h k = ap {B = Outcome _} refuses (six m e ∙ sym h)

only_six : (s : List ℕ) (m : ℕ) → layout_rule s ≡ refuses m → m ≡ 6
unfolding layout_rule
only_six s m = stops_six (pan_length (lead s) && mark_at Two s (lead s)) (expiry_rule Two s (lead s) (lead s + 1)) m (expiry_six Two s m (lead s) (lead s + 1))

-- a text is refused exactly where no pieces of the form make it up, and then with 6
pub six_exactly : (s : List ℕ) (n : ℕ) → (layout_rule s ≡ refuses n) ↔ ((n ≡ 6) × ((g : Pieces) → Formed g × (text_of g ≡ s) → ⊥))
six_exactly s =
    refused_exactly (λ (g : Pieces). Formed g × (text_of g ≡ s)) (layout_rule s) (only_six s)
    (λ g h. (places_of g, sym (ap layout_rule h.1) ∙ form_accepted g h.0))
    (λ d e. let w = accepted_form s d e in (pieces_at s d, (w.formed, w.text)))

-- any two answers that the promise of a call allows are equal: of divide, of each part, its place and its bytes, and of the number
pub divide_one : (s : List ℕ) (r q : Result Fields Reason) → said r ≡ layout_rule s → said q ≡ layout_rule s → r ≡ q
divide_one s r q a b = said_one r q (a ∙ sym b)

module _ (s r q : Bor (List ℕ)) where
  pub pan_one : CutOf s (pan_cut (layout_rule s.now)) r → CutOf s (pan_cut (layout_rule s.now)) q → Same r q
  pan_one = part_one s r q _ _

  pub expiry_one : CutOf s (expiry_cut (layout_rule s.now)) r → CutOf s (expiry_cut (layout_rule s.now)) q → Same r q
  expiry_one = part_one s r q _ _

  pub service_one : CutOf s (service_cut (layout_rule s.now)) r → CutOf s (service_cut (layout_rule s.now)) q → Same r q
  service_one = part_one s r q _ _

  pub discretionary_one : CutOf s (rest_cut (length s.now) (layout_rule s.now)) r → CutOf s (rest_cut (length s.now) (layout_rule s.now)) q → Same r q
  discretionary_one = part_one s r q _ _

pub number_one : (s : List ℕ) (n m : ℕ) → n ≡ number_in (layout_rule s) → m ≡ number_in (layout_rule s) → n ≡ m
number_one s n m f g = f ∙ sym g
