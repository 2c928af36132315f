-- What has the form is accepted, and its division is the only one.
use Prim.Native.Nat.{ℕ, ◌+◌}
use mathlib.Core.Path.{◌≡◌, refl, sym, ap, ap₂, ◌∙◌}
use mathlib.Core.List.{List, ◌∷◌, ◌++◌}
use native.Mathlib.Omega.{arith}
use lib.ListN.{length, get_or, take, drop}
use lib.Seq.{drop-drop, drop-append-add, take-append_seam, drop-append_seam}
use borrow.Author.Tests.{eq-eqb}
use Rattle.std.proofs.Common.{Option}
use Rattle.std.specs.List.{prefix_len}
use Rattle.text.specs.Bytes.{is_digit}
use Rattle.reasons.specs.Reasons.{gives}
use Rattle.layout.specs.Layout.{is_named, is_expiry, is_service, lead}
use Rattle.layout.specs.Grammar.{written}
use Rattle.layout.specs.declared.Track.TheVariants.{One}
use Rattle.layout.proofs.Forms.{front_byte, lead_is, expiry_is, service_is}
use Rattle.layout.proofs.Laws.{field_again, behind_expiry, behind_service, tail_accepted}
use Rattle.layout1.specs.Layout1.{name_length, with_name, fields_rule, name_rule, layout1_rule}
use Rattle.layout1.specs.Grammar1.{Pieces, tail_of, text_of, Formed, expiry_at, places_of, pieces_at}

-- pieces with the same parts are the same
same_pieces : {a a' n n' r r' : List ℕ} {e e' v v' : Option (List ℕ)} → a ≡ a' → n ≡ n' → e ≡ e' → v ≡ v' → r ≡ r'
    → ◌≡◌ {A = Pieces} (record { pan = a; name = n; expiry = e; service = v; discretionary = r })
    (record { pan = a'; name = n'; expiry = e'; service = v'; discretionary = r' })
same_pieces h m i j k = λ x. record { pan = h x; name = m x; expiry = i x; service = j x; discretionary = k x }

-- the text of pieces, from each place on
module _ (g : Pieces) where
  at_mark : drop (length g.pan + 1) (text_of g) ≡ 94 ∷ (g.name ++ 94 ∷ tail_of g)
  at_mark =
      let e : length g.pan + 1 ≡ 1 + length g.pan = omega arith in
      ap (λ (m : ℕ). drop m (text_of g)) e ∙ sym (drop-drop (length g.pan) 1 (text_of g)) ∙ drop-append_seam g.pan (94 ∷ (g.name ++ 94 ∷ tail_of g))

  from_name : drop (length g.pan + 2) (text_of g) ≡ g.name ++ 94 ∷ tail_of g
  from_name =
      let e : length g.pan + 2 ≡ 1 + (length g.pan + 1) = omega arith in
      ap (λ (m : ℕ). drop m (text_of g)) e ∙ sym (drop-drop (length g.pan + 1) 1 (text_of g))
      ∙ drop-append-add g.pan (94 ∷ (g.name ++ 94 ∷ tail_of g)) 1

  at_end : drop (length g.pan + length g.name + 2) (text_of g) ≡ 94 ∷ tail_of g
  at_end =
      let e : length g.pan + length g.name + 2 ≡ length g.pan + 2 + length g.name = omega arith in
      ap (λ (m : ℕ). drop m (text_of g)) e ∙ sym (drop-drop (length g.name) (length g.pan + 2) (text_of g))
      ∙ ap (drop (length g.name)) from_name ∙ drop-append_seam g.name (94 ∷ tail_of g)

  from_expiry : drop (expiry_at g) (text_of g) ≡ tail_of g
  from_expiry =
      let e : length g.pan + length g.name + 3 ≡ length g.pan + 2 + (length g.name + 1) = omega arith in
      ap (λ (m : ℕ). drop m (text_of g)) e ∙ sym (drop-drop (length g.name + 1) (length g.pan + 2) (text_of g))
      ∙ ap (drop (length g.name + 1)) from_name ∙ drop-append-add g.name (94 ∷ tail_of g) 1

  -- "A text is accepted exactly when it has this form": what has it is accepted, and divided into its pieces
  pub form_accepted : Formed g → layout1_rule (text_of g) ≡ gives (places_of g)
  unfolding layout1_rule name_rule fields_rule is_digit is_named
  form_accepted ok =
      let p : lead (drop 1 (text_of g)) ≡ length g.pan = lead_is is_digit g.pan 94 _ ok.pan_digits refl in
      let n : name_length (text_of g) (length g.pan) ≡ length g.name =
      ap (prefix_len is_named) from_name ∙ lead_is is_named g.name 94 _ ok.name_right refl in
      let m = eq-eqb (get_or (text_of g) (length g.pan + 1) 0) 94 (front_byte (text_of g) (length g.pan + 1) _ at_mark) in
      let z = eq-eqb (get_or (text_of g) (length g.pan + length g.name + 2) 0) 94
      (front_byte (text_of g) (length g.pan + length g.name + 2) _ at_end) in
      let t =
      tail_accepted One (text_of g) (length g.pan) (expiry_at g) g.expiry g.service g.discretionary from_expiry
      ok.expiry_right ok.service_right ok.rest_right in
      rw (p, ok.pan_length_lem, m, n, ok.name_length_lem, z) (ap (with_name (length g.name)) t)

  -- its pieces are read off again
  pub pieces_again : Formed g → pieces_at (text_of g) (places_of g) ≡ g
  pieces_again ok =
      let s = text_of g in
      let v = behind_expiry One s 0 (expiry_at g) g.expiry g.service g.discretionary from_expiry in
      same_pieces (take-append_seam g.pan (94 ∷ (g.name ++ 94 ∷ tail_of g)))
      (ap (take (length g.name)) from_name ∙ take-append_seam g.name (94 ∷ tail_of g))
      (field_again One 4 is_expiry expiry_is s (expiry_at g) g.expiry _ from_expiry ok.expiry_right)
      (field_again One 3 is_service service_is s (expiry_at g + length (written One g.expiry)) g.service _ v ok.service_right)
      (behind_service One s 0 (expiry_at g) g.expiry g.service g.discretionary from_expiry)

-- "its division is the only one": two divisions of one text are the same
pub only_division : (g h : Pieces) → Formed g → Formed h → text_of g ≡ text_of h → g ≡ h
only_division g h a b e =
    let d : gives (places_of g) ≡ gives (places_of h) = sym (form_accepted g a) ∙ ap layout1_rule e ∙ form_accepted h b in
    let z : places_of g ≡ places_of h = cc in
    sym (pieces_again g a) ∙ ap₂ pieces_at e z ∙ pieces_again h b
