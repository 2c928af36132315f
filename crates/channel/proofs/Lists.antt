-- Elements of a list by their place, and payments in the order of their serials.
use Prim.Native.Nat.{ℕ, suc, ◌≤◌, ◌<◌, ◌+◌, ◌-◌}
use mathlib.Core.Path.{◌≡◌, refl, sym, ap, ◌∙◌, subst, subst⁻¹}
use mathlib.Core.Bool.{Bool, cond}
use mathlib.Core.List.Memᴰ
use mathlib.Core.List.{List, [], ◌∷◌, ◌++◌, map, Memᴰ as Among}
use mathlib.Core.Logic.{⊎_elim}
use native.Mathlib.Omega.{arith}
use native.Mathlib.Decide.{dec_lt}
use lib.Dec.{ltb}
use lib.ListN.{length, take, drop, take-append-drop}
use lib.Seq.{take-nil, take_at, take-append-add, take-take}
use borrow.Author.Tests.{lt-ltb, le-ltb}
use Rattle.history.specs.History.{Payment, takings, up_from}
use Rattle.history.proofs.Runs.{takings-append}
use Rattle.channel.specs.Channel.{Nth, head_is, further, below}

-- ---- elements of a list

pub nth_among : {A : Type 0} {k : ℕ} {l : List A} {x : A} → Nth k l x → Among x l
nth_among head_is = Among.head refl
nth_among (further n) = Among.tail (nth_among n)

pub among_nth : {A : Type 0} (x : A) (l : List A) → Among x l → (k : ℕ) × Nth k l x
among_nth x [] a = absurd (Memᴰ.not-nil a)
among_nth x (y ∷ l) a =
    ⊎_elim (λ e. (0, subst⁻¹ (λ z. Nth 0 (y ∷ l) z) e head_is)) (λ m. let n = among_nth x l m in (suc n.0, further n.1)) (Memᴰ.cases_cons a)

-- what is among the first few is among more of them
pub among_more : {A : Type 0} (x : A) (m n : ℕ) (l : List A) → m ≤ n → Among x (take m l) → Among x (take n l)
among_more x m n l h a =
    subst (Among x) (take-append-drop m (take n l)) (Memᴰ.append_left (drop m (take n l)) (subst (Among x) (sym (take-take m n l h)) a))

-- ---- payments

-- their serials are those after low, without a gap
abbrev pub Serials : ℕ → List Payment → Type 0
Serials low ps = map (λ (p : Payment). p.serial) ps ≡ up_from low (length ps)

pub serials_cons : (low : ℕ) (p : Payment) (ps : List Payment) → Serials low (p ∷ ps) → (p.serial ≡ low + 1) × Serials (low + 1) ps
unfolding up_from
serials_cons low p ps e =
    let f : ◌≡◌ {A = List ℕ} (p.serial ∷ map (λ (p : Payment). p.serial) ps) ((low + 1) ∷ up_from (low + 1) (length ps)) = e in
    (cc, cc)

pub serial_at_lem : (low : ℕ) (before : List Payment) (p : Payment) (later : List Payment) → Serials low (before ++ (p ∷ later))
    → p.serial ≡ low + length before + 1
serial_at_lem low [] p later e = let w = serials_cons low p later e in omega (arith, w.0)
serial_at_lem low (q ∷ before) p later e =
    let w = serials_cons low q (before ++ (p ∷ later)) e in
    let ih = serial_at_lem (low + 1) before p later w.1 in
    omega arith

-- those below a serial are the first so many
pub below_is : (low wanted : ℕ) (ps : List Payment) → Serials low ps → below wanted ps ≡ take (wanted - (low + 1)) ps
unfolding below
below_is low wanted [] e = sym (take-nil (wanted - (low + 1)))
below_is low wanted (p ∷ ps) e = go (dec_lt (low + 1) wanted) (below_is (low + 1) wanted ps w.1)
  where
    w : (p.serial ≡ low + 1) × Serials (low + 1) ps
    w = serials_cons low p ps e

    go : Dec (low + 1 < wanted) → below wanted ps ≡ take (wanted - (low + 1 + 1)) ps
        → cond (ltb p.serial wanted) (p ∷ below wanted ps) (below wanted ps) ≡ take (wanted - (low + 1)) (p ∷ ps)
    go (yes h) ih =
        let m : wanted - (low + 1) ≡ suc (wanted - (low + 1 + 1)) = omega arith in
        ap (λ (t : Bool). cond t (p ∷ below wanted ps) (below wanted ps)) (lt-ltb p.serial wanted (omega (arith, w.0)))
        ∙ ap (λ (l : List Payment). p ∷ l) ih ∙ ap (λ (x : ℕ). take x (p ∷ ps)) (sym m)
    go (no h) ih =
        let m : wanted - (low + 1) ≡ 0 = omega arith in
        let z : wanted - (low + 1 + 1) ≡ 0 = omega arith in
        ap (λ (t : Bool). cond t (p ∷ below wanted ps) (below wanted ps)) (le-ltb p.serial wanted (omega (arith, w.0)))
        ∙ ih ∙ ap (λ (x : ℕ). take x ps) z ∙ ap (λ (x : ℕ). take x (p ∷ ps)) (sym m)

-- one payment more
pub take_next : (before : List Payment) (p : Payment) (later : List Payment) (t : ℕ) → length before ≡ t
    → take (t + 1) (before ++ (p ∷ later)) ≡ take t (before ++ (p ∷ later)) ++ (p ∷ [])
take_next before p later t e =
    ap (λ (x : ℕ). take (x + 1) (before ++ (p ∷ later))) (sym e) ∙ take-append-add before (p ∷ later) 1
    ∙ ap (λ (ps : List Payment). ps ++ (p ∷ [])) (sym (take_at before (p ∷ later) t e))

pub takings_more : (ps : List Payment) (p : Payment) → takings (ps ++ (p ∷ [])) ≡ takings ps + p.amount
unfolding takings
takings_more ps p = takings-append ps (p ∷ []) ∙ omega arith
