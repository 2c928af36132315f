-- A body place by place, and what an exchange does to it. Nothing here opens `kind_fits`.
use Prim.Native.Nat.{ℕ, zero, suc, ◌+◌, ◌-◌, ◌<◌}
use mathlib.Core.Path.{◌≡◌, refl, sym, ap, ◌∙◌}
use mathlib.Core.Bool.{true}
use mathlib.Core.List.{List, [], ◌∷◌, ◌++◌}
use native.Mathlib.Omega.{arith}
use native.Mathlib.Nat.{le_of_suc-le-suc, not-suc-le-zero}
use native.Mathlib.Decide.{dec_lt}
use lib.Dec.{ltb}
use lib.ListN.{length, get_or, set, drop, replicate, length-replicate, get_or-replicate, get_or-append}
use lib.Seq.{drop-set-add, get_or-drop, get_or-append-add}
use borrow.Author.Tests.{lt-ltb, le-ltb, ltb-true}
use Rattle.text.proofs.Tests.{both_true}
use Rattle.text.specs.Bytes.{swap}
use Rattle.countries.specs.Countries.{is_c, kind_fits, kinds_of, fits, in_run_of_c}
use Rattle.countries.specs.declared.Kind.{Kind}
use Rattle.countries.specs.declared.Kind.TheVariants.{Digits, Capitals, Either}
use Rattle.countries.specs.declared.Run.{Run}

-- each byte of a body fits the kind of its place
fits_at : (ks : List Kind) (s : List ℕ) (i : ℕ) → fits ks s ≡ true → i < length s → kind_fits (get_or ks i Digits) (get_or s i 0) ≡ true
unfolding fits
fits_at [] [] i h l = absurd (not-suc-le-zero l)
fits_at [] (b ∷ s) i h l = let z : ◌≡◌ {A = ℕ} 0 1 = cc in absurd (omega arith)
fits_at (k ∷ ks) [] i h l = absurd (not-suc-le-zero l)
fits_at (k ∷ ks) (b ∷ s) zero h l = (both_true (kind_fits k b) (fits ks s) h).0
fits_at (k ∷ ks) (b ∷ s) (suc i) h l = fits_at ks s i (both_true (kind_fits k b) (fits ks s) h).1 (le_of_suc-le-suc l)

fits-set : (ks : List Kind) (s : List ℕ) (i v : ℕ) → fits ks s ≡ true → kind_fits (get_or ks i Digits) v ≡ true → fits ks (set s i v) ≡ true
unfolding fits
fits-set [] [] i v h f = h
fits-set [] (b ∷ s) i v h f = let z : ◌≡◌ {A = ℕ} 0 1 = cc in absurd (omega arith)
fits-set (k ∷ ks) [] i v h f = h
fits-set (k ∷ ks) (b ∷ s) zero v h f = rw f (both_true (kind_fits k b) (fits ks s) h).1
fits-set (k ∷ ks) (b ∷ s) (suc i) v h f =
    let t = both_true (kind_fits k b) (fits ks s) h in
    rw t.0 (fits-set ks s i v t.1 f)

-- bytes at two places of one kind may be exchanged
pub fits-swap : (ks : List Kind) (s : List ℕ) (i j : ℕ) → get_or ks i Digits ≡ get_or ks j Digits → i < length s → j < length s
    → fits ks s ≡ true → fits ks (swap s i j) ≡ true
fits-swap ks s i j e li lj h =
    fits-set ks (set s i (get_or s j 0)) j (get_or s i 0)
    (fits-set ks s i (get_or s j 0) h (ap (λ (k : Kind). kind_fits k (get_or s j 0)) e ∙ fits_at ks s j h lj))
    (ap (λ (k : Kind). kind_fits k (get_or s i 0)) (sym e) ∙ fits_at ks s i h li)

-- an exchange behind the first four bytes is one in the body
pub drop-swap : (s : List ℕ) (i j : ℕ) → drop 4 (swap s (4 + i) (4 + j)) ≡ swap (drop 4 s) i j
drop-swap s i j =
    drop-set-add 4 (set s (4 + i) (get_or s (4 + j) 0)) j (get_or s (4 + i) 0)
    ∙ rw (drop-set-add 4 s i (get_or s (4 + j) 0), get_or-drop 4 s i 0, get_or-drop 4 s j 0)

-- the kind of a place, in the first run or behind it
kind_in : (r : Run) (rs : List Run) (m : ℕ) → m < r.size → get_or (kinds_of (r ∷ rs)) m Digits ≡ r.kind
unfolding kinds_of
kind_in r rs m h =
    get_or-append (replicate r.size r.kind) (kinds_of rs) Digits m (omega (arith, length-replicate r.size r.kind))
    ∙ get_or-replicate r.size m r.kind Digits h

kind_behind : (r : Run) (rs : List Run) (m : ℕ) → get_or (kinds_of (r ∷ rs)) (r.size + m) Digits ≡ get_or (kinds_of rs) m Digits
unfolding kinds_of
kind_behind r rs m =
    ap (λ (l : ℕ). get_or (replicate r.size r.kind ++ kinds_of rs) (l + m) Digits) (sym (length-replicate r.size r.kind))
    ∙ get_or-append-add (replicate r.size r.kind) (kinds_of rs) m Digits

c_only : (k : Kind) → is_c k ≡ true → k ≡ Either
c_only Digits h = let z : ◌≡◌ {A = ℕ} 0 1 = cc in absurd (omega arith)
c_only Capitals h = let z : ◌≡◌ {A = ℕ} 0 1 = cc in absurd (omega arith)
c_only Either h = refl

-- two neighbours in one run of c are places of kind c
pub both_c : (rs : List Run) (m : ℕ) → in_run_of_c rs m ≡ true → (get_or (kinds_of rs) m Digits ≡ Either) × (get_or (kinds_of rs) (suc m) Digits ≡ Either)
unfolding in_run_of_c
both_c [] m h = let z : ◌≡◌ {A = ℕ} 0 1 = cc in absurd (omega arith)
both_c (r ∷ rs) m h = go (dec_lt m r.size) (both_c rs (m - r.size))
  where
    go : Dec (m < r.size) → (in_run_of_c rs (m - r.size) ≡ true → (get_or (kinds_of rs) (m - r.size) Digits ≡ Either) × (get_or (kinds_of rs) (suc (m - r.size)) Digits ≡ Either))
        → (get_or (kinds_of (r ∷ rs)) m Digits ≡ Either) × (get_or (kinds_of (r ∷ rs)) (suc m) Digits ≡ Either)
    go (yes l) f =
        let b = both_true (is_c r.kind) (ltb (m + 1) r.size) (rw (lt-ltb m r.size l) at h) in
        let k = c_only r.kind b.0 in
        (kind_in r rs m l ∙ k, kind_in r rs (suc m) (omega (arith, ltb-true (m + 1) r.size b.1)) ∙ k)
    go (no l) f =
        let g = f (rw (le-ltb m r.size (omega arith)) at h) in
        let e : r.size + (m - r.size) ≡ m = omega arith in
        let d : r.size + suc (m - r.size) ≡ suc m = omega arith in (
          ap (λ (n : ℕ). get_or (kinds_of (r ∷ rs)) n Digits) (sym e) ∙ kind_behind r rs (m - r.size) ∙ g.0,
          ap (λ (n : ℕ). get_or (kinds_of (r ∷ rs)) n Digits) (sym d) ∙ kind_behind r rs (suc (m - r.size)) ∙ g.1,
        )
