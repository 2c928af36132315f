-- Laws on streams: their lengths, their bits, parts of them.
use mathlib.Core.Path.{◌≡◌, refl, ap, ◌∙◌}
use mathlib.Core.Bool.{Bool, true, false}
use mathlib.Core.List.{List, [], ◌∷◌, reverse, reverse-cons}
use Prim.Native.Nat.{ℕ, zero, suc, ◌+◌, ◌-◌, ◌≤◌, ◌<◌}
use native.Mathlib.Nat.{add-zero, not-suc-le-zero, le_of_suc-le-suc}
use native.Mathlib.Omega.{arith}
use native.Mathlib.Decide.{dec_lt}
use lib.ListN.{length, get_or, take, drop, length-reverse, length-take, length-drop, get_or-append}
use lib.Seq.{get_or_at}
use Rattle.stream.specs.Stream.{bit_at, is_one, bit_n, bits_from, stream}

pub bit_n-is_one : (b : ℕ) → b < 2 → bit_n (is_one b) ≡ b
bit_n-is_one zero h = refl
bit_n-is_one (suc zero) h = refl
bit_n-is_one (suc (suc b)) h = absurd (not-suc-le-zero (le_of_suc-le-suc (le_of_suc-le-suc h)))

pub bit_n-bit_at : (s : List ℕ) (i : ℕ) → bit_n (is_one (bit_at s i)) ≡ bit_at s i
bit_n-bit_at s i = bit_n-is_one (bit_at s i) (omega arith)

pub length-bits_from : (s : List ℕ) (i n : ℕ) → length (bits_from s i n) ≡ n
unfolding bits_from
length-bits_from s i zero = refl
length-bits_from s i (suc n) = ap suc (length-bits_from s (suc i) n)

pub get_or-bits_from : (s : List ℕ) (i n k : ℕ) → k < n → get_or (bits_from s i n) k false ≡ is_one (bit_at s (i + k))
unfolding bits_from
get_or-bits_from s i zero k h = absurd (not-suc-le-zero h)
get_or-bits_from s i (suc n) zero h = rw add-zero
get_or-bits_from s i (suc n) (suc k) h = get_or-bits_from s (suc i) n k (le_of_suc-le-suc h) ∙ ap (λ (j : ℕ). is_one (bit_at s j)) (omega arith)

pub get_d_reverse {ℓ} : {A : Type ℓ} (l : List A) (k : ℕ) (d : A) → k < length l → get_or (reverse l) k d ≡ get_or l (length l - suc k) d
get_d_reverse [] k d h = absurd (not-suc-le-zero h)
get_d_reverse (x ∷ l) k d h = go (get_d_reverse l k d) (dec_lt k (length l))
  where
    go : (k < length l → get_or (reverse l) k d ≡ get_or l (length l - suc k) d) → Dec (k < length l)
        → get_or (reverse (x ∷ l)) k d ≡ get_or (x ∷ l) (length (x ∷ l) - suc k) d
    go ih (yes p) =
        let e : suc (length l) - suc k ≡ suc (length l - suc k) = omega arith in
        let q : k < length (reverse l) = rw length-reverse p in
        rw (reverse-cons, e) (get_or-append (reverse l) (x ∷ []) d k q ∙ ih p)
    go ih (no n) =
        let e : suc (length l) - suc k ≡ 0 = omega arith in
        let q : length (reverse l) ≡ k = rw length-reverse (omega arith) in
        rw (reverse-cons, e) (get_or_at (reverse l) x [] d k q)

pub length-stream : (w : Bool) (s : List ℕ) (n : ℕ) → length (stream w s n) ≡ n
unfolding stream
length-stream false s n = length-bits_from s 0 n
length-stream true s n = length-reverse (bits_from s 0 n) ∙ length-bits_from s 0 n

-- the w bits from bit p on
abbrev pub part : List Bool → ℕ → ℕ → List Bool
part s p w = take w (drop p s)

pub length_part : (s : List Bool) (p w : ℕ) → p + w ≤ length s → length (part s p w) ≡ w
length_part s p w fits = simp (length-take, length-drop) (omega arith)

pub stream-fits : (v : Bool) (s : List ℕ) (n p w : ℕ) → p + w ≤ n → p + w ≤ length (stream v s n)
stream-fits v s n p w h = rw length-stream h
