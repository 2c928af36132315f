-- Beyond the paper, for five bits: a stream that reads forward does not read reversed, nor does it with one bit flipped.
-- A stream that reads reversed begins, behind zeros, with five bits of odd parity, then five ones, and holds a start sentinel behind them.
-- One that reads forward begins, behind zeros, with 11010 and a character of odd parity. Both at once leave no place for the five ones.
use mathlib.Core.Path.{◌≡◌, refl, sym, ap, ◌∙◌, subst}
use mathlib.Core.Bool.{Bool, true, false, cond, ◌&&◌, ◌||◌}
use mathlib.Core.List.{List, [], ◌∷◌, ◌++◌, reverse, reverse_aux, reverse-reverse}
use Prim.Native.Nat.{ℕ, zero, suc, ◌+◌, ◌*◌, ◌%◌, ◌≤◌, ◌<◌}
use native.Mathlib.Omega.{arith}
use lib.ListN.{length, take, drop}
use lib.Dec.{eqb, leb}
use lib.Bits.{bit_xor}
use borrow.Author.Tests.{le-leb, lt-leb, eqb-true}
use Rattle.reasons.specs.Reasons.{Outcome, gives, refuses}
use Rattle.reasons.proofs.Laws.{gives_refuses, passed, went_on}
use Rattle.stream.specs.Stream.{bit_n, stream, number, ones, odd}
use Rattle.chars.specs.Reading.{Letters, next, all_zero, finish, body, skip, begins, read_one}
use Rattle.bits.specs.Reading.{Track, forward_of, reversed_of, choose, read_either}
use Rattle.chars.specs.Flip.{flip_at}
use Rattle.bits.specs.Flip.{flip_bit, Reverses}
use Rattle.stream.proofs.Streams.{length-stream}
use Rattle.stream.proofs.Numbers.{bit_n_le, bit_one, bit_zero}
use Rattle.chars.proofs.Chars.{char_long, char_odd, char_number}
use Rattle.chars.proofs.Flips.{take_early, odd_flip, begins_split, start_there, body_there, zero_first, stream_flip}
use Rattle.bits.proofs.FlipBytes.{flipped_stream, reversed_stream}
use Rattle.bits.proofs.Laws.{taken, reads_forward}
use Rattle.track2.specs.Track2.{track2, track2_rule}
use Rattle.track2.proofs.Laws.{proper2, reversal}

abbrev five_ones : List Bool
five_ones = true ∷ true ∷ true ∷ true ∷ true ∷ []

abbrev letters2 : Letters
letters2 = track2.letters

-- here five bits of odd parity, five ones and at least three more ones begin
unfoldable here : List Bool → Bool
here s = odd (take 5 s) && (begins five_ones (drop 5 s) && leb 3 (ones (drop 10 s)))

-- they begin at the front or behind zeros
unfoldable ends : List Bool → Bool
ends [] = false
ends (true ∷ s) = here (true ∷ s)
ends (false ∷ s) = here (false ∷ s) || ends s

or_right : (p q : Bool) → q ≡ true → p || q ≡ true
or_right true q h = refl
or_right false q h = h

or_neither : (p q : Bool) → p ≡ false → q ≡ false → p || q ≡ false
or_neither p q h k = rw (h, k)

and_second : (p q : Bool) → (p ≡ true → q ≡ false) → p && q ≡ false
and_second true q h = h refl
and_second false q h = refl

contradiction : false ≡ true → ⊥
contradiction e = let z : ◌≡◌ {A = ℕ} 0 1 = cc in omega arith

here_ends : (b : Bool) (s : List Bool) → here (b ∷ s) ≡ true → ends (b ∷ s) ≡ true
unfolding ends
here_ends true s h = h
here_ends false s h = rw h

-- ---- a stream that reads, read from its other end

pub record Five (s : List Bool) : Type 0 where
  pub a : Bool
  pub b : Bool
  pub c : Bool
  pub d : Bool
  pub e : Bool
  pub rest : List Bool
  pub is : s ≡ a ∷ b ∷ c ∷ d ∷ e ∷ rest

five : (s : List Bool) → 5 ≤ length s → Five s
five [] h = absurd (omega arith)
five (a ∷ []) h = absurd (omega arith)
five (a ∷ b ∷ []) h = absurd (omega arith)
five (a ∷ b ∷ c ∷ []) h = absurd (omega arith)
five (a ∷ b ∷ c ∷ d ∷ []) h = absurd (omega arith)
five (a ∷ b ∷ c ∷ d ∷ e ∷ s) h = record { a = a; b = b; c = c; d = d; e = e; rest = s; is = refl }

-- a character's five bits
module _ (s : List Bool) (n : ℕ) (found : next 4 s ≡ gives n) where
  bits5 : Five s
  bits5 = five s (char_long 4 s n found)

  bits_odd : odd (bits5.a ∷ bits5.b ∷ bits5.c ∷ bits5.d ∷ bits5.e ∷ []) ≡ true
  bits_odd = subst (λ (l : List Bool). odd (take 5 l) ≡ true) bits5.is (char_odd 4 s n found)

  bits_number : number (bits5.a ∷ bits5.b ∷ bits5.c ∷ bits5.d ∷ []) ≡ n
  bits_number = subst (λ (l : List Bool). number (take 4 l) ≡ n) bits5.is (char_number 4 s n found)

-- the ones of five bits, and their number
ones_of : (a b c d e : Bool) (s : List Bool) → ones (a ∷ b ∷ c ∷ d ∷ e ∷ s) ≡ bit_n a + bit_n b + bit_n c + bit_n d + bit_n e + ones s
unfolding ones
ones_of a b c d e s = omega arith

number_of : (a b c d : Bool) → number (a ∷ b ∷ c ∷ d ∷ []) ≡ bit_n a + 2 * bit_n b + 4 * bit_n c + 8 * bit_n d
unfolding number
number_of a b c d = omega arith

odd_of : (a b c d e : Bool) → odd (a ∷ b ∷ c ∷ d ∷ e ∷ []) ≡ true → (bit_n a + bit_n b + bit_n c + bit_n d + bit_n e) % 2 ≡ 1
unfolding ones
odd_of a b c d e h = ap (λ (m : ℕ). m % 2) (omega arith) ∙ eqb-true (ones (a ∷ b ∷ c ∷ d ∷ e ∷ []) % 2) 1 h

turned : (a b c d e : Bool) → odd (a ∷ b ∷ c ∷ d ∷ e ∷ []) ≡ true → odd (e ∷ d ∷ c ∷ b ∷ a ∷ []) ≡ true
unfolding ones
turned a b c d e h =
    let m : ones (e ∷ d ∷ c ∷ b ∷ a ∷ []) ≡ ones (a ∷ b ∷ c ∷ d ∷ e ∷ []) = omega arith in
    rw m h

-- the end sentinel's bits
all_ones : (a b c d e : Bool) → number (a ∷ b ∷ c ∷ d ∷ []) ≡ 15 → odd (a ∷ b ∷ c ∷ d ∷ e ∷ []) ≡ true → (s : List Bool)
    → ◌≡◌ {A = List Bool} (a ∷ b ∷ c ∷ d ∷ e ∷ s) (true ∷ true ∷ true ∷ true ∷ true ∷ s)
all_ones a b c d e n o s =
    let m : bit_n a + 2 * bit_n b + 4 * bit_n c + 8 * bit_n d ≡ 15 = sym (number_of a b c d) ∙ n in
    let p = odd_of a b c d e o in
    let ha = bit_n_le a in let hb = bit_n_le b in let hc = bit_n_le c in let hd = bit_n_le d in let he = bit_n_le e in
    let na : bit_n a ≡ 1 = omega arith in
    let nb : bit_n b ≡ 1 = omega arith in
    let nc : bit_n c ≡ 1 = omega arith in
    let nd : bit_n d ≡ 1 = omega arith in
    let q : (4 + bit_n e) % 2 ≡ 1 = ap (λ (k : ℕ). k % 2) (omega arith) ∙ p in
    let ne : bit_n e ≡ 1 = omega arith in
    rw (bit_one a na, bit_one b nb, bit_one c nc, bit_one d nd, bit_one e ne)

zeros_end : (r v : List Bool) → all_zero r ≡ true → ends v ≡ true → ends (reverse_aux r v) ≡ true
unfolding all_zero ends
zeros_end [] v z h = h
zeros_end (false ∷ r) v z h = zeros_end r (false ∷ v) z (or_right (here (false ∷ v)) (ends v) h)
zeros_end (true ∷ r) v z h = absurd (contradiction z)

finish_end : (x : ℕ) (out : List ℕ) (r v : List Bool) (b : List ℕ) → 3 ≤ ones v → finish 4 x out r ≡ gives b → ends (reverse_aux r (five_ones ++ v)) ≡ true
unfolding finish here begins
finish_end x out r v b h e =
    let w = went_on (next 4 r) _ b e in
    let f = bits5 r w.0 w.1 in
    let z = (passed (all_zero (drop 5 r)) 13 _ b (passed (eqb w.0 x) 12 _ b w.2).1).0 in
    let o = turned f.a f.b f.c f.d f.e (bits_odd r w.0 w.1) in
    subst (λ (l : List Bool). ends (reverse_aux l (five_ones ++ v)) ≡ true) (sym f.is)
    (zeros_end f.rest (f.e ∷ f.d ∷ f.c ∷ f.b ∷ f.a ∷ (five_ones ++ v)) (subst (λ (l : List Bool). all_zero (drop 5 l) ≡ true) f.is z)
    (here_ends f.e (f.d ∷ f.c ∷ f.b ∷ f.a ∷ (five_ones ++ v)) (rw (o, le-leb 3 (ones v) h))))

-- one of two readings
either : {P : Type 0} (t : Bool) (o p : Outcome (List ℕ)) (a : List ℕ) → (t ≡ true → o ≡ gives a → P) → (p ≡ gives a → P) → cond t o p ≡ gives a → P
either true o p a h k e = h refl e
either false o p a h k e = k e

body_end : (k x : ℕ) (out : List ℕ) (r v : List Bool) (b : List ℕ) → 3 ≤ ones v → body letters2 k x out r ≡ gives b → ends (reverse_aux r v) ≡ true
unfolding body
body_end zero x out r v b h e = gives_refuses b 11 (sym e)
body_end (suc k) x out r v b h e =
    let w = went_on (next 4 r) _ b e in
    let f = bits5 r w.0 w.1 in
    let o = bits_odd r w.0 w.1 in
    either (eqb w.0 15) _ _ b
    (λ t g.
    let n : number (f.a ∷ f.b ∷ f.c ∷ f.d ∷ []) ≡ 15 = bits_number r w.0 w.1 ∙ eqb-true w.0 15 t in
    let i : r ≡ true ∷ true ∷ true ∷ true ∷ true ∷ f.rest = f.is ∙ all_ones f.a f.b f.c f.d f.e n o f.rest in
    subst (λ (l : List Bool). ends (reverse_aux l v) ≡ true) (sym i)
    (finish_end _ out f.rest v b h (subst (λ (l : List Bool). finish 4 (bit_xor x w.0) out (drop 5 l) ≡ gives b) i g)))
    (λ g.
    subst (λ (l : List Bool). ends (reverse_aux l v) ≡ true) (sym f.is)
    (body_end k _ _ f.rest (f.e ∷ f.d ∷ f.c ∷ f.b ∷ f.a ∷ v) b (omega (arith, ones_of f.e f.d f.c f.b f.a v))
    (subst (λ (l : List Bool). body letters2 k (bit_xor x w.0) (out ++ ((48 + w.0) ∷ [])) (drop 5 l) ≡ gives b) f.is g)))
    w.2

read_end : (r v : List Bool) (b : List ℕ) → read_one track2 r ≡ gives b → ends (reverse_aux r v) ≡ true
unfolding skip begins
read_end [] v b e = absurd (contradiction (start_there track2 [] b e))
read_end (false ∷ r) v b e = read_end r (false ∷ v) b (zero_first track2 r ∙ e)
read_end (true ∷ r) v b e =
    let i : true ∷ r ≡ true ∷ true ∷ false ∷ true ∷ false ∷ drop 5 (true ∷ r) = begins_split track2.start (true ∷ r) (start_there track2 (true ∷ r) b e) in
    subst (λ (l : List Bool). ends (reverse_aux l v) ≡ true) (sym i)
    (body_end 38 _ [] (drop 5 (true ∷ r)) (false ∷ true ∷ false ∷ true ∷ true ∷ v) b (omega (arith, ones_of false true false true true v)) (body_there track2 (true ∷ r) b e))

-- ---- a stream that reads, from its front

unfoldable zeros : ℕ → List Bool → List Bool
zeros zero s = s
zeros (suc k) s = false ∷ zeros k s

skipped : (s : List Bool) → (k : ℕ) × (s ≡ zeros k (skip s))
unfolding skip zeros
skipped [] = (0, refl)
skipped (false ∷ s) = let r = skipped s in (suc r.0, ap (λ (l : List Bool). false ∷ l) r.1)
skipped (true ∷ s) = (0, refl)

-- what follows the start sentinel: a character, and behind an end sentinel 00100, the LRC of the empty track, and zeros
pub record Follows (a b c d e : Bool) (s : List Bool) : Type 0 where
  pub parity : odd (a ∷ b ∷ c ∷ d ∷ e ∷ []) ≡ true
  pub last : begins five_ones (a ∷ b ∷ c ∷ d ∷ e ∷ []) ≡ true → (ones s ≤ 1) × (begins (true ∷ []) s ≡ false)

no_ones : (s : List Bool) → all_zero s ≡ true → ones s ≡ 0
unfolding all_zero ones
no_ones [] h = refl
no_ones (false ∷ s) h = omega (arith, no_ones s h)
no_ones (true ∷ s) h = absurd (contradiction h)

finish_is : (out : List ℕ) (s : List Bool) (a : List ℕ) → finish 4 4 out s ≡ gives a → (ones s ≤ 1) × (begins (true ∷ []) s ≡ false)
unfolding finish begins
finish_is out s a e =
    let w = went_on (next 4 s) _ a e in
    let f = bits5 s w.0 w.1 in
    let x = passed (eqb w.0 4) 12 _ a w.2 in
    let z : all_zero f.rest ≡ true = subst (λ (l : List Bool). all_zero (drop 5 l) ≡ true) f.is (passed (all_zero (drop 5 s)) 13 _ a x.1).0 in
    let n : bit_n f.a + 2 * bit_n f.b + 4 * bit_n f.c + 8 * bit_n f.d ≡ 4 =
    sym (number_of f.a f.b f.c f.d) ∙ bits_number s w.0 w.1 ∙ eqb-true w.0 4 x.0 in
    let o = odd_of f.a f.b f.c f.d f.e (bits_odd s w.0 w.1) in
    let ha = bit_n_le f.a in let hb = bit_n_le f.b in let hc = bit_n_le f.c in let hd = bit_n_le f.d in let he = bit_n_le f.e in
    let m = ones_of f.a f.b f.c f.d f.e f.rest in
    let q : f.a ≡ false = bit_zero f.a (λ t. omega arith) in
    subst (λ (l : List Bool). (ones l ≤ 1) × (begins (true ∷ []) l ≡ false)) (sym f.is) (omega (arith, m, no_ones f.rest z), rw q)

-- five bits that are all ones have the end sentinel's number
end_number : (a b c d e : Bool) → begins five_ones (a ∷ b ∷ c ∷ d ∷ e ∷ []) ≡ true → number (a ∷ b ∷ c ∷ d ∷ []) ≡ 15
unfolding number
end_number a b c d e h =
    let i : a ∷ b ∷ c ∷ d ∷ e ∷ [] ≡ five_ones ++ drop 5 (a ∷ b ∷ c ∷ d ∷ e ∷ []) = begins_split five_ones (a ∷ b ∷ c ∷ d ∷ e ∷ []) h in
    ap (λ (l : List Bool). number (take 4 l)) i

follows : (k : ℕ) (out : List ℕ) (a b c d e : Bool) (s : List Bool) (g : List ℕ) → body letters2 (suc k) 11 out (a ∷ b ∷ c ∷ d ∷ e ∷ s) ≡ gives g → Follows a b c d e s
unfolding body
follows k out a b c d e s g h =
    let w = went_on (next 4 (a ∷ b ∷ c ∷ d ∷ e ∷ s)) _ g h in
    record {
      parity = char_odd 4 (a ∷ b ∷ c ∷ d ∷ e ∷ s) w.0 w.1;
      last = λ t.
          let n : w.0 ≡ 15 = sym (char_number 4 (a ∷ b ∷ c ∷ d ∷ e ∷ s) w.0 w.1) ∙ end_number a b c d e t in
          finish_is out s g (rw (n) at w.2);
    }

-- ---- both at once

flip_more : (i : ℕ) (s : List Bool) → ones (flip_at i s) ≤ ones s + 1
unfolding flip_at ones
flip_more i [] = omega arith
flip_more zero (false ∷ s) = omega arith
flip_more zero (true ∷ s) = omega arith
flip_more (suc i) (b ∷ s) = omega (arith, flip_more i s)

-- the start sentinel in front of a list
abbrev begun : List Bool → List Bool
begun u = true ∷ true ∷ false ∷ true ∷ false ∷ u

-- its first bit flipped: the five ones would be the end sentinel's last four and a zero
first_flipped : (a b c d e : Bool) (s : List Bool) → Follows a b c d e s → here (true ∷ false ∷ true ∷ false ∷ a ∷ b ∷ c ∷ d ∷ e ∷ s) ≡ false
unfolding here begins ones
first_flipped false b c d e s k = refl
first_flipped true false c d e s k = refl
first_flipped true true false d e s k = refl
first_flipped true true true false e s k = refl
first_flipped true true true true false s k = refl
first_flipped true true true true true s k = rw (k.last refl).1

-- its last bit flipped, and a zero in front: the five ones would be that bit and the end sentinel's first four, with too few ones behind
last_flipped : (a b c d e : Bool) (s : List Bool) → Follows a b c d e s → here (false ∷ true ∷ true ∷ false ∷ true ∷ true ∷ a ∷ b ∷ c ∷ d ∷ e ∷ s) ≡ false
unfolding here begins ones
last_flipped false b c d e s k = refl
last_flipped true false c d e s k = refl
last_flipped true true false d e s k = refl
last_flipped true true true false e s k = refl
last_flipped true true true true false s k = absurd (contradiction k.parity)
last_flipped true true true true true s k = lt-leb 3 (ones (true ∷ s)) (omega (arith, (k.last refl).0))

-- a bit behind it flipped: the five ones would be a character of odd parity with one bit flipped, or have too few ones behind
module _ (a b c d e : Bool) (s : List Bool) (ok : Follows a b c d e s) where
  in_char : (j : ℕ) → j < 5 → begins five_ones (flip_at j (a ∷ b ∷ c ∷ d ∷ e ∷ s)) ≡ true → ⊥
  unfolding ones
  in_char j h t =
      let l = a ∷ b ∷ c ∷ d ∷ e ∷ s in
      odd_flip j (take 5 l) h ok.parity
      (ap odd (sym (take_early 5 j l h)) ∙ ap (λ (m : List Bool). odd (take 5 m)) (begins_split five_ones (flip_at j l) t))

  behind : (j : ℕ) → begins five_ones (flip_at j (a ∷ b ∷ c ∷ d ∷ e ∷ s)) ≡ true → leb 3 (ones (drop 5 (flip_at j (a ∷ b ∷ c ∷ d ∷ e ∷ s)))) ≡ false
  unfolding flip_at begins
  behind zero t = absurd (in_char 0 (omega arith) t)
  behind (suc zero) t = absurd (in_char 1 (omega arith) t)
  behind (suc (suc zero)) t = absurd (in_char 2 (omega arith) t)
  behind (suc (suc (suc zero))) t = absurd (in_char 3 (omega arith) t)
  behind (suc (suc (suc (suc zero)))) t = absurd (in_char 4 (omega arith) t)
  behind (suc (suc (suc (suc (suc j))))) t = lt-leb 3 (ones (flip_at j s)) (omega (arith, (ok.last t).0, flip_more j s))

-- a zero in front flipped: a zero stands among the five ones
zero_flipped : (u : List Bool) (k : ℕ) → here (true ∷ zeros k (begun u)) ≡ false
unfolding here zeros begins ones
zero_flipped u zero = refl
zero_flipped u (suc zero) = refl
zero_flipped u (suc (suc zero)) = refl
zero_flipped u (suc (suc (suc zero))) = refl
zero_flipped u (suc (suc (suc (suc zero)))) = refl
zero_flipped u (suc (suc (suc (suc (suc k))))) = refl

-- and behind a zero, whatever bit is flipped, there are too many zeros, but for one case
module _ (u : List Bool) (one : here (false ∷ true ∷ true ∷ false ∷ true ∷ true ∷ u) ≡ false) where
  zero_first_too : (k i : ℕ) → here (false ∷ flip_at i (zeros k (begun u))) ≡ false
  unfolding here zeros flip_at begins ones
  zero_first_too zero zero = refl
  zero_first_too zero (suc zero) = refl
  zero_first_too zero (suc (suc zero)) = refl
  zero_first_too zero (suc (suc (suc zero))) = refl
  zero_first_too zero (suc (suc (suc (suc zero)))) = one
  zero_first_too zero (suc (suc (suc (suc (suc i))))) = refl
  zero_first_too (suc zero) zero = refl
  zero_first_too (suc zero) (suc zero) = refl
  zero_first_too (suc zero) (suc (suc zero)) = refl
  zero_first_too (suc zero) (suc (suc (suc zero))) = refl
  zero_first_too (suc zero) (suc (suc (suc (suc zero)))) = refl
  zero_first_too (suc zero) (suc (suc (suc (suc (suc i))))) = refl
  zero_first_too (suc (suc zero)) zero = refl
  zero_first_too (suc (suc zero)) (suc zero) = refl
  zero_first_too (suc (suc zero)) (suc (suc zero)) = refl
  zero_first_too (suc (suc zero)) (suc (suc (suc zero))) = refl
  zero_first_too (suc (suc zero)) (suc (suc (suc (suc i)))) = refl
  zero_first_too (suc (suc (suc zero))) zero = refl
  zero_first_too (suc (suc (suc zero))) (suc zero) = refl
  zero_first_too (suc (suc (suc zero))) (suc (suc zero)) = refl
  zero_first_too (suc (suc (suc zero))) (suc (suc (suc zero))) = refl
  zero_first_too (suc (suc (suc zero))) (suc (suc (suc (suc zero)))) = refl
  zero_first_too (suc (suc (suc zero))) (suc (suc (suc (suc (suc zero))))) = refl
  zero_first_too (suc (suc (suc zero))) (suc (suc (suc (suc (suc (suc i)))))) = refl
  zero_first_too (suc (suc (suc (suc zero)))) zero = refl
  zero_first_too (suc (suc (suc (suc zero)))) (suc zero) = refl
  zero_first_too (suc (suc (suc (suc zero)))) (suc (suc zero)) = refl
  zero_first_too (suc (suc (suc (suc zero)))) (suc (suc (suc zero))) = refl
  zero_first_too (suc (suc (suc (suc zero)))) (suc (suc (suc (suc i)))) = refl
  zero_first_too (suc (suc (suc (suc (suc k))))) zero = refl
  zero_first_too (suc (suc (suc (suc (suc k))))) (suc zero) = refl
  zero_first_too (suc (suc (suc (suc (suc k))))) (suc (suc zero)) = refl
  zero_first_too (suc (suc (suc (suc (suc k))))) (suc (suc (suc zero))) = refl
  zero_first_too (suc (suc (suc (suc (suc k))))) (suc (suc (suc (suc i)))) = refl

module _ (a b c d e : Bool) (s : List Bool) (ok : Follows a b c d e s) where
  no_end : (k i : ℕ) → ends (flip_at i (zeros k (begun (a ∷ b ∷ c ∷ d ∷ e ∷ s)))) ≡ false
  unfolding ends here zeros flip_at begins ones
  no_end zero zero = first_flipped a b c d e s ok
  no_end zero (suc zero) = refl
  no_end zero (suc (suc zero)) = refl
  no_end zero (suc (suc (suc zero))) = refl
  no_end zero (suc (suc (suc (suc zero)))) = refl
  no_end zero (suc (suc (suc (suc (suc j))))) = and_second _ _ (behind a b c d e s ok j)
  no_end (suc k) zero = zero_flipped (a ∷ b ∷ c ∷ d ∷ e ∷ s) k
  no_end (suc k) (suc i) = or_neither _ _ (zero_first_too (a ∷ b ∷ c ∷ d ∷ e ∷ s) (last_flipped a b c d e s ok) k i) (no_end k i)

-- five bits at least follow the start sentinel
next_five : (u : List Bool) (a : List ℕ) → body letters2 38 11 [] u ≡ gives a → Five u
unfolding body
next_five u a g = let w = went_on (next 4 u) _ a g in bits5 u w.0 w.1

-- no place left: where i is behind the stream, no bit is flipped
not_reversed : (s : List Bool) (i : ℕ) (a b : List ℕ) → read_one track2 s ≡ gives a → read_one track2 (reverse (flip_at i s)) ≡ gives b → ⊥
unfolding number
not_reversed s i a b p q =
    let k = skipped s in
    let st : skip s ≡ begun (drop 5 (skip s)) = begins_split track2.start (skip s) (start_there track2 s a p) in
    let g = body_there track2 s a p in
    let f = next_five (drop 5 (skip s)) a g in
    let ok = follows 37 [] f.a f.b f.c f.d f.e f.rest a (subst (λ (l : List Bool). body letters2 38 11 [] l ≡ gives a) f.is g) in
    let all : s ≡ zeros k.0 (begun (f.a ∷ f.b ∷ f.c ∷ f.d ∷ f.e ∷ f.rest)) = k.1 ∙ ap (zeros k.0) (st ∙ ap begun f.is) in
    let no : ends (flip_at i s) ≡ false = subst (λ (l : List Bool). ends (flip_at i l) ≡ false) (sym all) (no_end f.a f.b f.c f.d f.e f.rest ok k.0 i) in
    let yes : ends (flip_at i s) ≡ true = ap ends (sym (reverse-reverse (flip_at i s))) ∙ read_end (reverse (flip_at i s)) [] b q in
    contradiction (sym no ∙ yes)

none_flipped : (s : List Bool) → flip_at (length s) s ≡ s
unfolding flip_at
none_flipped [] = refl
none_flipped (b ∷ s) = ap (λ (l : List Bool). b ∷ l) (none_flipped s)

-- no stream reads both ways round
pub one_way : (s : List Bool) (a b : List ℕ) → read_one track2 s ≡ gives a → read_one track2 (reverse s) ≡ gives b → ⊥
one_way s a b p q = not_reversed s (length s) a b p (ap (λ (l : List Bool). read_one track2 (reverse l)) (none_flipped s) ∙ q)

-- one flipped bit of a stream that reads forward is refused either way round
pub flip_refused : (s : List Bool) (i : ℕ) → i < length s → (a : List ℕ) (t : Track) → read_one track2 s ≡ gives a → read_either track2 (flip_at i s) ≡ gives t → ⊥
unfolding read_either
flip_refused s i h a t p q = of_either (read_one track2 (flip_at i s)) (read_one track2 (reverse (flip_at i s))) refl refl q
  where
    of_either : (o r : Outcome (List ℕ)) → read_one track2 (flip_at i s) ≡ o → read_one track2 (reverse (flip_at i s)) ≡ r → choose o r ≡ gives t → ⊥
    of_either (gives b) r e g c = stream_flip track2 proper2 s i h a b p e
    of_either (refuses n) (gives b) e g c = not_reversed s i a b p g
    of_either (refuses n) (refuses m) e g c = gives_refuses t (cond (eqb n 8) m n) (sym c)

-- and of the lent bytes: one bit of one byte changed
pub flip_refused_in_bytes : (s : List ℕ) (bits n i : ℕ) → i < bits → (a : List ℕ) (t : Track)
    → track2_rule s bits n ≡ gives (forward_of a) → track2_rule (flip_bit s i) bits n ≡ gives t → ⊥
flip_refused_in_bytes s bits n i h a t p q =
    let k = taken track2 s bits n (forward_of a) p in
    let l = taken track2 (flip_bit s i) bits n t q in
    flip_refused (stream false s bits) i (rw length-stream h) a t (reads_forward track2 _ a k.reads)
    (ap (read_either track2) (sym (flipped_stream s i bits (omega (arith, k.there)) h)) ∙ l.reads)

-- the reversal law's condition always holds: "reading the reversal either way round gives the same characters"
pub reversal_always : (s t : List ℕ) (bits n : ℕ) (out : List ℕ) → Reverses s t bits → bits ≤ 8 * length t
    → track2_rule s bits n ≡ gives (forward_of out) → track2_rule t bits n ≡ gives (reversed_of out)
reversal_always s t bits n out r l p = by (read_one track2 (stream false t bits)) refl
  where
    by : (o : Outcome (List ℕ)) → read_one track2 (stream false t bits) ≡ o → track2_rule t bits n ≡ gives (reversed_of out)
    by (refuses m) e = reversal s t bits n out m r l p e
    by (gives b) e =
        absurd (one_way (stream false s bits) out b (reads_forward track2 _ out (taken track2 s bits n (forward_of out) p).reads)
        (ap (read_one track2) (sym (reversed_stream s t bits r)) ∙ e))
