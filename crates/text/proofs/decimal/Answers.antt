use Prim.Native.Nat.{ℕ, ◌≤◌, ◌<◌, ◌+◌, ◌*◌, ◌-◌, ◌^◌}
use mathlib.Core.Path.{◌≡◌, sym, ap, ◌∙◌}
use mathlib.Core.Bool.{true}
use mathlib.Core.List.{List}
use native.Mathlib.Omega.{arith}
use native.Mathlib.Numerals.{add-one}
use native.Mathlib.Nat.{pow-suc, pow-le-pow_right}
use lib.ListN.{length, get_or, drop}
use Rattle.text.specs.Bytes.{is_digit, all_digits}
use Rattle.text.specs.Numbers.{decimal_after, decimal}
use Rattle.text.proofs.Every.{every_at}
use Rattle.text.proofs.Numbers.{digit_small, decimal_turn, decimal_end}
use Rattle.text.proofs.decimal.Goals as goal

-- what fewer than 19 digits write leaves room for one digit more
room : (s : List ℕ) (v i : ℕ) → length s ≤ 19 → i < length s → v < 10 ^ i → v < 1000000000000000000
room s v i h l b = let p : 10 ^ i ≤ 10 ^ 18 = pow-le-pow_right {n = 10} (omega arith) {i = i} {j = 18} (omega arith) in omega arith

turn : (s : List ℕ) (v i d : ℕ) → all_digits s ≡ true → i < length s → decimal_after v (drop i s) ≡ decimal s → v < 10 ^ i → d ≡ get_or s i 0 - 48
    → (decimal_after (10 * v + d) (drop (i + 1) s) ≡ decimal s) × (10 * v + d < 10 ^ (i + 1))
turn s v i d a h e b f =
    let k = digit_small (get_or s i 0) (every_at is_digit s i a h) in
    let q : 10 ^ (i + 1) ≡ 10 ^ i * 10 = ap (λ (n : ℕ). 10 ^ n) (add-one i) ∙ pow-suc 10 i in (
      (λ j. decimal_after (10 * v + f j) (drop (add-one i j) s)) ∙ sym (decimal_turn s v i h) ∙ e,
      omega arith,
    )

pub overflow_mul-v : goal.overflow_mul-v
overflow_mul-v c =
    let l = c.loop-b in
    let b = room c.args.s.now l.v l.b-index c.requires.s_len_bound (omega arith) l.invariant.1 in
    omega arith

pub overflow_add-v : goal.overflow_add-v
overflow_add-v c =
    let l = c.loop-b in
    let b = room c.args.s.now l.v l.b-index c.requires.s_len_bound (omega arith) l.invariant.1 in
    omega arith

pub loop-b-preserved : goal.loop-b-preserved
loop-b-preserved c =
    let l = c.loop-b in
    turn c.args.s.now l.v l.b-index c.digit_value.result c.requires.s_value (omega arith) l.invariant.0 l.invariant.1 c.digit_value.ensures.0

pub returns : goal.returns
returns c =
    let l = c.loop-b in
    sym (decimal_end c.args.s.now l.v l.b-index (omega arith)) ∙ l.invariant.0
