-- What a stat line says of a process, whatever its name, and what a line of the queue does.
use Prim.Native.Nat.{ℕ, ◌+◌, ◌≤◌, ◌<◌}
use mathlib.Core.Path.{◌≡◌, refl, ap, ◌∙◌}
use mathlib.Core.Bool.{Bool, true, false, cond, ◌&&◌, not}
use mathlib.Core.List.{List, [], ◌∷◌, ◌++◌}
use native.Mathlib.Omega.{arith}
use lib.Dec.{eqb, leb, ltb}
use lib.ListN.{length, take, drop, get_or}
use borrow.Author.Tests.{leb-true}
use Rattle.text.specs.Bytes.{every}
use Rattle.text.proofs.Tests.{both_true}
use Rattle.text.specs.Numbers.{put}
use Rattle.text.proofs.Put.{put_in, put_before, length_put}
use Rattle.script.proofs.Words.{same_is}
use Rattle.lock_lines.specs.Stat.{after_last, after_name, start_time}
use Rattle.lock_lines.specs.Line.{blank_line, fits, line_of, is_now}

abbrev pub no_end : List ℕ → Bool
no_end q = every (λ b. not (eqb b 41)) q

-- where no `)` follows, the best so far stays
stays : (q best : List ℕ) → no_end q ≡ true → after_last q best ≡ best
unfolding after_last every
stays [] best h = refl
stays (b ∷ q) best h = let e = both_true _ _ h in by (eqb b 41) e.0 (stays q best e.1)
  where
    by : (t : Bool) → not t ≡ true → after_last q best ≡ best → cond t (after_last q q) (after_last q best) ≡ best
    by true n e = let z : ◌≡◌ {A = ℕ} 0 1 = cc in absurd (omega arith)
    by false n e = e

found : (p q best : List ℕ) → no_end q ≡ true → after_last (p ++ (41 ∷ q)) best ≡ q
unfolding after_last
found [] q best h = stays q q h
found (b ∷ p) q best h = by (eqb b 41) (found p q (p ++ (41 ∷ q)) h) (found p q best h)
  where
    by : (t : Bool) {l m : List ℕ} → l ≡ q → m ≡ q → cond t l m ≡ q
    by true e f = e
    by false e f = f

-- 'the name in parentheses may hold spaces and parentheses': whatever stands before the last `)`, what follows it is found
pub name_any : (p q : List ℕ) → no_end q ≡ true → after_name (p ++ (41 ∷ q)) ≡ q
name_any p q h = found p q [] h

-- and the start time is the same for every name
pub start_any : (p o q : List ℕ) → no_end q ≡ true → start_time (p ++ (41 ∷ q)) ≡ start_time (o ++ (41 ∷ q))
unfolding start_time
start_any p o q h = rw (name_any p q h, name_any o q h)

blank_length : length blank_line ≡ 128
unfolding blank_line
blank_length = refl

record Fitting (pid start boot : List ℕ) : Type 0 where
  pid_fits : length pid ≤ 20
  start_fits : length start ≤ 20
  boot_fits : length boot ≤ 36

fitting : (pid start boot : List ℕ) → fits pid start boot ≡ true → Fitting pid start boot
unfolding fits
fitting pid start boot h =
    let p = leb (length pid) 20 in
    let s = leb (length start) 20 in
    let b = leb (length boot) 36 in
    let all = both_true (ltb 0 (length start)) (p && (s && b)) h in
    let rest = both_true p (s && b) all.1 in
    let last = both_true s b rest.1 in
    record { pid_fits = leb-true _ _ rest.0; start_fits = leb-true _ _ last.0; boot_fits = leb-true _ _ last.1 }

-- the bytes of a line that is written whole
module _ (pid start boot : List ℕ) (f : Fitting pid start boot) (i : ℕ) where
  at_start : i < length start → get_or (line_of blank_line pid start boot) (21 + i) 0 ≡ get_or start i 0
  unfolding line_of
  at_start h =
      let l = blank_length in
      let one = length_put blank_line pid 0 (omega (arith, f.pid_fits)) in
      let two = length_put (put blank_line 0 pid) start 21 (omega (arith, f.start_fits)) in
      put_before (put (put blank_line 0 pid) 21 start) boot 42 (omega (arith, f.boot_fits)) (21 + i) (omega (arith, f.start_fits))
      ∙ put_in (put blank_line 0 pid) start 21 (omega (arith, f.start_fits)) i h

  at_boot : i < length boot → get_or (line_of blank_line pid start boot) (42 + i) 0 ≡ get_or boot i 0
  unfolding line_of
  at_boot h =
      let l = blank_length in
      let one = length_put blank_line pid 0 (omega (arith, f.pid_fits)) in
      let two = length_put (put blank_line 0 pid) start 21 (omega (arith, f.start_fits)) in
      put_in (put (put blank_line 0 pid) 21 start) boot 42 (omega (arith, f.boot_fits)) i h

module _ (line own pid start : List ℕ) (h : is_now line own pid start ≡ true) (i : ℕ) where
  -- 'its start time is the one in the line': a line is a process's only where it has that process's start time
  pub now_start : i < length start → get_or line (21 + i) 0 ≡ get_or start i 0
  unfolding is_now
  now_start l =
      let p = both_true _ _ h in
      ap (λ (s : List ℕ). get_or s (21 + i) 0) (same_is _ _ p.1) ∙ at_start pid start (take 36 (drop 42 own)) (fitting _ _ _ p.0) i l

  -- 'the boot's id is this boot's': and only where it has the own line's
  pub now_boot : i < length (take 36 (drop 42 own)) → get_or line (42 + i) 0 ≡ get_or (take 36 (drop 42 own)) i 0
  unfolding is_now
  now_boot l =
      let p = both_true _ _ h in
      ap (λ (s : List ℕ). get_or s (42 + i) 0) (same_is _ _ p.1) ∙ at_boot pid start (take 36 (drop 42 own)) (fitting _ _ _ p.0) i l
