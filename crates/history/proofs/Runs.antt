-- Calls one after another: what runs joined come to.
use Prim.Native.Nat.{ℕ, max, ◌+◌}
use mathlib.Core.Path.{◌≡◌, refl, sym, ap, ◌∙◌}
use mathlib.Core.List.{List, [], ◌∷◌, ◌++◌, append_assoc}
use native.Mathlib.Omega.{arith}
use Rattle.history.specs.History.{Done, Run, no_more, next, Payment, effect_of, booked_in, booked, highest, freed_count, freed_sum, takings}

pub run_append : {j k l : List ℕ} {ds es : List Done} → Run j ds k → Run k es l → Run j (ds ++ es) l
run_append no_more r = r
run_append (next d w more) r = next d w (run_append more r)

pub booked-append : (ds es : List Done) → booked (ds ++ es) ≡ booked ds ++ booked es
unfolding booked
booked-append [] es = refl
booked-append (d ∷ ds) es =
    ap (λ (l : List Payment). booked_in (effect_of d) ++ l) (booked-append ds es) ∙ sym (append_assoc (booked_in (effect_of d)) (booked ds) (booked es))

pub highest-append : (ds es : List Done) → highest (ds ++ es) ≡ max (highest ds) (highest es)
unfolding highest
highest-append [] es = omega arith
highest-append (d ∷ ds) es = let ih = highest-append ds es in omega arith

pub freed_count_append : (ds es : List Done) → freed_count (ds ++ es) ≡ freed_count ds + freed_count es
unfolding freed_count
freed_count_append [] es = omega arith
freed_count_append (d ∷ ds) es = let ih = freed_count_append ds es in omega arith

pub freed_sum-append : (ds es : List Done) → freed_sum (ds ++ es) ≡ freed_sum ds + freed_sum es
unfolding freed_sum
freed_sum-append [] es = omega arith
freed_sum-append (d ∷ ds) es = let ih = freed_sum-append ds es in omega arith

pub takings-append : (ps qs : List Payment) → takings (ps ++ qs) ≡ takings ps + takings qs
unfolding takings
takings-append [] qs = omega arith
takings-append (p ∷ ps) qs = let ih = takings-append ps qs in omega arith
