-- "Each is given exactly when its condition is the first to hold": the reading's 1, 7 and what both ways refuse, in their order.
use Prim.Native.Nat.{ℕ, ◌-◌, ◌*◌}
use mathlib.Core.Path.{◌≡◌, refl, sym, ap, ◌∙◌}
use mathlib.Core.Bool.{Bool, false, cond, ◌&&◌}
use mathlib.Core.Logic.{◌↔◌}
use mathlib.Core.List.{List, reverse}
use lib.Dec.{leb, eqb}
use lib.ListN.{length}
use Rattle.reasons.specs.Reasons.{Outcome, gives, refuses}
use Rattle.reasons.proofs.Laws.{First, refuses_exactly, gives_refuses, refused_number}
use Rattle.stream.specs.Stream.{stream}
use Rattle.chars.specs.Reading.{Format, read_one}
use Rattle.bits.specs.Reading.{Track, choose, read_either, read_rule}

module _ (f : Format) (s : List Bool) (n : ℕ) where
  -- both ways refuse, and n is the number that is to be told
  pub record BothRefuse : Type 0 where
    pub forward : ℕ
    pub reversed : ℕ
    pub reads : read_one f s ≡ refuses forward
    pub turned : read_one f (reverse s) ≡ refuses reversed
    pub told : n ≡ cond (eqb forward 8) reversed forward

  -- "If both refuse, the answer is forward's number, unless that is 8, when it is the reversed reading's number"
  pub either_refuses : (read_either f s ≡ refuses n) ↔ BothRefuse
  unfolding read_either
  either_refuses = (
    by (read_one f s) (read_one f (reverse s)) refl refl,
    λ h. ap (λ (o : Outcome (List ℕ)). choose o (read_one f (reverse s))) h.reads
        ∙ ap (choose (refuses h.forward)) h.turned
        ∙ ap {B = Outcome Track} refuses (sym h.told),
  )
    where
      by : (o q : Outcome (List ℕ)) → read_one f s ≡ o → read_one f (reverse s) ≡ q → choose o q ≡ refuses n → BothRefuse
      by (gives c) q e g h = gives_refuses _ n h
      by (refuses a) (gives c) e g h = gives_refuses _ n h
      by (refuses a) (refuses b) e g h = record { forward = a; reversed = b; reads = e; turned = g; told = sym (refused_number _ n h) }

-- "output under 37 bytes is 1; then 7", then the reading
pub read_refuses : (f : Format) (s : List ℕ) (count room n : ℕ) → (read_rule f s count room ≡ refuses n)
    ↔ First (leb (f.limit - 2) room) 1 n (First (leb count 4096 && leb count (8 * length s)) 7 n (BothRefuse f (stream false s count) n))
unfolding read_rule
read_refuses f s count room n = refuses_exactly _ 1 _ n (refuses_exactly _ 7 _ n (either_refuses f (stream false s count) n))
