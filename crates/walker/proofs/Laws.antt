-- The whole walk: the records that a walker gives are the held payments' list, in order, and nothing else.
use Rattle.std.proofs.Common.{Option, None}
use Prim.Native.Nat.{ℕ, zero, suc, ◌≤◌, ◌<◌, ◌+◌, ◌-◌, ◌%◌}
use mathlib.Core.Path.{◌≡◌, refl, sym, ap, ◌∙◌}
use mathlib.Core.Bool.{Bool, true, false, cond}
use mathlib.Core.List.{List, [], ◌∷◌}
use native.Mathlib.Omega.{arith}
use native.Mathlib.Decide.{dec_lt, ℕ_discrete}
use native.Mathlib.Nat.{mod-lt}
use borrow.Author.Tests.{ne_eqb}
use denote.Ref.{Bor}
use Rattle.text.proofs.Parts.{Same}
use Rattle.reasons.specs.Reasons.{after, number_in}
use Rattle.slots.specs.Record.{is_held}
use Rattle.slots.specs.Journal.{slots_of, state_of, Formed, NewestIs}
use Rattle.slots.proofs.Form.{serial_le}
use Rattle.slots.proofs.Views.{view_one, one_view, known}
use Rattle.held.specs.Held.{record_at, held_after, held_list, low_of, first_of}
use Rattle.held.specs.Rules.{Shows, tell_rule}
use Rattle.held.proofs.Lists.{held_up}
use Rattle.held.proofs.Laws.{record_serial, shows_one}
use Rattle.walker.specs.declared.Walker.{Walker}
use Rattle.walker.specs.Walk.{held_here, held_rule, next_of, StartsAt, StartNumber, given, walk}
use Rattle.walker.proofs.Held.{another, is_here, refused_here, next_last, next_held, next-not}

-- ---- each call has one outcome

pub one_oldest : (j : List ℕ) (x y : ℕ) → StartsAt j x → StartsAt j y → x ≡ y
one_oldest j x y a b = let w = one_view j a b in w.1 ∙ sym w.2

pub one_next : (j : List ℕ) (s x y : ℕ) → x ≡ next_of j s → y ≡ next_of j s → x ≡ y
one_next j s x y a b = a ∙ sym b

-- two walkers with the same journal and the same serial are one
same_walker : (v w : Walker) → v.journal ≡ w.journal → v.next ≡ w.next → v ≡ w
same_walker v w a b = λ i. record { journal = a i; next = b i }

pub one_start : (j : Bor (List ℕ)) (v w : Walker) → (v.journal ≡ j) × StartsAt j.now v.next → (w.journal ≡ j) × StartsAt j.now w.next → v ≡ w
one_start j v w a b = same_walker v w (a.0 ∙ sym b.0) (one_oldest j.now v.next w.next a.1 b.1)

pub one_start_number : (j : List ℕ) (x y : ℕ) → StartNumber j x → StartNumber j y → x ≡ y
one_start_number j x y a b = let w = one_view j a b in w.1 ∙ sym w.2

pub one_record : (j r q : Bor (List ℕ)) (s : ℕ) → Shows j (held_rule j.now s) r → Shows j (held_rule j.now s) q → Same r q
one_record j r q s a b = shows_one j r q (held_rule j.now s) (held_rule j.now s) refl a b

pub one_move : (u v w : Walker) → (v.journal ≡ u.journal) × (v.next ≡ next_of u.journal.now u.next)
    → (w.journal ≡ u.journal) × (w.next ≡ next_of u.journal.now u.next) → v ≡ w
one_move u v w a b = same_walker v w (a.0 ∙ sym b.0) (one_next u.journal.now u.next v.next w.next a.1 b.1)

-- ---- the walk

-- a walker that is done gives nothing more
done : (j : List ℕ) (t : ℕ) → walk j 0 t ≡ []
unfolding walk
done j zero = refl
done j (suc t) = refl

module _ (j : List ℕ) (b : ℕ) (f : Formed j (slots_of j) b) (fits : b < 4294967296) where
  pub held_here_lem : (s : ℕ) → low_of j b < s → s ≤ b → is_held (state_of j (slots_of j) s) ≡ true → held_here j s ≡ true
  held_here_lem s l h e = is_here j s f.least f.most (λ z. omega arith) (f.stands s l h).serial e

  -- no record stands after the newest
  none_after : held_here j (b + 1) ≡ false
  none_after =
      let lt : (b + 1 - 1) % slots_of j < slots_of j = mod-lt (b + 1 - 1) (omega (arith, f.least)) in
      refused_here j (b + 1) 20 (another j (b + 1) f.least f.most (λ z. omega arith) (λ e. omega (arith, e, serial_le j (slots_of j) b f ((b + 1 - 1) % slots_of j) lt)))

  pub last_next : 1 ≤ b → 0 ≡ next_of j b
  last_next l = go (ℕ_discrete b 4294967295)
    where
      go : Dec (b ≡ 4294967295) → 0 ≡ next_of j b
      go (yes e) = next_last j b e
      go (no e) = next-not j b l (omega (arith, e)) none_after

  -- from a held record on: it and all after it
  walk_from : (t s : ℕ) → low_of j b < s → s ≤ b → is_held (state_of j (slots_of j) s) ≡ true → b - s < t → walk j s t ≡ held_after j (slots_of j) (s - 1) (b - (s - 1))
  unfolding walk held_after given
  walk_from zero s l h e m = absurd (omega arith)
  walk_from (suc t) s l h e m =
      let q : b - (s - 1) ≡ suc (b - s) = omega arith in
      let p : s ≡ s - 1 + 1 = omega arith in
      simp (ne_eqb s 0 (λ z. omega arith), held_here_lem s l h e) (ap (λ (rs : List (List ℕ)). record_at j (slots_of j) s ∷ rs) (rest (λ x up y. walk_from t (s + 1) x (omega arith) up (omega arith)) (dec_lt s b)))
      ∙ sym (ap (λ (t : Bool). cond t (record_at j (slots_of j) s ∷ held_after j (slots_of j) s (b - s)) (held_after j (slots_of j) s (b - s))) e)
      ∙ ap (λ (x : ℕ). cond (is_held (state_of j (slots_of j) x)) (record_at j (slots_of j) x ∷ held_after j (slots_of j) x (b - s)) (held_after j (slots_of j) x (b - s))) p
      ∙ ap (held_after j (slots_of j) (s - 1)) (sym q)
    where
      rest : (low_of j b < s + 1 → is_held (state_of j (slots_of j) (s + 1)) ≡ true → s < b → walk j (s + 1) t ≡ held_after j (slots_of j) (s + 1 - 1) (b - (s + 1 - 1)))
          → Dec (s < b) → walk j (next_of j s) t ≡ held_after j (slots_of j) s (b - s)
      rest next (yes y) =
          let up : is_held (state_of j (slots_of j) (s + 1)) ≡ true = held_up j (slots_of j) b s (s + 1) f l (omega arith) (omega arith) e in
          let q : s + 1 - 1 ≡ s = omega arith in
          ap (λ (x : ℕ). walk j x t) (sym (next_held j s (omega arith) (omega arith) (held_here_lem (s + 1) (omega arith) (omega arith) up)))
          ∙ next (omega arith) up y
          ∙ ap (λ (x : ℕ). held_after j (slots_of j) x (b - x)) q
      rest next (no y) =
          let z : s ≡ b = omega arith in
          let o : 0 ≡ b - s = omega arith in
          ap (λ (x : ℕ). walk j (next_of j x) t) z ∙ ap (λ (x : ℕ). walk j x t) (sym (last_next (omega arith))) ∙ done j t
          ∙ ap (held_after j (slots_of j) s) o

-- the list begins with its first held record, or is empty
pub data Begins (j : List ℕ) (n low m : ℕ) : Type 0 where
  empty : held_after j n low m ≡ [] → Begins j n low m
  begins : (s : ℕ) → low < s → s ≤ low + m → is_held (state_of j n s) ≡ true → held_after j n low m ≡ held_after j n (s - 1) (low + m - (s - 1)) → Begins j n low m

pub first_held : (j : List ℕ) (n low m : ℕ) → Begins j n low m
unfolding held_after
first_held j n low zero = empty refl
first_held j n low (suc m) = go (is_held (state_of j n (low + 1))) refl (first_held j n (low + 1) m)
  where
    skip : is_held (state_of j n (low + 1)) ≡ false → held_after j n low (suc m) ≡ held_after j n (low + 1) m
    skip e = ap (λ (t : Bool). cond t (record_at j n (low + 1) ∷ held_after j n (low + 1) m) (held_after j n (low + 1) m)) e

    go : (t : Bool) → is_held (state_of j n (low + 1)) ≡ t → Begins j n (low + 1) m → Begins j n low (suc m)
    go true e w =
        let p : low ≡ low + 1 - 1 = omega arith in
        let q : suc m ≡ low + suc m - (low + 1 - 1) = omega arith in
        begins (low + 1) (omega arith) (omega arith) e (λ i. held_after j n (p i) (q i))
    go false e (empty x) = empty (skip e ∙ x)
    go false e (begins s l h k x) =
        let q : low + 1 + m - (s - 1) ≡ low + suc m - (s - 1) = omega arith in
        begins s (omega arith) (omega arith) k (skip e ∙ x ∙ ap (held_after j n (s - 1)) q)

-- the first serial of a list that begins with a held record
pub first_serial : (j : List ℕ) (n b s m : ℕ) → Formed j n b → b - n < s → s ≤ b → is_held (state_of j n s) ≡ true → 0 < m → first_of (held_after j n (s - 1) m) ≡ s
unfolding held_after first_of
first_serial j n b s zero f l h e pos = absurd (omega arith)
first_serial j n b s (suc m) f l h e pos =
    let p : s ≡ s - 1 + 1 = omega arith in
    ap (λ (x : ℕ). first_of (cond (is_held (state_of j n x)) (record_at j n x ∷ held_after j n x m) (held_after j n x m))) (sym p)
    ∙ ap (λ (t : Bool). first_of (cond t (record_at j n s ∷ held_after j n s m) (held_after j n s m))) e
    ∙ record_serial j n b s f l h

pub first_none : first_of [] ≡ 0
unfolding first_of
first_none = refl

-- from its start, in as many steps as there are serials to go, or more
pub walk_enough : (j : List ℕ) (b s t : ℕ) → Formed j (slots_of j) b → b < 4294967296 → StartsAt j s → (low_of j b < s → b - s < t) → walk j s t ≡ held_list j b
unfolding tell_rule
walk_enough j b s t f fits w h = go (known j b f w) (first_held j (slots_of j) (low_of j b) (b - low_of j b))
  where
    go : s ≡ first_of (held_list j b) → Begins j (slots_of j) (low_of j b) (b - low_of j b) → walk j s t ≡ held_list j b
    go e (empty x) = ap (λ (y : ℕ). walk j y t) (e ∙ none_first x) ∙ done j t ∙ sym x
      where
        none_first : held_list j b ≡ [] → first_of (held_list j b) ≡ 0
        none_first x = ap first_of x ∙ first_none
    go e (begins u l k held x) =
        let q : low_of j b + (b - low_of j b) - (u - 1) ≡ b - (u - 1) = omega arith in
        let all : held_list j b ≡ held_after j (slots_of j) (u - 1) (b - (u - 1)) = x ∙ ap (held_after j (slots_of j) (u - 1)) q in
        let su : s ≡ u = e ∙ ap first_of all ∙ first_serial j (slots_of j) b u (b - (u - 1)) f l (omega arith) held (omega arith) in
        ap (λ (y : ℕ). walk j y t) su ∙ walk_from j b f fits t u l (omega arith) held (omega (arith, h (omega arith))) ∙ sym all

-- "gives held records .. by rising serial, each once, then says done": from its start, in as many steps as there are slots or more
pub walk_all : (j : List ℕ) (b s t : ℕ) → Formed j (slots_of j) b → b < 4294967296 → StartsAt j s → slots_of j ≤ t → walk j s t ≡ held_list j b
walk_all j b s t f fits w h = walk_enough j b s t f fits w (λ l. omega (arith, f.least))

-- "It starts with 16": a malformed journal gives a walker that is done, and the companion's number is 16
pub walk_malformed : (j : List ℕ) (s x t : ℕ) → NewestIs j None → StartsAt j s → StartNumber j x → (x ≡ 16) × (walk j s t ≡ [])
unfolding tell_rule
walk_malformed j s x t is a b = (
  b.so ∙ ap (λ (m : Option ℕ). number_in (tell_rule m j)) (view_one j b.view None b.is is),
  ap (λ (y : ℕ). walk j y t) (a.so ∙ ap (λ (m : Option ℕ). after (tell_rule m j) 0 (λ t. t.oldest)) (view_one j a.view None a.is is)) ∙ done j t,
)
