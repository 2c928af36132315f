-- Writes in order: what the first of them leave, and what all of them leave.
use Prim.Native.Nat.{ℕ, zero, suc, ◌≤◌, ◌<◌, ◌+◌, ◌-◌}
use mathlib.Core.Path.{◌≡◌, refl, sym, ap, ◌∙◌, subst, subst⁻¹}
use mathlib.Core.List.{List, [], ◌∷◌, ◌++◌}
use native.Mathlib.Omega.{arith}
use native.Mathlib.Decide.{dec_lt, ℕ_discrete}
use lib.ListN.{length, take, get_or, set, length-set}
use lib.Seq.{get_or-set_same, get_or-set_other, ext_get_or}
use Rattle.text.specs.Numbers.{put}
use Rattle.text.proofs.Put.{put_in, put_before, put_after, length_put}
use Rattle.slots.specs.Writes.{Write, wrote, turn_byte, writes_from, record_writes}

pub wrote-append : (j : List ℕ) (vs ws : List Write) → wrote j (vs ++ ws) ≡ wrote (wrote j vs) ws
unfolding wrote
wrote-append j [] ws = refl
wrote-append j (v ∷ vs) ws = wrote-append (set j v.place v.byte) vs ws

pub wrote-length : (j : List ℕ) (ws : List Write) → length (wrote j ws) ≡ length j
unfolding wrote
wrote-length j [] = refl
wrote-length j (w ∷ ws) = wrote-length (set j w.place w.byte) ws ∙ simp length-set

-- the 32 turns go over the 32 bytes, each once: byte i is written at turn `turn_byte i`
turn_below : (k : ℕ) → turn_byte k < 32
unfolding turn_byte
turn_below k = omega arith

turn_back : (i : ℕ) → i < 32 → turn_byte (turn_byte i) ≡ i
unfolding turn_byte
turn_back i h = omega arith

-- the state byte is written last
pub last_turn : (k : ℕ) → k < 31 → turn_byte k ≡ 15 → ⊥
unfolding turn_byte
last_turn k h e = omega arith

module _ (r : List ℕ) (at : ℕ) where
  -- the write of turn k
  abbrev turn_write : ℕ → Write
  turn_write k = record { place = at + turn_byte k; byte = get_or r (turn_byte k) 0 }

  -- the first c of the writes
  pub first_writes : (k c m : ℕ) → c ≤ m → take c (writes_from r at k m) ≡ writes_from r at k c
  unfolding writes_from
  first_writes k zero m h = refl
  first_writes k (suc c) zero h = absurd (omega arith)
  first_writes k (suc c) (suc m) h = ap (λ (ws : List Write). turn_write k ∷ ws) (first_writes (k + 1) c m (omega arith))

  -- and one more
  next_write : (k m : ℕ) → writes_from r at k (suc m) ≡ writes_from r at k m ++ (turn_write (k + m) ∷ [])
  unfolding writes_from
  next_write k zero = let e : k ≡ k + 0 = omega arith in ap (λ (x : ℕ). turn_write x ∷ []) e
  next_write k (suc m) =
      let e : k + 1 + m ≡ k + suc m = omega arith in
      ap (λ (ws : List Write). turn_write k ∷ ws) (next_write (k + 1) m ∙ ap (λ (x : ℕ). writes_from r at (k + 1) m ++ (turn_write x ∷ [])) e)

  -- one turn of the loop, and its end
  pub write_turn : (j₀ j : List ℕ) (k i : ℕ) → i ≡ turn_byte k → k < 32 → j ≡ wrote j₀ (take k (record_writes r at))
      → set j (at + i) (get_or r i 0) ≡ wrote j₀ (take (k + 1) (record_writes r at))
  unfolding wrote
  write_turn j₀ j k i b h e =
      let q : k + 1 ≡ suc k = omega arith in
      let z : 0 + k ≡ k = omega arith in
      ap (λ (x : ℕ). set j (at + x) (get_or r x 0)) b
      ∙ ap (λ (l : List ℕ). set l (at + turn_byte k) (get_or r (turn_byte k) 0)) (e ∙ ap (wrote j₀) (first_writes 0 k 32 (omega arith)))
      ∙ sym (wrote-append j₀ (writes_from r at 0 k) (turn_write k ∷ []))
      ∙ ap (λ (x : ℕ). wrote j₀ (writes_from r at 0 k ++ (turn_write x ∷ []))) (sym z)
      ∙ ap (wrote j₀) (sym (next_write 0 k) ∙ sym (first_writes 0 (suc k) 32 (omega arith)) ∙ ap (λ (x : ℕ). take x (record_writes r at)) (sym q))

  pub write_done : (k : ℕ) → k ≡ 32 → take k (record_writes r at) ≡ record_writes r at
  write_done k e = ap (λ (x : ℕ). take x (record_writes r at)) e ∙ first_writes 0 32 32 (omega arith)

  -- ---- what the writes from turn k on leave

  pub wrote_other : (j : List ℕ) (k m x : ℕ) → ((i : ℕ) → k ≤ i → i < k + m → x ≡ at + turn_byte i → ⊥) → get_or (wrote j (writes_from r at k m)) x 0 ≡ get_or j x 0
  unfolding wrote writes_from
  wrote_other j k zero x h = refl
  wrote_other j k (suc m) x h =
      wrote_other (set j (at + turn_byte k) (get_or r (turn_byte k) 0)) (k + 1) m x (λ i a b. h i (omega arith) (omega arith))
      ∙ get_or-set_other j (at + turn_byte k) x (get_or r (turn_byte k) 0) 0 (h k (omega arith) (omega arith))

  pub wrote_here : (j : List ℕ) (k m i : ℕ) → at + 32 ≤ length j → k + m ≤ 32 → k ≤ i → i < k + m → get_or (wrote j (writes_from r at k m)) (at + turn_byte i) 0 ≡ get_or r (turn_byte i) 0
  unfolding wrote writes_from turn_byte
  wrote_here j k zero i f h a b = absurd (omega arith)
  wrote_here j k (suc m) i f h a b =
      here (λ q. wrote_here (set j (at + turn_byte k) (get_or r (turn_byte k) 0)) (k + 1) m i (omega (arith, length-set j (at + turn_byte k) (get_or r (turn_byte k) 0))) (omega arith) q (omega arith)) (ℕ_discrete i k)
    where
      here : (k + 1 ≤ i → get_or (wrote (set j (at + turn_byte k) (get_or r (turn_byte k) 0)) (writes_from r at (k + 1) m)) (at + turn_byte i) 0 ≡ get_or r (turn_byte i) 0)
          → Dec (i ≡ k) → get_or (wrote (set j (at + turn_byte k) (get_or r (turn_byte k) 0)) (writes_from r at (k + 1) m)) (at + turn_byte i) 0 ≡ get_or r (turn_byte i) 0
      here more (yes e) =
          subst⁻¹ (λ (x : ℕ). get_or (wrote (set j (at + turn_byte k) (get_or r (turn_byte k) 0)) (writes_from r at (k + 1) m)) (at + turn_byte x) 0 ≡ get_or r (turn_byte x) 0) e
          (wrote_other (set j (at + turn_byte k) (get_or r (turn_byte k) 0)) (k + 1) m (at + turn_byte k) (λ x y z q. omega arith)
          ∙ get_or-set_same j (at + turn_byte k) (get_or r (turn_byte k) 0) 0 (omega arith))
      here more (no e) = more (omega arith)

  -- a byte outside the slot, and the state byte until the last turn
  pub outside : (j : List ℕ) (m x : ℕ) → m ≤ 32 → (at ≤ x → x < at + 32 → ⊥) → get_or (wrote j (writes_from r at 0 m)) x 0 ≡ get_or j x 0
  unfolding turn_byte
  outside j m x h o = wrote_other j 0 m x (λ i a b e. o (omega arith) (omega arith))

  pub state_last : (j : List ℕ) (m : ℕ) → m < 32 → get_or (wrote j (writes_from r at 0 m)) (at + 15) 0 ≡ get_or j (at + 15) 0
  state_last j m h = wrote_other j 0 m (at + 15) (λ i a b e. last_turn i (omega arith) (omega arith))

  -- all of them: the record stands in its slot, and no other byte changes
  pub wrote_put : (j : List ℕ) → length r ≡ 32 → at + 32 ≤ length j → wrote j (record_writes r at) ≡ put j at r
  wrote_put j lr h =
      let fits : at + length r ≤ length j = omega arith in
      ext_get_or 0 (wrote j (record_writes r at)) (put j at r) (wrote-length j (record_writes r at) ∙ sym (length_put j r at fits)) (λ x l. byte fits x (dec_lt x at) (dec_lt x (at + 32)))
    where
      inside : (x : ℕ) → at ≤ x → x < at + 32 → get_or (wrote j (writes_from r at 0 32)) x 0 ≡ get_or r (x - at) 0
      inside x a b =
          let i : ℕ = turn_byte (x - at) in
          let q : at + (x - at) ≡ x = omega arith in
          subst (λ (y : ℕ). get_or (wrote j (writes_from r at 0 32)) y 0 ≡ get_or r (x - at) 0) q
          (subst (λ (y : ℕ). get_or (wrote j (writes_from r at 0 32)) (at + y) 0 ≡ get_or r y 0) (turn_back (x - at) (omega arith))
          (wrote_here j 0 32 i h (omega arith) (omega arith) (turn_below (x - at))))

      byte : at + length r ≤ length j → (x : ℕ) → Dec (x < at) → Dec (x < at + 32) → get_or (wrote j (record_writes r at)) x 0 ≡ get_or (put j at r) x 0
      byte fits x (yes a) b = outside j 32 x (omega arith) (λ p q. omega arith) ∙ sym (put_before j r at fits x a)
      byte fits x (no a) (no b) = outside j 32 x (omega arith) (λ p q. omega arith) ∙ sym (put_after j r at fits x (omega arith))
      byte fits x (no a) (yes b) =
          let q : at + (x - at) ≡ x = omega arith in
          inside x (omega arith) b ∙ sym (put_in j r at fits (x - at) (omega arith)) ∙ ap (λ (y : ℕ). get_or (put j at r) y 0) q
