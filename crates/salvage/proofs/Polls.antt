-- The walks over the slots: votes, the serial that most agree with, the lowest held one.
use Prim.Native.Nat.{ℕ, zero, suc, ◌≤◌, ◌<◌, ◌+◌, ◌-◌}
use mathlib.Core.Path.{◌≡◌, refl, sym, ap, ◌∙◌, subst}
use mathlib.Core.Bool.{Bool, true, false, cond, ◌&&◌, ◌||◌}
use native.Mathlib.Omega.{arith}
use native.Mathlib.Numerals.{add-one}
use native.Mathlib.Decide.{dec_lt}
use borrow.Author.Count.{below_more}
use borrow.Author.Tests.{ltb-true, leb-true, lt-ltb, le-leb}
use lib.Dec.{eqb, ltb, leb}
use Rattle.text.proofs.Tests.{both_true}
use Rattle.salvage.proofs.Rule.{preferred_more, preferred_fewer, lower_none, lower_first, lower_new, lower_old}
use Rattle.salvage.specs.Whole.{agrees, votes, poll_of, preferred, leader, lower, lowest}
use Rattle.salvage.specs.declared.inner.Poll.{Poll}

-- ---- one turn of each walk

module _ (f : ℕ → ℕ) (n b : ℕ) where
  pub votes_none : 0 ≡ votes f n b 0
  unfolding votes
  votes_none = refl

  -- a slot agrees, or doesn't
  pub votes_yes : (m c d : ℕ) → agrees n b (f m) ≡ true → c ≡ votes f n b m → d ≡ c + 1 → d ≡ votes f n b (m + 1)
  unfolding votes
  votes_yes m c d e h g = rw (add-one, e) (omega (arith, h, g))

  pub votes_no : (m c d : ℕ) → agrees n b (f m) ≡ false → c ≡ votes f n b m → d ≡ c → d ≡ votes f n b (m + 1)
  unfolding votes
  votes_no m c d e h g = rw (add-one, e) (omega (arith, h, g))

module _ (f : ℕ → ℕ) (n b : ℕ) where
  pub lowest_none : 0 ≡ lowest f n b 0
  unfolding lowest
  lowest_none = refl

  pub lowest_more : (m x low : ℕ) → x ≡ cond (agrees n b (f m)) (f m) 0 → low ≡ lowest f n b m → lower low x ≡ lowest f n b (m + 1)
  unfolding lowest
  lowest_more m x low e h = rw add-one (λ i. lower (h i) (e i))

module _ (f : ℕ → ℕ) (n : ℕ) where
  pub leader_none : poll_of f n 0 ≡ leader f n 0
  unfolding leader
  leader_none = refl

  pub leader_more : (m : ℕ) (best : Poll) → best ≡ leader f n m → preferred best (poll_of f n (f m)) ≡ leader f n (m + 1)
  unfolding leader
  leader_more m best h = rw add-one (ap (λ (p : Poll). preferred p (poll_of f n (f m))) h)

-- ---- the walks look at the slots alone

pub votes-same : (f g : ℕ → ℕ) (n b m : ℕ) → ((k : ℕ) → k < m → f k ≡ g k) → votes f n b m ≡ votes g n b m
unfolding votes
votes-same f g n b zero same = refl
votes-same f g n b (suc m) same =
    let e = votes-same f g n b m (λ k h. same k (omega arith)) in
    let s = same m (omega arith) in
    λ i. e i + cond (agrees n b (s i)) 1 0

pub leader-same : (f g : ℕ → ℕ) (n m : ℕ) → m ≤ n → ((k : ℕ) → k < n → f k ≡ g k) → leader f n m ≡ leader g n m
unfolding leader
leader-same f g n zero h same = ap (λ (v : ℕ). record { serial = 0; votes = v }) (votes-same f g n 0 n same)
leader-same f g n (suc m) h same =
    let e = leader-same f g n m (omega arith) same in
    let s = same m (omega arith) in
    let v : votes f n (f m) n ≡ votes g n (g m) n = votes-same f g n (f m) n same ∙ ap (λ (b : ℕ). votes g n b n) s in
    λ i. preferred (e i) (record { serial = s i; votes = v i })

-- ---- who agrees

pub agrees_is : (n b s : ℕ) → agrees n b s ≡ true → (b - n < s) × (s ≤ b)
unfolding agrees
agrees_is n b s e = let p = both_true (ltb (b - n) s) (leb s b) e in (ltb-true (b - n) s p.0, leb-true s b p.1)

pub agrees-kept : (n b s : ℕ) → b - n < s → s ≤ b → agrees n b s ≡ true
unfolding agrees
agrees-kept n b s l h = simp (lt-ltb (b - n) s l, le-leb s b h)

-- where all who agree with c agree with b too, b has no fewer votes than c, and where it has no more they are the same
module _ (f : ℕ → ℕ) (n b c : ℕ) where
  vote_le : (x y : Bool) → (x ≡ true → y ≡ true) → cond {A = ℕ} x 1 0 ≤ cond {A = ℕ} y 1 0
  vote_le true y i = subst (λ (t : Bool). 1 ≤ cond {A = ℕ} t 1 0) (sym (i refl)) (omega arith)
  vote_le false y i = omega arith

  votes_le : (m : ℕ) → ((k : ℕ) → k < m → agrees n c (f k) ≡ true → agrees n b (f k) ≡ true) → votes f n c m ≤ votes f n b m
  unfolding votes
  votes_le zero all = omega arith
  votes_le (suc m) all =
      let l = votes_le m (λ k h. all k (omega arith)) in
      let v = vote_le (agrees n c (f m)) (agrees n b (f m)) (all m (omega arith)) in
      omega arith

  vote_given : (x y : Bool) → cond {A = ℕ} y 1 0 ≤ cond {A = ℕ} x 1 0 → y ≡ true → x ≡ true
  vote_given true y l e = refl
  vote_given false true l e = absurd (omega arith)
  vote_given false false l e = e

  pub votes_all : (m : ℕ) → ((k : ℕ) → k < m → agrees n c (f k) ≡ true → agrees n b (f k) ≡ true) → votes f n b m ≤ votes f n c m
      → (k : ℕ) → k < m → agrees n b (f k) ≡ true → agrees n c (f k) ≡ true
  unfolding votes
  votes_all zero all h k l = absurd (omega arith)
  votes_all (suc m) all h k l =
      let below : (k : ℕ) → k < m → agrees n c (f k) ≡ true → agrees n b (f k) ≡ true = λ k l. all k (omega arith) in
      let v = vote_le (agrees n c (f m)) (agrees n b (f m)) (all m (omega arith)) in
      let w = votes_le m below in
      below_more (λ (k : ℕ). agrees n b (f k) ≡ true → agrees n c (f k) ≡ true) m
      (votes_all m below (omega arith))
      (vote_given (agrees n c (f m)) (agrees n b (f m)) (omega arith)) k (subst (λ (x : ℕ). k < x) (sym (add-one m)) l)

-- ---- the serial that most agree with

either : {A : Type 0} (P : A → Type 0) (t : Bool) (x y : A) → P x → P y → P (cond t x y)
either P true x y p q = p
either P false x y p q = q

-- the preferred one is one of the two, and has no fewer votes than either
preferred_one : (P : Poll → Type 0) (a c : Poll) → P a → P c → P (preferred a c)
unfolding preferred
preferred_one P a c p q = either P (ltb a.votes c.votes || (eqb a.votes c.votes && ltb a.serial c.serial)) c a q p

preferred_most : (a c : Poll) → (a.votes ≤ (preferred a c).votes) × (c.votes ≤ (preferred a c).votes)
preferred_most a c = go (dec_lt a.votes c.votes) (dec_lt c.votes a.votes)
  where
    go : Dec (a.votes < c.votes) → Dec (c.votes < a.votes) → (a.votes ≤ (preferred a c).votes) × (c.votes ≤ (preferred a c).votes)
    go (yes l) d = subst (λ (p : Poll). (a.votes ≤ p.votes) × (c.votes ≤ p.votes)) (preferred_more a c l) (omega arith, omega arith)
    go (no l) (yes g) = subst (λ (p : Poll). (a.votes ≤ p.votes) × (c.votes ≤ p.votes)) (preferred_fewer a c g) (omega arith, omega arith)
    go (no l) (no g) = preferred_one (λ (p : Poll). (a.votes ≤ p.votes) × (c.votes ≤ p.votes)) a c (omega arith, omega arith) (omega arith, omega arith)

module _ (f : ℕ → ℕ) (n : ℕ) where
  -- it is 0, or the serial of a slot
  pub leader_among : (P : ℕ → Type 0) (m : ℕ) → P 0 → ((k : ℕ) → k < m → P (f k)) → P (leader f n m).serial
  unfolding leader
  leader_among P zero none each = none
  leader_among P (suc m) none each =
      preferred_one (λ (p : Poll). P p.serial) (leader f n m) (poll_of f n (f m)) (leader_among P m none (λ k h. each k (omega arith))) (each m (omega arith))

  pub leader_votes : (m : ℕ) → (leader f n m).votes ≡ votes f n (leader f n m).serial n
  unfolding leader
  leader_votes zero = refl
  leader_votes (suc m) =
      preferred_one (λ (p : Poll). p.votes ≡ votes f n p.serial n) (leader f n m) (poll_of f n (f m)) (leader_votes m) refl

  -- no slot's serial has more votes
  pub leader_most : (m k : ℕ) → k < m → votes f n (f k) n ≤ (leader f n m).votes
  unfolding leader
  leader_most zero k h = absurd (omega arith)
  leader_most (suc m) k h =
      let p = preferred_most (leader f n m) (poll_of f n (f m)) in
      below_more (λ (k : ℕ). votes f n (f k) n ≤ (preferred (leader f n m) (poll_of f n (f m))).votes) m
      (λ i l. omega (arith, leader_most m i l, p.0))
      p.1 k (subst (λ (x : ℕ). k < x) (sym (add-one m)) h)

-- ---- the lowest held serial

lower_one : (P : ℕ → Type 0) (a c : ℕ) → P a → P c → P (lower a c)
lower_one P a c p q = either P (eqb c 0) a (cond (eqb a 0 || ltb c a) c a) p (either P (eqb a 0 || ltb c a) c a q p)

module _ (g : ℕ → ℕ) (n b : ℕ) where
  -- it is 0, or a serial that agrees
  pub lowest_among : (P : ℕ → Type 0) (m : ℕ) → P 0 → ((k : ℕ) → k < m → agrees n b (g k) ≡ true → P (g k)) → P (lowest g n b m)
  unfolding lowest
  lowest_among P zero none each = none
  lowest_among P (suc m) none each =
      let low = lowest_among P m none (λ k h. each k (omega arith)) in
      let here : P (cond (agrees n b (g m)) (g m) 0) = go (agrees n b (g m)) refl in
      lower_one P (lowest g n b m) (cond (agrees n b (g m)) (g m) 0) low here
    where
      go : (t : Bool) → agrees n b (g m) ≡ t → P (cond t (g m) 0)
      go true e = each m (omega arith) e
      go false e = none

  lower_le : (a c : ℕ) → (0 < a → (0 < lower a c) × (lower a c ≤ a)) × (0 < c → (0 < lower a c) × (lower a c ≤ c))
  lower_le a c = go (dec_lt 0 a) (dec_lt 0 c) (dec_lt c a)
    where
      go : Dec (0 < a) → Dec (0 < c) → Dec (c < a)
          → (0 < a → (0 < lower a c) × (lower a c ≤ a)) × (0 < c → (0 < lower a c) × (lower a c ≤ c))
      go (no p) (no q) d = ((λ h. absurd (omega arith)), λ h. absurd (omega arith))
      go (yes p) (no q) d = let e = lower_none a c (omega arith) in ((λ h. (omega arith, omega arith)), λ h. absurd (omega arith))
      go (no p) (yes q) d = let e = lower_first a c (λ z. omega arith) (omega arith) in ((λ h. absurd (omega arith)), λ h. (omega arith, omega arith))
      go (yes p) (yes q) (yes l) =
          let e = lower_new a c (λ z. omega arith) (λ z. omega arith) l in
          ((λ h. (omega arith, omega arith)), λ h. (omega arith, omega arith))
      go (yes p) (yes q) (no l) =
          let e = lower_old a c (λ z. omega arith) (λ z. omega arith) (omega arith) in
          ((λ h. (omega arith, omega arith)), λ h. (omega arith, omega arith))

  -- no serial that agrees is lower
  pub lowest_le : (m k : ℕ) → k < m → agrees n b (g k) ≡ true → (0 < lowest g n b m) × (lowest g n b m ≤ g k)
  unfolding lowest
  lowest_le zero k h e = absurd (omega arith)
  lowest_le (suc m) k h e =
      let low : ℕ = lower (lowest g n b m) (cond (agrees n b (g m)) (g m) 0) in
      let w = lower_le (lowest g n b m) (cond (agrees n b (g m)) (g m) 0) in
      below_more (λ (k : ℕ). agrees n b (g k) ≡ true → (0 < low) × (low ≤ g k)) m
      (λ i l a. let v = lowest_le m i l a in let u = w.0 v.0 in (u.0, omega (arith, u.1, v.1)))
      (λ a.
      let s = agrees_is n b (g m) a in
      let q : cond (agrees n b (g m)) (g m) 0 ≡ g m = ap (λ (t : Bool). cond t (g m) 0) a in
      let u = w.1 (omega (arith, s.0)) in
      (u.0, omega (arith, u.1))) k (subst (λ (x : ℕ). k < x) (sym (add-one m)) h) e
