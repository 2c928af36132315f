-- The laws of `demand` and of the numbers, which every rule uses.
use mathlib.Core.Path.{◌≡◌, refl, sym, ap, ◌∙◌, subst⁻¹}
use mathlib.Core.Bool.{Bool, true, false}
use mathlib.Core.Logic.{◌⊎◌, ◌↔◌, inl, inr, ⊎_elim}
use Prim.Native.Nat.{ℕ}
use native.Mathlib.Omega.{arith}
use mathlib.Core.List.{List, [], ◌∷◌}
use lib.ListN.{get_or}
use Rattle.std.specs.Prelude.{Result, Ok, Err}
use Rattle.std.specs.Borrow.{Bor}
use Rattle.text.specs.Bytes.{bytes_of}
use Rattle.reasons.specs.Reasons.{number_of, words_of, Outcome, gives, refuses, demand, after, number_in, and_then, said}
use Rattle.reasons.specs.declared.Reason.{Reason}
use Rattle.reasons.specs.declared.Reason.TheVariants.{ShortOutput, BadCount, BadByte, WrongCheck, UnknownCountry, WrongLayout, BadBitCount}
use Rattle.reasons.specs.declared.Reason.TheVariants.{NoStart, CutShort, WrongParity, LongTrack, WrongLrc, MarksAfter, BadTable}
use Rattle.reasons.specs.declared.Reason.TheVariants.{NoRange, BadJournal, ZeroAmount, JournalFull, SerialsUsedUp, NoSerial}
use Rattle.reasons.specs.declared.Reason.TheVariants.{BadHotList, ListedCard, BadDate, ExpiredCard}

-- a value is not a refusal
pub gives_refuses : {A B : Type 0} (v : A) (n : ℕ) → ◌≡◌ {A = Outcome A} (gives v) (refuses n) → B
gives_refuses v n e = let z : ◌≡◌ {A = ℕ} 0 1 = cc in absurd (omega arith)

-- ---- "Each is given exactly when its condition is the first to hold in the order stated for that call"

-- the first condition to hold has number n: this one, tested by t, whose number is k; or this one doesn't hold, and Rest says where n comes from
abbrev pub First : Bool → ℕ → ℕ → Type 0 → Type 0
First t k n Rest = ((t ≡ false) × (n ≡ k)) ⊎ ((t ≡ true) × Rest)

-- the same of one call after another: the first refuses n; or it gives a value, and Rest says with that where n comes from
abbrev pub Either : {A : Type 0} → Outcome A → ℕ → (A → Type 0) → Type 0
Either {A = A} o n Rest = (o ≡ refuses n) ⊎ ((v : A) × (o ≡ gives v) × Rest v)

-- a value is no refusal: here a chain ends
pub never : {A : Type 0} (v : A) (n : ℕ) → (◌≡◌ {A = Outcome A} (gives v) (refuses n)) ↔ ⊥
never v n = (gives_refuses v n, λ z. absurd z)

module _ {A : Type 0} (t : Bool) (n : ℕ) (o : Outcome A) where
  -- a value is given exactly where this condition doesn't hold, nor any further on,
  pub passed : (v : A) → demand t n o ≡ gives v → (t ≡ true) × (o ≡ gives v)
  passed v e = by t e
    where
      by : (b : Bool) → demand b n o ≡ gives v → (b ≡ true) × (o ≡ gives v)
      by true e = (refl, e)
      by false e = gives_refuses v n (sym e)

  pub passes_on : t ≡ true → demand t n o ≡ o
  passes_on h = ap (λ (b : Bool). demand b n o) h

  -- and a refusal exactly where its condition holds here, or, this one not, further on
  pub stopped : (m : ℕ) → demand t n o ≡ refuses m → First t n m (o ≡ refuses m)
  stopped m e = by t e
    where
      by : (b : Bool) → demand b n o ≡ refuses m → First b n m (o ≡ refuses m)
      by true e = inr (refl, e)
      by false e = inl (refl, cc)

  pub stops : t ≡ false → demand t n o ≡ refuses n
  stops h = ap (λ (b : Bool). demand b n o) h

  -- both ways round, in one statement each
  pub gives_exactly : (v : A) → (demand t n o ≡ gives v) ↔ ((t ≡ true) × (o ≡ gives v))
  gives_exactly v = (passed v, λ h. passes_on h.0 ∙ h.1)

  -- a chain is told link by link: where it is known what it means that the rest refuses m, it is known of the whole
  pub refuses_exactly : {Rest : Type 0} (m : ℕ) → (o ≡ refuses m) ↔ Rest → (demand t n o ≡ refuses m) ↔ First t n m Rest
  refuses_exactly m r = (
    λ e. ⊎_elim (λ h. inl h) (λ h. inr (h.0, r.0 h.1)) (stopped m e),
    ⊎_elim (λ h. stops h.0 ∙ ap {B = Outcome A} refuses (sym h.1)) (λ h. passes_on h.0 ∙ r.1 h.1),
  )

in_order : List Reason
in_order =
    ShortOutput ∷ BadCount ∷ BadByte ∷ WrongCheck ∷ UnknownCountry
    ∷ WrongLayout ∷ BadBitCount ∷ NoStart ∷ CutShort ∷ WrongParity
    ∷ LongTrack ∷ WrongLrc ∷ MarksAfter ∷ BadTable ∷ NoRange
    ∷ BadJournal ∷ ZeroAmount ∷ JournalFull ∷ SerialsUsedUp ∷ NoSerial
    ∷ BadHotList ∷ ListedCard ∷ BadDate ∷ ExpiredCard
    ∷ []

-- the reason of a number
reason_of : ℕ → Reason
reason_of n = get_or (ShortOutput ∷ in_order) n ShortOutput

back : (r : Reason) → reason_of (number_of r) ≡ r
unfolding reason_of in_order
back ShortOutput = refl
back BadCount = refl
back BadByte = refl
back WrongCheck = refl
back UnknownCountry = refl
back WrongLayout = refl
back BadBitCount = refl
back NoStart = refl
back CutShort = refl
back WrongParity = refl
back LongTrack = refl
back WrongLrc = refl
back MarksAfter = refl
back BadTable = refl
back NoRange = refl
back BadJournal = refl
back ZeroAmount = refl
back JournalFull = refl
back SerialsUsedUp = refl
back NoSerial = refl
back BadHotList = refl
back ListedCard = refl
back BadDate = refl
back ExpiredCard = refl

-- equal refusals, equal numbers
pub refused_number : {A : Type 0} (m n : ℕ) → ◌≡◌ {A = Outcome A} (refuses m) (refuses n) → m ≡ n
refused_number m n e = cc

-- equal numbers, equal reasons
pub number_of_one : (r q : Reason) → number_of r ≡ number_of q → r ≡ q
number_of_one r q e = sym (back r) ∙ ap reason_of e ∙ back q

-- equal refusals, equal reasons
pub refuses_one : {A : Type 0} (a b : Reason) → ◌≡◌ {A = Outcome A} (refuses (number_of a)) (refuses (number_of b)) → a ≡ b
refuses_one a b e = number_of_one a b (refused_number (number_of a) (number_of b) e)

-- what is said tells the answer
pub said_one : {A : Type 0} (r q : Result A Reason) → said r ≡ said q → r ≡ q
said_one (Ok x) (Ok y) e = let n : x ≡ y = cc in ap Ok n
said_one (Ok x) (Err b) e = gives_refuses x (number_of b) e
said_one (Err a) (Ok y) e = gives_refuses y (number_of a) (sym e)
said_one (Err a) (Err b) e = ap Err (refuses_one a b e)

-- what is not given is refused, with some number
pub refused : (o : Outcome (Unit {0})) → (o ≡ gives tt → ⊥) → (n : ℕ) × (o ≡ refuses n)
refused (gives tt) h = absurd (h refl)
refused (refuses n) h = (n, refl)

-- "A refusal ... changes no lent byte"
pub after_refusal : {A B : Type 0} (o : Outcome A) (old : B) (new : A → B) (n : ℕ) → o ≡ refuses n → after o old new ≡ old
after_refusal o old new n e = ap (λ (p : Outcome _). after p old new) e

-- one call after another gives a value exactly where the first does and the second, with that, does too;
pub went_on : {A B : Type 0} (o : Outcome A) (f : A → Outcome B) (w : B) → and_then o f ≡ gives w → (v : A) × (o ≡ gives v) × (f v ≡ gives w)
went_on (gives v) f w e = (v, refl, e)
went_on (refuses n) f w e = gives_refuses w n (sym e)

pub went_wrong : {A B : Type 0} (o : Outcome A) (f : A → Outcome B) (n : ℕ) → and_then o f ≡ refuses n → Either o n (λ v. f v ≡ refuses n)
went_wrong (gives v) f n e = inr (v, refl, e)
went_wrong (refuses m) f n e = inl (ap {B = Outcome _} refuses (refused_number m n e))

module _ {A B : Type 0} (o : Outcome A) (f : A → Outcome B) where
  goes_on : (p : Outcome A) (q : Outcome B) → o ≡ p → and_then p f ≡ q → and_then o f ≡ q
  goes_on p q e h = ap (λ (x : Outcome A). and_then x f) e ∙ h

  pub goes_on_exactly : (w : B) → (and_then o f ≡ gives w) ↔ ((v : A) × (o ≡ gives v) × (f v ≡ gives w))
  goes_on_exactly w = (went_on o f w, λ h. goes_on (gives h.0) (gives w) h.1 h.2)

  -- and it refuses n exactly where the first refuses n, which may be known in other words, or gives a value with which the second refuses n
  pub either_where : {Here : Type 0} {Rest : A → Type 0} (n : ℕ) → (o ≡ refuses n) ↔ Here → ((v : A) → (f v ≡ refuses n) ↔ Rest v)
      → (and_then o f ≡ refuses n) ↔ (Here ⊎ ((v : A) × (o ≡ gives v) × Rest v))
  either_where n p r = (
    λ e. ⊎_elim (λ h. inl (p.0 h)) (λ h. inr (h.0, h.1, (r h.0).0 h.2)) (went_wrong o f n e),
    ⊎_elim (λ h. goes_on (refuses n) (refuses n) (p.1 h) refl) (λ h. goes_on (gives h.0) (refuses n) h.1 ((r h.0).1 h.2)),
  )

  pub either_exactly : {Rest : A → Type 0} (n : ℕ) → ((v : A) → (f v ≡ refuses n) ↔ Rest v) → (and_then o f ≡ refuses n) ↔ Either o n Rest
  either_exactly n r = either_where n (λ h. h, λ h. h) r

-- what follows a chain stands behind its last link, so that such a chain is told link by link too
follows : {A B : Type 0} (t : Bool) (n : ℕ) (o : Outcome A) (f : A → Outcome B) → and_then (demand t n o) f ≡ demand t n (and_then o f)
follows true n o f = refl
follows false n o f = refl

pub follows_exactly : {A B Rest : Type 0} (t : Bool) (n : ℕ) (o : Outcome A) (f : A → Outcome B) (m : ℕ) → (and_then o f ≡ refuses m) ↔ Rest
    → (and_then (demand t n o) f ≡ refuses m) ↔ First t n m Rest
follows_exactly {B = B} {Rest = Rest} t n o f m r =
    subst⁻¹ (λ (q : Outcome B). (q ≡ refuses m) ↔ First t n m Rest) (follows t n o f) (refuses_exactly t n (and_then o f) m r)

-- a call that only makes something of another's value refuses exactly where the other does
pub made_of : {A B : Type 0} (o : Outcome A) (f : A → B) (n : ℕ) → (and_then o (λ v. gives (f v)) ≡ refuses n) ↔ (o ≡ refuses n)
made_of (gives v) f n = (λ e. gives_refuses (f v) n e, λ e. gives_refuses v n e)
made_of (refuses m) f n = (λ e. ap {B = Outcome _} refuses (refused_number m n e), λ e. ap {B = Outcome _} refuses (refused_number m n e))

-- ---- each call has one outcome

pub number_one : (r : Reason) (x y : ℕ) → x ≡ number_of r → y ≡ number_of r → x ≡ y
number_one r x y a b = a ∙ sym b

pub tested_number_one : (t : Result (Unit {0}) Reason) (x y : ℕ) → x ≡ number_in (said t) → y ≡ number_in (said t) → x ≡ y
tested_number_one t x y a b = a ∙ sym b

pub words_one : (r : Reason) (w v : Bor (List ℕ)) → w.now ≡ bytes_of (words_of r) → v.now ≡ bytes_of (words_of r) → w.now ≡ v.now
words_one r w v a b = a ∙ sym b
