-- What a call of the library hands over to C: a number, and what stands behind the pointers. Of each function of the C interface `Calls` says what
-- it allows. Of its arguments come first those that come in; then x, what stood behind its pointers to numbers; r, the number answered; y, what
-- stands behind them now; and last the bytes that it may write.
use Rattle.std.specs.Prelude.{ℕ, ◌≡◌}
use Rattle.reasons.specs.Reasons.{Outcome, after, number_in}

-- C is answered r by a call that says o: 0, or the number of the refusal
abbrev pub Answers : {A : Type 0} → Outcome A → ℕ → Type 0
Answers o r = r ≡ number_in o

-- and y stands where `old` stood: what `new` makes of the value given, and on a refusal `old` itself
pub record Hands {A B : Type 0} (o : Outcome A) (old : B) (new : A → B) (r : ℕ) (y : B) : Type 0 where
  pub number : Answers o r
  pub behind : y ≡ after o old new

-- the same of some answer that the library's call allows (it is the only one: the crate's own law says so)
pub record HandsOn {Q A B : Type 0} (Allows : Q → Type 0) (said : Q → Outcome A) (old : B) (new : A → B) (r : ℕ) (y : B) : Type 0 where
  pub answer : Q
  pub allowed : Allows answer
  pub handed : Hands (said answer) old new r y
