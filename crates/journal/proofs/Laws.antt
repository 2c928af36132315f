-- Each promise determines its outcome: any two answers that it allows are equal, and so are the bytes.
use Prim.Native.Nat.{ℕ}
use mathlib.Core.Path.{◌≡◌, sym, ◌∙◌}
use mathlib.Core.List.{List}
use Rattle.std.proofs.Common.{Result}
use Rattle.reasons.specs.declared.Reason.{Reason}
use Rattle.reasons.proofs.Laws.{said_one}
use Rattle.slots.proofs.Views.{one_view}
use Rattle.journal.specs.declared.Released.{Released}
use Rattle.journal.specs.Rules.{Books, Releases}

pub one_booking : (j pan : List ℕ) (label amount clock : ℕ) (r q : Result ℕ Reason) (k l : List ℕ)
    → Books j pan label amount clock r k → Books j pan label amount clock q l → (r ≡ q) × (k ≡ l)
one_booking j pan label amount clock r q k l a b =
    let w = one_view j a b in
    (said_one r q (w.1.0 ∙ sym w.2.0), w.1.1 ∙ sym w.2.1)

pub one_release : (j : List ℕ) (s : ℕ) (r q : Result Released Reason) (k l : List ℕ) → Releases j s r k → Releases j s q l → (r ≡ q) × (k ≡ l)
one_release j s r q k l a b =
    let w = one_view j a b in
    (said_one r q (w.1.0 ∙ sym w.2.0), w.1.1 ∙ sym w.2.1)
