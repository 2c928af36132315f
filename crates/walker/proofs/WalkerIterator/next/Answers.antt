use Rattle.std.proofs.Common.{◌≡◌, ◌-◌, ◌∷◌, length, refl, sym, ap, ◌∙◌, arith}
use borrow.Author.Tests.{eqb-true, eq-eqb}
use Rattle.slots.proofs.Ranges.{differ}
use Rattle.walker.specs.Walk.{on_from, to_come}
use Rattle.walker.proofs.ToCome.{on_none, on_step, shown_none, shown_held}
use Rattle.walker.proofs.WalkerIterator.next.Goals as goal
use Rattle.walker.proofs.WalkerIterator.next.Goals.{After-next_of-self}

one_less : (c : After-next_of-self) → to_come c.args.self.now ≡ c.held_at-given.result.now ∷ to_come (record { journal = c.args.self.now.journal; next = c.next_of-self.result })
one_less c =
    let w = c.args.self.now in
    let p = shown_held w.journal c.held_at-given.result w.next _ c.held_at-given.ensures refl (λ z. differ _ c.if-is_empty.false (c.is_empty.ensures ∙ eq-eqb _ 0 z)) in
    on_step w.journal.now w.next (omega arith) p.0 ∙ (λ i. p.1 i ∷ on_from w.journal.now (sym c.next_of-self.ensures i) (4294967296 - sym c.next_of-self.ensures i))

pub returns-then-is_empty-clause-steps : goal.returns-then-is_empty-clause-steps
returns-then-is_empty-clause-steps c =
    let w = c.args.self.now in
    let h = shown_none w.journal c.held_at-given.result w.next _ c.held_at-given.ensures refl (eqb-true _ 0 (sym c.is_empty.ensures ∙ c.if-is_empty.true)) in
    (on_none _ _ _ h, on_none _ _ _ h)

pub returns-clause-steps : goal.returns-clause-steps
returns-clause-steps c = one_less (goal.at.returns-clause-steps c).After-next_of-self

pub returns-clause-goes : goal.returns-clause-goes
returns-clause-goes c =
    let e = ap length (one_less (goal.at.returns-clause-goes c).After-next_of-self) in
    record { on = λ _. (tt, tt, omega arith); keeps = tt; rests = λ _. tt }
