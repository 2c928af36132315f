use Rattle.walker.proofs.Steps.{none_above, first_is}
use Rattle.walker.proofs.inner.first_above.Goals as goal

pub returns-then-b-s : goal.returns-then-b-s
returns-then-b-s c =
    let a = c.args in
    none_above a.j.now a.b a.s c.if-b-s.true

pub returns : goal.returns
returns c =
    let a = c.args in
    first_is a.j.now a.b a.s _ _ _ c.floor_of.ensures c.higher-low.ensures c.tally-t.ensures
