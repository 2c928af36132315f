use Rattle.walker.proofs.Steps.{place_there}
use Rattle.walker.proofs.inner.place_or_zero.Goals as goal

pub returns : goal.returns
returns c =
    let a = c.args in
    place_there a.j.now a.s _ c.if-s-eq0.false c.place_of.ensures.0
