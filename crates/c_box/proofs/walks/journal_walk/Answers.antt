use Rattle.std.proofs.Common.{Some, None, refl}
use Rattle.walker.proofs.Steps.{walk_bad, walk-given}
use Rattle.hands.proofs.Handed.{gave, kept}
use Rattle.c_box.proofs.walks.journal_walk.Goals as goal

pub first_above-s-requires : goal.first_above-s-requires
first_above-s-requires c = c.in-Some.ensures

pub place_or_zero-requires : goal.place_or_zero-requires
place_or_zero-requires c = (c.in-Some.ensures.least, c.in-Some.ensures.most)

pub returns-in-None : goal.returns-in-None
returns-in-None c =
    let a = c.args in
    record { view = None; is = c.in-None.ensures; so = kept _ _ _ _ _ refl (walk_bad a.journal.now a.above) }

pub returns-in-Some : goal.returns-in-Some
returns-in-Some c =
    let a = c.args in
    record {
      view = Some _;
      is = c.in-Some.ensures;
      so = gave _ _ _ _ (walk-given a.journal.now _ a.above _ _ c.first_above-s.ensures c.place_or_zero.ensures);
    }
