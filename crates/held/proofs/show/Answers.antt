use native.Mathlib.Omega.{arith}
use mathlib.Core.Path.{refl}
use Rattle.held.proofs.Rule.{found_in, shows, shows_none}
use borrow.Author.Rules.{rules}
use Rattle.held.proofs.show.Goals as goal

pub overflow_add-result : goal.overflow_add-result
overflow_add-result c = let h = found_in _ _ _ _ c.find.ensures c.in-Ok.is in omega arith

pub returns-in-Ok : goal.returns-in-Ok
returns-in-Ok c =
    let w = c.find.ensures in
    let found = c.in-Ok.is in
    record {
      view = w.view;
      is = w.is;
      so = shows c.args.j _ _ _ _ w.so found (record { block = refl; place = search rules; bytes = refl });
    }

pub returns-in-Err : goal.returns-in-Err
returns-in-Err c =
    let w = c.find.ensures in
    record {
      view = w.view;
      is = w.is;
      so = shows_none _ _ _ _ _ w.so c.in-Err.is (record { block = refl; place = omega arith; bytes = refl });
    }

pub slice_bounds-result-end : goal.slice_bounds-result-end
slice_bounds-result-end c = found_in _ _ _ _ c.find.ensures c.in-Ok.is
