use mathlib.Core.Path.{◌∙◌}
use Rattle.std.proofs.Common.{rules, tests}
use Rattle.std.proofs.lemmas.Iterator.{YieldsList-from_slice}
use Rattle.std.proofs.lemmas.Iterator.Search.{all_from_yields_List}
use Rattle.countries.specs.Countries.{kind_fits}
use Rattle.countries.proofs.Fits.{every_all}
use Rattle.countries.proofs.all_fit.Goals as goal

pub returns : goal.returns
returns c =
    all_from_yields_List (kind_fits c.args.kind) _ _ _ c.all.ensures.ran (YieldsList-from_slice c.args.s.now cc) (λ x b q k. search (rules, tests))
    ∙ every_all (kind_fits c.args.kind) c.args.s.now
