-- How the code's table keeps a row: with three runs, those that the paper's row doesn't have being empty.
use Rattle.std.specs.Prelude.{List, [], ◌∷◌, ◌++◌, take}
use Rattle.countries.specs.Countries.{◌n}
use Rattle.countries.specs.declared.Run.{Run}
use Rattle.countries.specs.declared.Row.{Row}

abbrev pub three : List Run → List Run
three runs = take 3 (runs ++ 0 n ∷ 0 n ∷ 0 n ∷ [])

abbrev pub stored : Row → Row
stored r = record { country = r.country; runs = three r.runs }
