-- `fits_runs`: what is left of the body fits what is left of the runs exactly where the whole fits them all.
use mathlib.Core.Path.{◌≡◌}
use lib.ListN.{drop}
use Rattle.countries.specs.Countries.{kinds_of, fits}
use Rattle.countries.proofs.fits_runs.Given as goal

abbrev pub invariant-loop-run : goal.invariant-loop-run
invariant-loop-run l = fits (kinds_of (drop l.run-index l.runs)) l.rest ≡ fits (kinds_of l.runs) l.body
