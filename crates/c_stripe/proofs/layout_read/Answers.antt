use Prim.Native.Nat.{◌≤◌, ◌<◌}
use mathlib.Core.Path.{sym}
use native.Mathlib.Omega.{arith}
use Rattle.layout.proofs.Laws.{places_small}
use Rattle.c_stripe.specs.Values.{start_of}
use Rattle.hands.proofs.Handed.{gave, kept}
use Rattle.c_stripe.proofs.Readings.{start_is}
use Rattle.c_stripe.proofs.layout_read.Goals as goal
use Rattle.c_stripe.proofs.layout_read.Goals.{In-Ok}

-- where the parts of a division are, in few bytes
small : (c : In-Ok) → (c.in-Ok.d.pan ≤ 19) × (start_of c.in-Ok.d.expiry < 100) × (start_of c.in-Ok.d.service < 100) × (c.in-Ok.d.rest ≤ 27)
small c =
    let d = c.in-Ok.d in
    let h = places_small c.args.chars.now d (sym c.in-Ok.ensures) in
    (h.0, omega (arith, h, start_is d.expiry 4), omega (arith, h, start_is d.service 3), h.3)

pub overflow_cast-pan : goal.overflow_cast-pan
overflow_cast-pan c = omega (arith, small (goal.at.overflow_cast-pan c).In-Ok)

pub place-requires : goal.place-requires
place-requires c = (small (goal.at.place-requires c).In-Ok).1

pub place-requires-in-Ok : goal.place-requires-in-Ok
place-requires-in-Ok c = (small (goal.at.place-requires-in-Ok c).In-Ok).2

pub overflow_cast-rest : goal.overflow_cast-rest
overflow_cast-rest c = omega (arith, small (goal.at.overflow_cast-rest c).In-Ok)

pub returns-in-Ok : goal.returns-in-Ok
returns-in-Ok c = rw (c.place.ensures, c.place-in-Ok.ensures) (gave _ _ _ c.in-Ok.d c.in-Ok.ensures)

pub returns-in-Err : goal.returns-in-Err
returns-in-Err c = kept _ _ _ _ _ c.number.ensures c.in-Err.ensures
