use native.Mathlib.Omega.{arith}
use lib.ListN.{length}
use Rattle.bits.specs.Reading.{read_rule}
use Rattle.track2.specs.Track2.{track2}
use Rattle.c_stripe.proofs.Readings.{few, read_so}
use Rattle.c_stripe.proofs.track2_read.Goals as goal

pub hand_over-requires : goal.hand_over-requires
hand_over-requires c =
    let a = c.args in
    omega (arith, few track2 a.stream.now a.bits (length a.out.now) c.read.result c.read.ensures.0)

pub returns : goal.returns
returns c =
    let a = c.args in
    let o = read_rule track2 a.stream.now a.bits (length a.out.now) in
    (read_so o c.read.result _ _ _ c.read.ensures.0 c.hand_over.ensures, c.read.ensures.1)
