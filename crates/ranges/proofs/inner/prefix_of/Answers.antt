-- `prefix_of` reads eight digits.
use native.Mathlib.Omega.{arith}
use lib.ListN.{length-take}
use Rattle.ranges.proofs.Steps.{front_digits, prefix_bound}
use Rattle.ranges.proofs.inner.prefix_of.Goals as goal

pub decimal-requires-clause-s_len_bound : goal.decimal-requires-clause-s_len_bound
decimal-requires-clause-s_len_bound c = simp length-take (omega arith)

pub decimal-requires-clause-s_value : goal.decimal-requires-clause-s_value
decimal-requires-clause-s_value c = front_digits 8 c.args.pan.now c.requires.1

pub overflow_cast-result : goal.overflow_cast-result
overflow_cast-result c = omega (arith, prefix_bound c.args.pan.now c.requires.0 c.requires.1)
