use native.Mathlib.Omega.{arith}
use Rattle.text.specs.Bytes.{is_digit, all_digits}
use Rattle.text.proofs.Every.{end_on}
use Rattle.text.proofs.all_digits.Goals as goal

pub returns : goal.returns
returns c =
    let l = c.loop-b in
    let s = c.args.s.now in
    end_on is_digit s l.b-index l.digits (all_digits s) (omega arith) l.invariant
