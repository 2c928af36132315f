use native.Mathlib.Omega.{arith}
use Rattle.text.proofs.Every.{end_on}
use Rattle.creditor.specs.Creditor.{is_plain, all_plain}
use Rattle.creditor.proofs.all_plain.Goals as goal

pub returns : goal.returns
returns c =
    let l = c.loop-b in
    let s = c.args.s.now in
    end_on is_plain s l.b-index l.plain (all_plain s) (omega arith) l.invariant
