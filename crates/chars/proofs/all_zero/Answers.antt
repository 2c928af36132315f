use Rattle.chars.proofs.Walks.{zeros_told}
use Rattle.chars.proofs.all_zero.Goals as goal

pub returns : goal.returns
returns c = zeros_told c.args.s.now c.args.from c.first_one.result c.first_one.ensures.0 c.first_one.ensures.1
