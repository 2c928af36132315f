use Rattle.exchange.proofs.Turned.{of_zero, of_another}
use Rattle.exchange.proofs.Host.has_answered.Goals as goal

pub returns-then-serial-eq0 : goal.returns-then-serial-eq0
returns-then-serial-eq0 c = of_zero c.args.serial c.args.self.now.zero c.args.self.now.ledger.taken c.if-serial-eq0.true

pub returns : goal.returns
returns c = of_another _ c.args.self.now.zero _ c.if-serial-eq0.false
