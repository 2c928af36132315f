use Rattle.salvage.proofs.inner.poll_of.Goals as goal

pub returns : goal.returns
returns c = λ i. record { serial = c.args.b; votes = c.votes.ensures i }
