use Rattle.std.proofs.Common.{◌∙◌}
use Rattle.layout.specs.Layout.{is_named}
use Rattle.layout.proofs.Steps.{all_every}
use Rattle.layout.proofs.Track.allows.Goals as goal

pub returns-in-One : goal.returns-in-One
returns-in-One c = rw c.in-One.is (c.all_named.ensures ∙ all_every is_named c.args.bytes.now)
