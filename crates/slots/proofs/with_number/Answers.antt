use mathlib.Core.Path.{ap, ◌∙◌}
use Rattle.text.specs.Numbers.{put}
use Rattle.slots.proofs.with_number.Goals as goal

pub returns : goal.returns
returns c = c.put_at.ensures ∙ ap (put c.args.r c.args.at) c.le32_of-bytes.ensures
