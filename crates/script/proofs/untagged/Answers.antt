-- `untagged`: the line after its first word, or as it is.
use Rattle.script.proofs.Typed.{tagged, not_tagged}
use Rattle.script.specs.Words.{is_tag}
use mathlib.Core.Path.{◌∙◌, sym, ap}
use Rattle.script.proofs.untagged.Goals as goal

pub returns-then-is_tag : goal.returns-then-is_tag
returns-then-is_tag c = c.from_word.ensures ∙ tagged c.args.line.now (ap is_tag (sym c.word.ensures) ∙ sym c.is_tag.ensures ∙ c.if-is_tag.true)

pub returns : goal.returns
returns c = not_tagged c.args.line.now (ap is_tag (sym c.word.ensures) ∙ sym c.is_tag.ensures ∙ c.if-is_tag.false)
