-- `word`: the word that starts where word k does.
use mathlib.Core.Path.{ap, ◌∙◌}
use Rattle.script.specs.Words.{first_word}
use Rattle.script.proofs.word.Goals as goal

pub returns : goal.returns
returns c = c.word_at.ensures.0 ∙ ap first_word c.start_of.ensures.1
