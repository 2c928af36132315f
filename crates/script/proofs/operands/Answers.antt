use mathlib.Core.Path.{◌≡◌, sym, ◌∙◌}
use borrow.Author.Rules.{rules}
use Rattle.std.specs.Prelude.{count_by}
use Rattle.script.specs.Words.{is_space}
use Rattle.script.proofs.Words.{spaces_count}
use Rattle.script.proofs.operands.Goals as goal

pub returns : goal.returns
returns c =
    let e : c.count.result ≡ count_by is_space c.args.line.now = search rules in
    e ∙ sym (spaces_count c.args.line.now)
