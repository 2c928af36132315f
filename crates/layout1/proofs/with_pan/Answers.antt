use mathlib.Core.Path.{◌≡◌, sym, ap, ◌∙◌}
use Prim.Native.Nat.{◌+◌}
use native.Mathlib.Omega.{arith}
use Rattle.std.specs.List.{prefix_len}
use Rattle.layout.specs.Layout.{is_named}
use Rattle.layout1.specs.Layout1.{name_length}
use Rattle.layout1.proofs.Steps.{rest_of, short_name, long_name, open_name, named}
use Rattle.layout1.proofs.with_pan.Goals as goal
use Rattle.layout1.proofs.with_pan.Goals.{After-named_of-name}

name : (c : After-named_of-name) → c.named_of-name.result ≡ name_length c.args.chars.now c.args.pan
name c = c.named_of-name.ensures.0 ∙ ap (prefix_len is_named) (c.piece.ensures.bytes ∙ rest_of c.args.chars.now (c.args.pan + 2))

pub returns-then-name-lt2 : goal.returns-then-name-lt2
returns-then-name-lt2 c = short_name _ _ _ (name (goal.at.returns-then-name-lt2 c).After-named_of-name) (omega arith)

pub returns-then-name-gt26 : goal.returns-then-name-gt26
returns-then-name-gt26 c = long_name _ _ _ (name (goal.at.returns-then-name-gt26 c).After-named_of-name) (omega arith)

pub returns-then-byte_at-ne94 : goal.returns-then-byte_at-ne94
returns-then-byte_at-ne94 c =
    open_name _ _ _ (name (goal.at.returns-then-byte_at-ne94 c).After-named_of-name) (omega arith) (omega arith)
    (λ e. c.if-byte_at-ne94.true (c.byte_at.ensures ∙ e))

pub returns : goal.returns
returns c =
    c.with_name.ensures
    ∙ named _ _ _ (name (goal.at.returns c).After-named_of-name) (omega arith) (omega arith) (sym c.byte_at.ensures ∙ c.if-byte_at-ne94.false)
