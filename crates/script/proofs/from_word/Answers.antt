-- `from_word`: all that stands from its start.
use Prim.Native.Nat.{◌-◌}
use lib.ListN.{length, length-drop}
use lib.Seq.{take_all}
use mathlib.Core.Path.{◌∙◌}
use native.Mathlib.Omega.{arith}
use Rattle.script.proofs.from_word.Goals as goal

pub returns : goal.returns
returns c =
    let a = c.start_of-a.result in
    let s = c.args.line.now in
    take_all (length s - a) _ (omega (arith, length-drop a s)) ∙ c.start_of-a.ensures.1
