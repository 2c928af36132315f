use Rattle.chars.specs.Shape.{format_of}
use Rattle.bits.proofs.Rules.{forward, reversed, neither}
use Rattle.bits.proofs.read_ways.Goals as goal

pub returns-in-Ok : goal.returns-in-Ok
returns-in-Ok c =
    let a = c.args in
    forward (format_of a.h) a.bytes.now a.count a.out.now a.out.now _ _ c.in-Ok.ensures

pub returns-in-Ok-read_way : goal.returns-in-Ok-read_way
returns-in-Ok-read_way c =
    let a = c.args in
    reversed (format_of a.h) a.bytes.now a.count a.out.now _ _ _ c.in-Err.ensures _ c.in-Ok-read_way.ensures

pub returns-in-Err-read_way : goal.returns-in-Err-read_way
returns-in-Err-read_way c =
    let a = c.args in
    neither (format_of a.h) a.bytes.now a.count a.out.now _ _ _ c.in-Err.ensures _ c.blamed.result c.in-Err-read_way.ensures c.blamed.ensures
