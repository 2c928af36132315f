use native.Mathlib.Omega.{arith}
use Rattle.chars.specs.Shape.{format_of}
use Rattle.bits.proofs.Rules.{refused_with, output_short, count_over, bytes_few, rule_reads, read_with}
use Rattle.bits.proofs.read_either.Goals as goal

pub returns-then-out-h : goal.returns-then-out-h
returns-then-out-h c =
    let a = c.args in
    refused_with (format_of a.h) a.bytes.now a.bits a.out.now _ (output_short (format_of a.h) a.bytes.now a.bits _ (omega arith))

pub returns-then-bits-gt4096 : goal.returns-then-bits-gt4096
returns-then-bits-gt4096 c =
    let a = c.args in
    refused_with (format_of a.h) a.bytes.now a.bits a.out.now _ (count_over (format_of a.h) a.bytes.now a.bits _ (omega arith) (omega arith))

pub returns-then-bytes-count : goal.returns-then-bytes-count
returns-then-bytes-count c =
    let a = c.args in
    refused_with (format_of a.h) a.bytes.now a.bits a.out.now _
    (bytes_few (format_of a.h) a.bytes.now a.bits _ (omega arith) (omega arith) (omega arith))

pub returns : goal.returns
returns c =
    let a = c.args in
    read_with (format_of a.h) a.bytes.now a.bits a.out.now _ _ _
    (rule_reads (format_of a.h) a.bytes.now a.bits _ (omega arith) (omega arith) (omega arith)) c.read_ways.ensures
