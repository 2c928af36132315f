-- The bits of a stream as the functions take it.
use Rattle.std.specs.Prelude.{Bool, List}
use Rattle.stream.specs.Stream.{stream}
use Rattle.stream.specs.declared.Stream.{Stream}

-- all its bits, in the order in which they are read
abbrev pub all_bits : Stream → List Bool
all_bits s = stream s.reversed s.bytes.now s.count
