-- The lists of pins that code holds, as lists of names and widths.
use Rattle.std.specs.Prelude.{List, map}
use Rattle.kit.specs.declared.header.Listed.{Listed}
use Rattle.kit.specs.Headers.{Listed as Pinned, Header}

-- a pin by the bytes of its name, and its width
abbrev pub pinned : Listed → Pinned
pinned l = record { name = l.0.now; width = l.1 }

abbrev pub listed : List Listed → List Pinned
listed ls = map pinned ls

abbrev pub header : List Listed → List Listed → Header
header ins outs = record { ins = listed ins; outs = listed outs }
