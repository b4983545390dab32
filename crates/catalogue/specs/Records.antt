-- The records of a chip, and blank ones. docs/CATALOGUE.md has the same in words.
use Rattle.std.specs.Prelude.{ℕ, ◌+◌, false, List, [], ◌∷◌, ◌++◌, length, Some, None, Option}
use Rattle.std.specs.Option.{unwrap_or}
use Rattle.catalogue.specs.declared.records.Span.{Span}
use Rattle.kit.specs.declared.shape.Side.{Side}
use Rattle.kit.specs.declared.shape.Side.TheVariants as side
use Rattle.catalogue.specs.declared.records.Subscript.{Subscript}
use Rattle.catalogue.specs.declared.records.Subscript.TheVariants as subscript
use Rattle.catalogue.specs.declared.records.FarEnd.{FarEnd}
use Rattle.catalogue.specs.declared.records.FarEnd.TheVariants as far
use Rattle.catalogue.specs.declared.records.Piece.TheVariants as piece
use Rattle.catalogue.specs.declared.records.Target.TheVariants as target
use Rattle.catalogue.specs.declared.records.Joint.{Joint}
use Rattle.catalogue.specs.declared.records.PinRecord.{PinRecord}
use Rattle.catalogue.specs.declared.records.PartRecord.{PartRecord}
use Rattle.catalogue.specs.declared.records.ConnectionRecord.{ConnectionRecord}
use Rattle.grammar.specs.Tree as tree
use Rattle.grammar.specs.Tree.{Name, Row, items, Pin, Connection, Part, Header, Chip}

-- all 0
abbrev pub no_span : Span
no_span = record { first = 0; len = 0 }

abbrev pub blank_pin : PinRecord
blank_pin = record { entry = 0; name = no_span; side = side.In; offset = 0; width = 0 }

abbrev pub blank_part : PartRecord
blank_part = record { entry = 0; name = no_span; connections = 0; count = 0; piece = piece.Entry 0 }

abbrev pub no_joint : Joint
no_joint = record { side = side.In; offset = 0; width = 0; target = target.Constant false }

abbrev pub blank_connection : ConnectionRecord
blank_connection = record { entry = 0; name = no_span; part = 0; bits = subscript.All; far = far.Constant false; joint = no_joint }

abbrev pub span : Name → Span
span n = record { first = n.first; len = length n.bytes }

-- a pin without a width has 1 bit
abbrev pub width_of : Pin → ℕ
width_of p = unwrap_or p.width 1

-- the pins of a side of the entry e, of which the first begins at this bit: each stands behind the one before
abbrev pub side_pins : ℕ → Side → ℕ → List Pin → List PinRecord
side_pins e d at [] = []
side_pins e d at (p ∷ ps) = record { entry = e; name = span p.name; side = d; offset = at; width = width_of p } ∷ side_pins e d (at + width_of p) ps

abbrev pub in_pins : ℕ → Option (Row Pin) → List PinRecord
in_pins e None = []
in_pins e (Some r) = side_pins e side.In 0 (items r)

-- inputs first, then outputs
abbrev pub header_pins : ℕ → Header → List PinRecord
header_pins e h = in_pins e h.ins ++ side_pins e side.Out 0 (items h.outs)

abbrev pub bits_of : tree.Subscript → Subscript
bits_of tree.all = subscript.All
bits_of (tree.bit n) = subscript.Bit n
bits_of (tree.range n m) = subscript.Range n m

abbrev pub far_of : tree.FarEnd → FarEnd
far_of (tree.constant b) = far.Constant b
far_of (tree.pin n s) = far.Pin (span n) (bits_of s)

-- a connection of the part of this number
abbrev pub connection_record : ℕ → ℕ → Connection → ConnectionRecord
connection_record e part c =
    record { entry = e; name = span c.near; part = part; bits = bits_of c.bits; far = far_of c.far; joint = no_joint }

abbrev pub connection_records : ℕ → ℕ → List Connection → List ConnectionRecord
connection_records e part [] = []
connection_records e part (c ∷ cs) = connection_record e part c ∷ connection_records e part cs

-- part lines, where the connections of the first have this number on
abbrev pub part_records : ℕ → ℕ → List Part → List PartRecord
part_records e at [] = []
part_records e at (p ∷ ps) =
    record { entry = e; name = span p.name; connections = at; count = length (items p.connections); piece = piece.Entry 0 }
    ∷ part_records e (at + length (items p.connections)) ps

-- the connections of part lines that have this number on
abbrev pub lines_connections : ℕ → ℕ → List Part → List ConnectionRecord
lines_connections e part [] = []
lines_connections e part (p ∷ ps) = connection_records e part (items p.connections) ++ lines_connections e (part + 1) ps

-- what three lent slices hold
pub record Records : Type 0 where
  pub pins : List PinRecord
  pub parts : List PartRecord
  pub connections : List ConnectionRecord

abbrev pub none : Records
none = record { pins = []; parts = []; connections = [] }

-- with the records of the chip of the entry e behind those of the texts before
abbrev pub with_chip : Records → ℕ → Chip → Records
with_chip r e c = record {
  pins = r.pins ++ header_pins e c.header;
  parts = r.parts ++ part_records e (length r.connections) (items c.parts);
  connections = r.connections ++ lines_connections e (length r.parts) (items c.parts);
}
