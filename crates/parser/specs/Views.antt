-- What is read of a chip so far, as the records want it.
use Rattle.std.specs.Prelude.{ℕ, ◌+◌, List, [], ◌∷◌, ◌++◌, length}
use Rattle.kit.specs.declared.shape.Side.{Side}
use Rattle.kit.specs.declared.shape.Side.TheVariants.{In, Out}
use Rattle.catalogue.specs.declared.records.PinRecord.{PinRecord}
use Rattle.catalogue.specs.Records.{Records, side_pins, part_records, connection_records, lines_connections}
use Rattle.grammar.specs.Tree.{Name, items, Pin, Connection, Part, Header}
use Rattle.grammar.specs.Progress as grammar
use Rattle.grammar.specs.Progress.{ins, outs, Line, End, near, far, State, start, chip, called, opened, pin, pin_named, width_open, width_read, pin_wide, ins_read, headed, parts, first_line, next_line, part_named, connection, end_named, sub_open, sub_low, sub_dots, sub_high, end_read, equals, constant_read, closed, done}
use Rattle.progress.specs.Shapes.{side_of}
use Rattle.parser.specs.Flaws.{inputs}

pub record View : Type 0 where
  -- the pins of IN if they are read; which pins come next or came last, and those; the name of the pin that is begun
  pub before : List Pin
  pub side : Side
  pub pins : List Pin
  pub named : List Name
  -- the part lines; how many more are begun, 0 or 1; the connections of that one; how many more of these are begun
  pub lines : List Part
  pub begun : ℕ
  pub row : List Connection
  pub joining : ℕ

abbrev pub no_view : View
no_view = record { before = []; side = In; pins = []; named = []; lines = []; begun = 0; row = []; joining = 0 }

abbrev pub side_view : grammar.Side → List Pin → List Name → View
side_view d ps ns = record { before = inputs d; side = side_of d; pins = ps; named = ns; lines = []; begun = 0; row = []; joining = 0 }

abbrev pub header_view : Header → List Part → ℕ → List Connection → ℕ → View
header_view h ls b cs j =
    record { before = inputs (outs h.name h.ins); side = Out; pins = items h.outs; named = []; lines = ls; begun = b; row = cs; joining = j }

abbrev pub line_view : Line → ℕ → View
line_view l j = header_view l.header l.before 1 l.connections j

abbrev pub end_view : End → View
end_view (near l n) = line_view l 1
end_view (far l n s f) = line_view l 1

abbrev pub view : State → View
view start = no_view
view chip = no_view
view (called c) = no_view
view (opened c) = no_view
view (pin d ps) = side_view d ps []
view (pin_named d ps p) = side_view d ps (p ∷ [])
view (width_open d ps p) = side_view d ps (p ∷ [])
view (width_read d ps p m) = side_view d ps (p ∷ [])
view (pin_wide d ps p m) = side_view d ps (p ∷ [])
view (ins_read c r) = side_view (ins c) (items r) []
view (headed h) = header_view h [] 0 [] 0
view (parts h) = header_view h [] 0 [] 0
view (first_line h) = header_view h [] 0 [] 0
view (next_line h r) = header_view h (items r) 0 [] 0
view (part_named h ps p) = header_view h ps 1 [] 0
view (connection l) = line_view l 0
view (end_named e) = end_view e
view (sub_open e) = end_view e
view (sub_low e m) = end_view e
view (sub_dots e m) = end_view e
view (sub_high e m k) = end_view e
view (end_read e s) = end_view e
view (equals l n s) = line_view l 1
view (constant_read l c) = line_view l 1
view (closed h ps p) = header_view h (ps ++ p ∷ []) 0 [] 0
view (done c) = header_view c.header (items c.parts) 0 [] 0

-- the pins that are complete
abbrev pub view_pins : View → List Pin
view_pins v = v.before ++ v.pins

abbrev pub pin_records : ℕ → View → List PinRecord
pin_records e v = side_pins e In 0 v.before ++ side_pins e v.side 0 v.pins

-- the records of what is complete of the chip of the entry e, behind those of the texts before
abbrev pub so_far : Records → ℕ → View → Records
so_far r e v = record {
  pins = r.pins ++ pin_records e v;
  parts = r.parts ++ part_records e (length r.connections) v.lines;
  connections = r.connections ++ (lines_connections e (length r.parts) v.lines ++ connection_records e (length r.parts + length v.lines) v.row);
}
