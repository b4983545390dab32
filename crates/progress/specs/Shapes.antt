-- What a reader keeps of a chip that is read in part.
use Rattle.std.specs.Prelude.{◌≡◌, Bool, false, Some, None, Option}
use Rattle.catalogue.specs.declared.records.Span.{Span}
use Rattle.kit.specs.declared.shape.Side.{Side}
use Rattle.kit.specs.declared.shape.Side.TheVariants.{In, Out}
use Rattle.catalogue.specs.Records.{span, bits_of}
use Rattle.grammar.specs.Tree as tree
use Rattle.grammar.specs.Progress as grammar
use Rattle.progress.specs.declared.state.Near.{Near}
use Rattle.progress.specs.declared.state.End.{End}
use Rattle.progress.specs.declared.state.End.TheVariants as end
use Rattle.progress.specs.declared.state.State.{State}
use Rattle.progress.specs.declared.state.State.TheVariants as state

abbrev pub side_of : grammar.Side → Side
side_of (grammar.ins n) = In
side_of (grammar.outs n i) = Out

abbrev pub near_of : tree.Name → tree.Subscript → Near
near_of n s = record { name = span n; bits = bits_of s }

abbrev pub part_of : grammar.End → Span
part_of (grammar.near l n) = span l.name
part_of (grammar.far l n s f) = span l.name

abbrev pub end_of : grammar.End → End
end_of (grammar.near l n) = end.Near (span n)
end_of (grammar.far l n s f) = end.Far (near_of n s) (span f)

-- the level of a constant, and 0 for a pin
abbrev pub level_of : tree.FarEnd → Bool
level_of (tree.constant b) = b
level_of (tree.pin n s) = false

-- what is kept of a chip that is read so far
abbrev pub shape : grammar.State → State
shape grammar.start = state.Start
shape grammar.chip = state.Chip
shape (grammar.called c) = state.Called
shape (grammar.opened c) = state.Opened
shape (grammar.pin d ps) = state.Pin (side_of d)
shape (grammar.pin_named d ps p) = state.PinNamed (side_of d) (span p)
shape (grammar.width_open d ps p) = state.WidthOpen (side_of d) (span p)
shape (grammar.width_read d ps p m) = state.WidthRead (side_of d) (span p) m
shape (grammar.pin_wide d ps p m) = state.PinWide (side_of d) (span p) m
shape (grammar.ins_read c r) = state.InsRead
shape (grammar.headed h) = state.Headed
shape (grammar.parts h) = state.Parts
shape (grammar.first_line h) = state.FirstLine
shape (grammar.next_line h r) = state.NextLine
shape (grammar.part_named h ps p) = state.PartNamed (span p)
shape (grammar.connection l) = state.Connection (span l.name)
shape (grammar.end_named e) = state.EndNamed (part_of e) (end_of e)
shape (grammar.sub_open e) = state.SubOpen (part_of e) (end_of e)
shape (grammar.sub_low e m) = state.SubLow (part_of e) (end_of e) m
shape (grammar.sub_dots e m) = state.SubDots (part_of e) (end_of e) m
shape (grammar.sub_high e m k) = state.SubHigh (part_of e) (end_of e) m k
shape (grammar.end_read e s) = state.EndRead (part_of e) (end_of e) (bits_of s)
shape (grammar.equals l n s) = state.Equals (span l.name) (near_of n s)
shape (grammar.constant_read l c) = state.ConstantRead (span l.name) (near_of c.near c.bits) (level_of c.far)
shape (grammar.closed h ps p) = state.Closed
shape (grammar.done c) = state.Done

-- what a reader finds next is what the grammar says: it goes on to the same, or stops
abbrev pub Agrees : Option State → grammar.Next → Type 0
Agrees None (grammar.go st) = ⊥
Agrees None grammar.stop = Unit {0}
Agrees (Some s) (grammar.go st) = s ≡ shape st
Agrees (Some s) grammar.stop = ⊥
