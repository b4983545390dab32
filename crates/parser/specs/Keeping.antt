-- What a reader knows between two tokens.
use Rattle.std.specs.Prelude.{◌≡◌, ℕ, ◌+◌, ◌<◌, ◌≤◌, List, map, length, slice_index_or}
use Rattle.lexer.specs.Lexemes.{Lexeme, Lexed}
use Rattle.grammar.specs.Tree as tree
use Rattle.grammar.specs.Progress as grammar
use Rattle.grammar.specs.Progress.{start, chip, called, opened, pin, pin_named, width_open, width_read, pin_wide, ins_read, headed, parts, first_line, next_line, part_named, connection, end_named, sub_open, sub_low, sub_dots, sub_high, end_read, equals, constant_read, closed, done, go, run}
use Rattle.catalogue.specs.declared.records.Span.{Span}
use Rattle.catalogue.specs.declared.records.PinRecord.{PinRecord}
use Rattle.catalogue.specs.declared.records.FarEnd.TheVariants as far
use Rattle.catalogue.specs.declared.room.Catalogue.{Catalogue}
use Rattle.catalogue.specs.Cuts.{cut}
use Rattle.catalogue.specs.Records.{Records, span, far_of, blank_pin}
use Rattle.catalogue.specs.Holding.{Enough, slices, Fills}
use Rattle.progress.specs.Shapes.{shape, level_of}
use Rattle.parser.specs.declared.reading.Source.{Source}
use Rattle.parser.specs.declared.reading.Reading.{Reading}
use Rattle.parser.specs.Flaws.{connected}
use Rattle.parser.specs.Flaws as flaws
use Rattle.parser.specs.Reading.{Clean}
use Rattle.parser.specs.Views.{View, view, view_pins, so_far}

-- the bytes of the names are those at their spans
abbrev pub Stand : List ℕ → List tree.Name → Type 0
Stand s ns = map (λ n. n.bytes) ns ≡ map (λ n. cut s (span n)) ns

-- a pin record has the name
pub record Among (s : List ℕ) (ps : List PinRecord) (n : List ℕ) : Type 0 where
  pub at : ℕ
  pub below : at < length ps
  pub same : cut s (slice_index_or ps at blank_pin).name ≡ n

-- the name stands in a pin record of the catalogue that has this number or a later one
pub record Declared (s : List ℕ) (from : ℕ) (c : Catalogue) (n : Span) : Type 0 where
  pub at : ℕ
  pub after : from ≤ at
  pub below : at < c.pins.used
  pub same : cut s (slice_index_or c.pins.rows.now at blank_pin).name ≡ cut s n

-- a pin record that may not be put behind those of the text, which have this number on
pub data BadRecord (s : List ℕ) (from : ℕ) (c : Catalogue) (p : PinRecord) : Type 0 where
  twice : Declared s from c p.name → BadRecord s from c p
  none : p.width ≡ 0 → BadRecord s from c p
  wide : 16 < p.width → BadRecord s from c p
  full : 64 < p.offset + p.width → BadRecord s from c p

-- the catalogue has the records of what is complete, and room for what is begun; so many bits has the side, and the line's
-- connections have this number on
pub record Kept (t : Source) (r : Records) (v : View) (c : Catalogue) (bits line : ℕ) : Type 0 where
  pub enough : Enough (slices c)
  pub fills : Fills c (so_far r t.entry v)
  pub starts : t.pins ≡ length r.pins
  pub wide : bits ≡ flaws.bits v.pins
  pub joined : line ≡ length r.connections + connected v.lines
  pub stand : Stand t.bytes.now (map (λ p. p.name) (view_pins v))
  pub head : Stand t.bytes.now v.named
  pub pin_room : 0 < length v.named → length r.pins + length (view_pins v) < 1024
  pub part_room : 0 < v.begun → length r.parts + length v.lines < 1024
  pub connection_room : 0 < v.joining → length r.connections + (connected v.lines + length v.row) < 4096

-- where true or false is read, it is the far end
abbrev pub Sound : grammar.State → Type 0
Sound start = Unit {0}
Sound chip = Unit {0}
Sound (called c) = Unit {0}
Sound (opened c) = Unit {0}
Sound (pin d ps) = Unit {0}
Sound (pin_named d ps p) = Unit {0}
Sound (width_open d ps p) = Unit {0}
Sound (width_read d ps p m) = Unit {0}
Sound (pin_wide d ps p m) = Unit {0}
Sound (ins_read c r) = Unit {0}
Sound (headed h) = Unit {0}
Sound (parts h) = Unit {0}
Sound (first_line h) = Unit {0}
Sound (next_line h r) = Unit {0}
Sound (part_named h ps p) = Unit {0}
Sound (connection l) = Unit {0}
Sound (end_named e) = Unit {0}
Sound (sub_open e) = Unit {0}
Sound (sub_low e m) = Unit {0}
Sound (sub_dots e m) = Unit {0}
Sound (sub_high e m k) = Unit {0}
Sound (end_read e s) = Unit {0}
Sound (equals l n s) = Unit {0}
Sound (constant_read l c) = far.Constant (level_of c.far) ≡ far_of c.far
Sound (closed h ps p) = Unit {0}
Sound (done c) = Unit {0}

-- the text is read up to p, and has no fault so far
pub record Known (t : Source) (r : Records) (p : ℕ) (c : Catalogue) (x : Reading) : Type 0 where
  pub lexemes : List Lexeme
  pub state : grammar.State
  pub lexed : Lexed t.bytes.now 0 lexemes p
  pub runs : run lexemes (go start) ≡ go state
  pub clean : Clean t.name.now r lexemes
  pub sound : Sound state
  pub shaped : x.state ≡ shape state
  pub kept : Kept t r (view state) c x.bits x.line
