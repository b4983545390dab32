-- What may be wrong with a lexeme that the grammar allows.
use Rattle.std.specs.Prelude.{◌≡◌, ℕ, ◌+◌, ◌<◌, ◌≤◌, ◌⊎◌, List, [], ◌∷◌, ◌++◌, length, Some, None, codes, ◌≢◌, slice_index_or}
use Rattle.fault.specs.declared.Cause.{Cause}
use Rattle.fault.specs.declared.Cause.TheVariants as cause
use Rattle.lexer.specs.Lexemes.{Lexeme, name, fixed}
use Rattle.grammar.specs.Tree.{Name, Row, items, Pin, Part, Header}
use Rattle.grammar.specs.Progress.{Side, ins, outs, State, chip, pin, pin_named, pin_wide, first_line, next_line, connection, Line}
use Rattle.catalogue.specs.Records.{Records, width_of}

-- the pins of IN, where those of OUT are being read
abbrev pub inputs : Side → List Pin
inputs (ins n) = []
inputs (outs n None) = []
inputs (outs n (Some r)) = items r

-- the pins that the chip has declared, where ps are those of the side that is being read
abbrev pub declared : Side → List Pin → List Pin
declared d ps = inputs d ++ ps

-- how many bits pins have
abbrev pub bits : List Pin → ℕ
bits [] = 0
bits (p ∷ ps) = width_of p + bits ps

-- a pin that may not stand behind the pins ps of its side: its name is declared, its width is not 1 to 16, or its side
-- has more than 64 bits with it
pub data BadPin (d : Side) (ps : List Pin) (p : Pin) : Type 0 where
  twice : (k : ℕ) → k < length (declared d ps) → (slice_index_or (declared d ps) k p).name.bytes ≡ p.name.bytes → BadPin d ps p
  none : width_of p ≡ 0 → BadPin d ps p
  wide : 16 < width_of p → BadPin d ps p
  full : 64 < bits ps + width_of p → BadPin d ps p

-- how many connections part lines have
abbrev pub connected : List Part → ℕ
connected [] = 0
connected (p ∷ ps) = length (items p.connections) + connected ps

-- behind a pin
abbrev pub Ending : List ℕ → Type 0
Ending w = (w ≡ codes ",") ⊎ (w ≡ codes ";")

-- in a text whose chip is to have this name, and behind the records of the texts before: what is wrong with the lexeme
-- that goes on from a chip read so far
pub data Flaw (expected : List ℕ) (r : Records) : State → Lexeme → Cause → Type 0 where
  other_name : (i : ℕ) (n : List ℕ) → (n ≢ expected) → Flaw expected r chip (name i n) cause.OtherChipName
  many_pins : (d : Side) (ps : List Pin) (i : ℕ) (n : List ℕ) → 1024 ≤ length r.pins + length (declared d ps) → Flaw expected r (pin d ps) (name i n) cause.TooManyRecords
  many_parts : (h : Header) (i : ℕ) (n : List ℕ) → 1024 ≤ length r.parts → Flaw expected r (first_line h) (name i n) cause.TooManyRecords
  more_parts : (h : Header) (ps : Row Part) (i : ℕ) (n : List ℕ) → 1024 ≤ length r.parts + length (items ps) → Flaw expected r (next_line h ps) (name i n) cause.TooManyRecords
  many_connections : (l : Line) (i : ℕ) (n : List ℕ) → 4096 ≤ length r.connections + (connected l.before + length l.connections) → Flaw expected r (connection l) (name i n) cause.TooManyRecords
  bad_pin : (d : Side) (ps : List Pin) (p : Name) (w : List ℕ) → Ending w → BadPin d ps (record { name = p; width = None }) → Flaw expected r (pin_named d ps p) (fixed w) cause.BadPin
  bad_wide_pin : (d : Side) (ps : List Pin) (p : Name) (m : ℕ) (w : List ℕ) → Ending w → BadPin d ps (record { name = p; width = Some m }) → Flaw expected r (pin_wide d ps p m) (fixed w) cause.BadPin
