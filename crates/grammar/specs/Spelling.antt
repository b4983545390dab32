-- The grammar: the lexemes that write a chip.
use Rattle.std.specs.Prelude.{ℕ, true, false, List, [], ◌∷◌, ◌++◌, Some, None, codes, Option}
use Rattle.std.specs.List.{flat_map}
use Rattle.lexer.specs.Lexemes.{Lexeme, name, number, fixed}
use Rattle.grammar.specs.Tree.{Name, Row, Pin, Subscript, all, bit, range, FarEnd, constant, pin, Connection, Part, Header, Chip}

-- a reserved word or a mark, as it is written
abbrev pub mark : List ℕ → List Lexeme
mark w = fixed w ∷ []

abbrev pub named : Name → List Lexeme
named n = name n.first n.bytes ∷ []

-- with a comma between each and the next
abbrev pub separated : {X : Type 0} → (X → List Lexeme) → Row X → List Lexeme
separated f r = flat_map (λ x. f x ++ mark (codes ",")) r.init ++ f r.last

-- a width in brackets, if one is wanted
abbrev pub width_words : Option ℕ → List Lexeme
width_words None = []
width_words (Some w) = mark (codes "[") ++ (number w ∷ mark (codes "]"))

-- a pin is a name and its width
abbrev pub pin_words : Pin → List Lexeme
pin_words p = named p.name ++ width_words p.width

-- a pin list ends with a semicolon
abbrev pub pins_words : Row Pin → List Lexeme
pins_words r = separated pin_words r ++ mark (codes ";")

-- nothing, [n], or [n..m]
abbrev pub subscript_words : Subscript → List Lexeme
subscript_words all = []
subscript_words (bit n) = mark (codes "[") ++ (number n ∷ mark (codes "]"))
subscript_words (range n m) = mark (codes "[") ++ (number n ∷ (fixed (codes "..") ∷ (number m ∷ mark (codes "]"))))

-- true, false, or a name with its subscript
abbrev pub far_words : FarEnd → List Lexeme
far_words (constant true) = mark (codes "true")
far_words (constant false) = mark (codes "false")
far_words (pin n s) = named n ++ subscript_words s

-- the part's pin with its subscript, an equals sign, and the far end
abbrev pub connection_words : Connection → List Lexeme
connection_words c = named c.near ++ (subscript_words c.bits ++ (fixed (codes "=") ∷ far_words c.far))

-- a part line: a name, the connections in parentheses, and a semicolon
abbrev pub part_words : Part → List Lexeme
part_words p = named p.name ++ (fixed (codes "(") ∷ (separated connection_words p.connections ++ (fixed (codes ")") ∷ mark (codes ";"))))

-- IN and a pin list, if wanted
abbrev pub ins_words : Option (Row Pin) → List Lexeme
ins_words None = []
ins_words (Some r) = fixed (codes "IN") ∷ pins_words r

-- CHIP, the name, a brace, the pins of either side
abbrev pub header_words : Header → List Lexeme
header_words h = (fixed (codes "CHIP") ∷ (named h.name ++ mark (codes "{"))) ++ (ins_words h.ins ++ (fixed (codes "OUT") ∷ pins_words h.outs))

-- one or more part lines
abbrev pub parts_words : Row Part → List Lexeme
parts_words r = flat_map part_words r.init ++ part_words r.last

-- the header, PARTS, a colon, the part lines, a brace, and nothing more
abbrev pub chip_words : Chip → List Lexeme
chip_words c = header_words c.header ++ (fixed (codes "PARTS") ∷ (fixed (codes ":") ∷ (parts_words c.parts ++ mark (codes "}"))))
