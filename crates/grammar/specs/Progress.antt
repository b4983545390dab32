-- How far a chip text has been read: a chip of which the front is known, and what the next lexeme makes of it.
use Rattle.std.specs.Prelude.{ℕ, true, false, cond, List, [], ◌∷◌, ◌++◌, Some, None, codes, Option}
use Rattle.std.specs.Str.{bytes_eq}
use Rattle.lexer.specs.Lexemes.{Lexeme, name, number, fixed}
use Rattle.grammar.specs.Tree as tree
use Rattle.grammar.specs.Tree.{Name, Row, items, Pin, Subscript, all, bit, range, FarEnd, Connection, Part, Header, Chip}

-- which pin list is being read: that of IN, or that of OUT with the one before it if there was one
pub data Side : Type 0 where
  ins : Name → Side
  outs : Name → Option (Row Pin) → Side

-- inside a part line: the header, the part lines before, the part's name, and the connections so far
pub record Line : Type 0 where
  pub header : Header
  pub before : List Part
  pub name : Name
  pub connections : List Connection

-- which end of a connection is being read: the part's pin, or the far end, a pin, with what came before
pub data End : Type 0 where
  near : Line → Name → End
  far : Line → Name → Subscript → Name → End

pub data State : Type 0 where
  start : State
  -- behind CHIP, the name, and the brace
  chip : State
  called : Name → State
  opened : Name → State
  -- a pin is to come; behind its name; behind the bracket, the width and the other bracket
  pin : Side → List Pin → State
  pin_named : Side → List Pin → Name → State
  width_open : Side → List Pin → Name → State
  width_read : Side → List Pin → Name → ℕ → State
  pin_wide : Side → List Pin → Name → ℕ → State
  -- behind the pins of IN; behind those of OUT; behind PARTS
  ins_read : Name → Row Pin → State
  headed : Header → State
  parts : Header → State
  -- the first part line is to come; another one, or the brace; behind a part's name
  first_line : Header → State
  next_line : Header → Row Part → State
  part_named : Header → List Part → Name → State
  -- a connection is to come
  connection : Line → State
  -- behind an end's name; behind its bracket, the first number, the dots, the second number, and the other bracket
  end_named : End → State
  sub_open : End → State
  sub_low : End → ℕ → State
  sub_dots : End → ℕ → State
  sub_high : End → ℕ → ℕ → State
  end_read : End → Subscript → State
  -- behind the equals sign; behind true or false
  equals : Line → Name → Subscript → State
  constant_read : Line → Connection → State
  -- behind the parenthesis of a part line; behind the last brace
  closed : Header → List Part → Part → State
  done : Chip → State

pub data Next : Type 0 where
  go : State → Next
  stop : Next

-- the one word that goes on, and else another
abbrev pub wanted : List ℕ → List ℕ → Next → Next → Next
wanted w v yes' no' = cond (bytes_eq w v) yes' no'

-- the pins of a side are read
abbrev pub pins_read : Side → Row Pin → State
pins_read (ins n) r = ins_read n r
pins_read (outs n i) r = headed (record { name = n; ins = i; outs = r })

-- behind a pin: a comma, or a semicolon
abbrev pub after_pin : Side → List Pin → Pin → List ℕ → Next
after_pin d ps p w =
    wanted w (codes ",") (go (pin d (ps ++ p ∷ []))) (wanted w (codes ";") (go (pins_read d (record { init = ps; last = p }))) stop)

abbrev pub with_connection : Line → Connection → Line
with_connection l c = record { header = l.header; before = l.before; name = l.name; connections = l.connections ++ c ∷ [] }

abbrev pub part_of : Line → Connection → Part
part_of l c = record { name = l.name; connections = record { init = l.connections; last = c } }

-- behind a connection: a comma, or a parenthesis
abbrev pub after_connection : Line → Connection → List ℕ → Next
after_connection l c w =
    wanted w (codes ",") (go (connection (with_connection l c))) (wanted w (codes ")") (go (closed l.header l.before (part_of l c))) stop)

-- behind an end with its subscript
abbrev pub after_end : End → Subscript → List ℕ → Next
after_end (near l n) s w = wanted w (codes "=") (go (equals l n s)) stop
after_end (far l n s f) t w = after_connection l (record { near = n; bits = s; far = tree.pin f t }) w

-- what the next lexeme makes of what is read
abbrev pub follow : State → Lexeme → Next
follow start (name i n) = stop
follow start (number n) = stop
follow start (fixed w) = wanted w (codes "CHIP") (go chip) stop
follow chip (name i n) = go (called (record { first = i; bytes = n }))
follow chip (number n) = stop
follow chip (fixed w) = stop
follow (called c) (name i n) = stop
follow (called c) (number n) = stop
follow (called c) (fixed w) = wanted w (codes "{") (go (opened c)) stop
follow (opened c) (name i n) = stop
follow (opened c) (number n) = stop
follow (opened c) (fixed w) = wanted w (codes "IN") (go (pin (ins c) [])) (wanted w (codes "OUT") (go (pin (outs c None) [])) stop)
follow (pin d ps) (name i n) = go (pin_named d ps (record { first = i; bytes = n }))
follow (pin d ps) (number n) = stop
follow (pin d ps) (fixed w) = stop
follow (pin_named d ps p) (name i n) = stop
follow (pin_named d ps p) (number n) = stop
follow (pin_named d ps p) (fixed w) = wanted w (codes "[") (go (width_open d ps p)) (after_pin d ps (record { name = p; width = None }) w)
follow (width_open d ps p) (name i n) = stop
follow (width_open d ps p) (number n) = go (width_read d ps p n)
follow (width_open d ps p) (fixed w) = stop
follow (width_read d ps p m) (name i n) = stop
follow (width_read d ps p m) (number n) = stop
follow (width_read d ps p m) (fixed w) = wanted w (codes "]") (go (pin_wide d ps p m)) stop
follow (pin_wide d ps p m) (name i n) = stop
follow (pin_wide d ps p m) (number n) = stop
follow (pin_wide d ps p m) (fixed w) = after_pin d ps (record { name = p; width = Some m }) w
follow (ins_read c r) (name i n) = stop
follow (ins_read c r) (number n) = stop
follow (ins_read c r) (fixed w) = wanted w (codes "OUT") (go (pin (outs c (Some r)) [])) stop
follow (headed h) (name i n) = stop
follow (headed h) (number n) = stop
follow (headed h) (fixed w) = wanted w (codes "PARTS") (go (parts h)) stop
follow (parts h) (name i n) = stop
follow (parts h) (number n) = stop
follow (parts h) (fixed w) = wanted w (codes ":") (go (first_line h)) stop
follow (first_line h) (name i n) = go (part_named h [] (record { first = i; bytes = n }))
follow (first_line h) (number n) = stop
follow (first_line h) (fixed w) = stop
follow (next_line h r) (name i n) = go (part_named h (items r) (record { first = i; bytes = n }))
follow (next_line h r) (number n) = stop
follow (next_line h r) (fixed w) = wanted w (codes "}") (go (done (record { header = h; parts = r }))) stop
follow (part_named h ps p) (name i n) = stop
follow (part_named h ps p) (number n) = stop
follow (part_named h ps p) (fixed w) = wanted w (codes "(") (go (connection (record { header = h; before = ps; name = p; connections = [] }))) stop
follow (connection l) (name i n) = go (end_named (near l (record { first = i; bytes = n })))
follow (connection l) (number n) = stop
follow (connection l) (fixed w) = stop
follow (end_named e) (name i n) = stop
follow (end_named e) (number n) = stop
follow (end_named e) (fixed w) = wanted w (codes "[") (go (sub_open e)) (after_end e all w)
follow (sub_open e) (name i n) = stop
follow (sub_open e) (number n) = go (sub_low e n)
follow (sub_open e) (fixed w) = stop
follow (sub_low e m) (name i n) = stop
follow (sub_low e m) (number n) = stop
follow (sub_low e m) (fixed w) = wanted w (codes "]") (go (end_read e (bit m))) (wanted w (codes "..") (go (sub_dots e m)) stop)
follow (sub_dots e m) (name i n) = stop
follow (sub_dots e m) (number n) = go (sub_high e m n)
follow (sub_dots e m) (fixed w) = stop
follow (sub_high e m k) (name i n) = stop
follow (sub_high e m k) (number n) = stop
follow (sub_high e m k) (fixed w) = wanted w (codes "]") (go (end_read e (range m k))) stop
follow (end_read e s) (name i n) = stop
follow (end_read e s) (number n) = stop
follow (end_read e s) (fixed w) = after_end e s w
follow (equals l n s) (name i b) = go (end_named (far l n s (record { first = i; bytes = b })))
follow (equals l n s) (number m) = stop
follow (equals l n s) (fixed w) =
    wanted w (codes "true") (go (constant_read l (record { near = n; bits = s; far = tree.constant true })))
    (wanted w (codes "false") (go (constant_read l (record { near = n; bits = s; far = tree.constant false }))) stop)
follow (constant_read l c) (name i n) = stop
follow (constant_read l c) (number n) = stop
follow (constant_read l c) (fixed w) = after_connection l c w
follow (closed h ps p) (name i n) = stop
follow (closed h ps p) (number n) = stop
follow (closed h ps p) (fixed w) = wanted w (codes ";") (go (next_line h (record { init = ps; last = p }))) stop
follow (done c) (name i n) = stop
follow (done c) (number n) = stop
follow (done c) (fixed w) = stop

-- many lexemes, one after another
abbrev pub run : List Lexeme → Next → Next
run [] x = x
run (w ∷ ws) (go st) = run ws (follow st w)
run (w ∷ ws) stop = stop

-- the chip is not read to its end
abbrev pub Live : State → Type 0
Live start = Unit {0}
Live chip = Unit {0}
Live (called c) = Unit {0}
Live (opened c) = Unit {0}
Live (pin d ps) = Unit {0}
Live (pin_named d ps p) = Unit {0}
Live (width_open d ps p) = Unit {0}
Live (width_read d ps p m) = Unit {0}
Live (pin_wide d ps p m) = Unit {0}
Live (ins_read c r) = Unit {0}
Live (headed h) = Unit {0}
Live (parts h) = Unit {0}
Live (first_line h) = Unit {0}
Live (next_line h r) = Unit {0}
Live (part_named h ps p) = Unit {0}
Live (connection l) = Unit {0}
Live (end_named e) = Unit {0}
Live (sub_open e) = Unit {0}
Live (sub_low e m) = Unit {0}
Live (sub_dots e m) = Unit {0}
Live (sub_high e m k) = Unit {0}
Live (end_read e s) = Unit {0}
Live (equals l n s) = Unit {0}
Live (constant_read l c) = Unit {0}
Live (closed h ps p) = Unit {0}
Live (done c) = ⊥
