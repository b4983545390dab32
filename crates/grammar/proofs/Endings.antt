-- From each state some lexemes lead to the end of a chip.
use Rattle.std.proofs.Common.{◌≡◌, ℕ, true, List, [], ◌∷◌, Some, None, codes, Option, refl, ap, ◌∙◌}
use Rattle.lexer.specs.Lexemes.{Lexeme, name, number, fixed}
use Rattle.grammar.specs.Tree as tree
use Rattle.grammar.specs.Tree.{Name, Row, Pin, Subscript, all, bit, range, Part, Header, Chip}
use Rattle.grammar.specs.Progress.{Side, ins, outs, Line, End, near, far, State, start, chip, called, opened, pin, pin_named, width_open, width_read, pin_wide, ins_read, headed, parts, first_line, next_line, part_named, connection, end_named, sub_open, sub_low, sub_dots, sub_high, end_read, equals, constant_read, closed, done, go, pins_read, part_of, follow, run}

-- lexemes that lead from a state to the end of a chip
pub record Ending (st : State) : Type 0 where
  pub rest : List Lexeme
  pub chip : Chip
  pub read : run rest (go st) ≡ go (done chip)

-- after one lexeme more
by : {st next : State} (w : Lexeme) → follow st w ≡ go next → Ending next → Ending st
by w h e = record { rest = w ∷ e.rest; chip = e.chip; read = ap (run e.rest) h ∙ e.read }

-- from each state by way of a later one
ended_lines : (h : Header) (r : Row Part) → Ending (next_line h r)
ended_lines h r = by (fixed (codes "}")) refl (record { rest = []; chip = record { header = h; parts = r }; read = refl })

ended_line : (h : Header) (ps : List Part) (p : Part) → Ending (closed h ps p)
ended_line h ps p = by (fixed (codes ";")) refl (ended_lines h (record { init = ps; last = p }))

from_equals : (l : Line) (n : Name) (s : Subscript) → Ending (equals l n s)
from_equals l n s = by (fixed (codes "true")) refl (by (fixed (codes ")")) refl (ended_line l.header l.before (part_of l (record { near = n; bits = s; far = tree.constant true }))))

from_end : (e : End) (s : Subscript) → Ending (end_read e s)
from_end (near l n) s = by (fixed (codes "=")) refl (from_equals l n s)
from_end (far l n s f) t = by (fixed (codes ")")) refl (ended_line l.header l.before (part_of l (record { near = n; bits = s; far = tree.pin f t })))

from_high : (e : End) (m k : ℕ) → Ending (sub_high e m k)
from_high e m k = by (fixed (codes "]")) refl (from_end e (range m k))

from_low : (e : End) (m : ℕ) → Ending (sub_low e m)
from_low e m = by (fixed (codes "]")) refl (from_end e (bit m))

from_connection : (l : Line) → Ending (connection l)
from_connection l = by (name 0 []) refl (by (fixed (codes "=")) refl (from_equals l (record { first = 0; bytes = [] }) all))

from_name : (h : Header) (ps : List Part) (n : Name) → Ending (part_named h ps n)
from_name h ps n = by (fixed (codes "(")) refl (from_connection (record { header = h; before = ps; name = n; connections = [] }))

from_lines : (h : Header) → Ending (first_line h)
from_lines h = by (name 0 []) refl (from_name h [] (record { first = 0; bytes = [] }))

from_header : (h : Header) → Ending (headed h)
from_header h = by (fixed (codes "PARTS")) refl (by (fixed (codes ":")) refl (from_lines h))

from_outs : (n : Name) (i : Option (Row Pin)) → Ending (pin (outs n i) [])
from_outs n i = by (name 0 []) refl (by (fixed (codes ";")) refl (from_header (record { name = n; ins = i; outs = record { init = []; last = record { name = record { first = 0; bytes = [] }; width = None } } })))

from_pins : (d : Side) (r : Row Pin) → Ending (pins_read d r)
from_pins (ins n) r = by (fixed (codes "OUT")) refl (from_outs n (Some r))
from_pins (outs n i) r = from_header (record { name = n; ins = i; outs = r })

from_width : (d : Side) (ps : List Pin) (n : Name) (m : ℕ) → Ending (width_read d ps n m)
from_width d ps n m = by (fixed (codes "]")) refl (by (fixed (codes ";")) refl (from_pins d (record { init = ps; last = record { name = n; width = Some m } })))

from_pin : (d : Side) (ps : List Pin) (n : Name) → Ending (pin_named d ps n)
from_pin d ps n = by (fixed (codes ";")) refl (from_pins d (record { init = ps; last = record { name = n; width = None } }))

from_opened : (n : Name) → Ending (opened n)
from_opened n = by (fixed (codes "OUT")) refl (from_outs n None)

from_chip : Ending chip
from_chip = by (name 0 []) refl (by (fixed (codes "{")) refl (from_opened (record { first = 0; bytes = [] })))

pub ending : (st : State) → Ending st
ending start = by (fixed (codes "CHIP")) refl from_chip
ending chip = from_chip
ending (called n) = by (fixed (codes "{")) refl (from_opened n)
ending (opened n) = from_opened n
ending (pin d ps) = by (name 0 []) refl (from_pin d ps (record { first = 0; bytes = [] }))
ending (pin_named d ps n) = from_pin d ps n
ending (width_open d ps n) = by (number 1) refl (from_width d ps n 1)
ending (width_read d ps n m) = from_width d ps n m
ending (pin_wide d ps n m) = by (fixed (codes ";")) refl (from_pins d (record { init = ps; last = record { name = n; width = Some m } }))
ending (ins_read n r) = from_pins (ins n) r
ending (headed h) = from_header h
ending (parts h) = by (fixed (codes ":")) refl (from_lines h)
ending (first_line h) = from_lines h
ending (next_line h r) = ended_lines h r
ending (part_named h ps n) = from_name h ps n
ending (connection l) = from_connection l
ending (end_named e) = by (fixed (codes "[")) refl (by (number 0) refl (from_low e 0))
ending (sub_open e) = by (number 0) refl (from_low e 0)
ending (sub_low e m) = from_low e m
ending (sub_dots e m) = by (number m) refl (from_high e m m)
ending (sub_high e m k) = from_high e m k
ending (end_read e s) = from_end e s
ending (equals l n s) = from_equals l n s
ending (constant_read l c) = by (fixed (codes ")")) refl (ended_line l.header l.before (part_of l c))
ending (closed h ps p) = ended_line h ps p
ending (done c) = record { rest = []; chip = c; read = refl }
