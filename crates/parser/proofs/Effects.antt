-- What each lexeme that goes on makes of what is read.
use Rattle.std.proofs.Common.{◌≡◌, ℕ, ◌+◌, ◌≤◌, Bool, true, false, cond, List, [], ◌∷◌, ◌++◌, length, get_or, Some, None, Option, codes, sym, refl, ap, ◌∙◌, inl, inr, ⊎_elim, arith}
use Rattle.std.specs.Str.{bytes_eq}
use Rattle.std.proofs.lemmas.Slice.Eq.{bytes_eq-Decides}
use Rattle.std.proofs.lemmas.Bool.{cond_both}
use Rattle.fault.specs.declared.Cause.{Cause}
use Rattle.fault.specs.declared.Cause.TheVariants as cause
use Rattle.lexer.specs.Lexemes.{Lexeme, name, number, fixed}
use Rattle.grammar.specs.Tree as tree
use Rattle.grammar.specs.Tree.{Name, items, Pin, Subscript, all, bit, range, Connection}
use Rattle.grammar.specs.Progress.{Side, ins, outs, Line, End, near, far, State, start, chip, called, opened, pin, pin_named, width_open, width_read, pin_wide, ins_read, headed, parts, first_line, next_line, part_named, connection, end_named, sub_open, sub_low, sub_dots, sub_high, end_read, equals, constant_read, closed, done, Next, go, stop, wanted, pins_read, after_pin, with_connection, part_of, after_connection, after_end, follow}
use Rattle.catalogue.specs.declared.records.Span.{Span}
use Rattle.kit.specs.declared.shape.Side as code
use Rattle.catalogue.specs.declared.records.FarEnd.{FarEnd}
use Rattle.catalogue.specs.Records.{Records, span, width_of, far_of}
use Rattle.progress.specs.declared.state.Near.{Near}
use Rattle.progress.specs.Shapes.{shape, near_of, side_of}
use Rattle.parser.specs.declared.events.Event.{Event}
use Rattle.parser.specs.declared.events.Event.TheVariants as event
use Rattle.parser.specs.Flaws.{BadPin, Ending, Flaw, other_name, many_pins, many_parts, more_parts, many_connections, bad_pin, bad_wide_pin, declared, connected}
use Rattle.parser.specs.Events.{event_of}
use Rattle.parser.specs.Views.{View, view, view_pins, side_view, header_view, line_view}
use Rattle.parser.specs.Keeping.{Sound}

-- what is wrong with a name, in a text whose chip is to have the name x and behind the records r
abbrev NameFlaw : List ℕ → Records → State → List ℕ → Type 0
NameFlaw x r start n = ⊥
NameFlaw x r chip n = (n ≡ x → ⊥)
NameFlaw x r (called c) n = ⊥
NameFlaw x r (opened c) n = ⊥
NameFlaw x r (pin d ps) n = 1024 ≤ length r.pins + length (declared d ps)
NameFlaw x r (pin_named d ps p) n = ⊥
NameFlaw x r (width_open d ps p) n = ⊥
NameFlaw x r (width_read d ps p m) n = ⊥
NameFlaw x r (pin_wide d ps p m) n = ⊥
NameFlaw x r (ins_read c q) n = ⊥
NameFlaw x r (headed h) n = ⊥
NameFlaw x r (parts h) n = ⊥
NameFlaw x r (first_line h) n = 1024 ≤ length r.parts
NameFlaw x r (next_line h q) n = 1024 ≤ length r.parts + length (items q)
NameFlaw x r (part_named h ps p) n = ⊥
NameFlaw x r (connection l) n = 4096 ≤ length r.connections + (connected l.before + length l.connections)
NameFlaw x r (end_named e) n = ⊥
NameFlaw x r (sub_open e) n = ⊥
NameFlaw x r (sub_low e m) n = ⊥
NameFlaw x r (sub_dots e m) n = ⊥
NameFlaw x r (sub_high e m k) n = ⊥
NameFlaw x r (end_read e s) n = ⊥
NameFlaw x r (equals l f s) n = ⊥
NameFlaw x r (constant_read l c) n = ⊥
NameFlaw x r (closed h ps p) n = ⊥
NameFlaw x r (done c) n = ⊥

-- and with a mark
abbrev MarkFlaw : State → List ℕ → Type 0
MarkFlaw start w = ⊥
MarkFlaw chip w = ⊥
MarkFlaw (called c) w = ⊥
MarkFlaw (opened c) w = ⊥
MarkFlaw (pin d ps) w = ⊥
MarkFlaw (pin_named d ps p) w = Ending w × BadPin d ps (record { name = p; width = None })
MarkFlaw (width_open d ps p) w = ⊥
MarkFlaw (width_read d ps p m) w = ⊥
MarkFlaw (pin_wide d ps p m) w = Ending w × BadPin d ps (record { name = p; width = Some m })
MarkFlaw (ins_read c q) w = ⊥
MarkFlaw (headed h) w = ⊥
MarkFlaw (parts h) w = ⊥
MarkFlaw (first_line h) w = ⊥
MarkFlaw (next_line h q) w = ⊥
MarkFlaw (part_named h ps p) w = ⊥
MarkFlaw (connection l) w = ⊥
MarkFlaw (end_named e) w = ⊥
MarkFlaw (sub_open e) w = ⊥
MarkFlaw (sub_low e m) w = ⊥
MarkFlaw (sub_dots e m) w = ⊥
MarkFlaw (sub_high e m k) w = ⊥
MarkFlaw (end_read e s) w = ⊥
MarkFlaw (equals l n s) w = ⊥
MarkFlaw (constant_read l c) w = ⊥
MarkFlaw (closed h ps p) w = ⊥
MarkFlaw (done c) w = ⊥

abbrev Wrong : List ℕ → Records → State → Lexeme → Type 0
Wrong x r st (name i n) = NameFlaw x r st n
Wrong x r st (number n) = ⊥
Wrong x r st (fixed w) = MarkFlaw st w

wrong : {x : List ℕ} {r : Records} {st : State} {w : Lexeme} {k : Cause} → Flaw x r st w k → Wrong x r st w
wrong (other_name i n h) = h
wrong (many_pins d ps i n h) = h
wrong (many_parts h i n g) = g
wrong (more_parts h ps i n g) = g
wrong (many_connections l i n h) = h
wrong (bad_pin d ps p w e b) = (e, b)
wrong (bad_wide_pin d ps p m w e b) = (e, b)

-- the lexeme has no flaw
abbrev pub Free : State → Lexeme → Type 0
Free st w = (x : List ℕ) (r : Records) (k : Cause) → Flaw x r st w k → ⊥

-- it has just one, where C says
pub record Judged (st : State) (w : Lexeme) (k : Cause) (C : List ℕ → Records → Type 0) : Type 0 where
  pub flawed : (x : List ℕ) (r : Records) → C x r → Flaw x r st w k
  pub only : (x : List ℕ) (r : Records) (j : Cause) → Flaw x r st w j → C x r

-- a side is begun; a pin has its name; a pin is complete; a part line is begun; a connection is
abbrev pub turned : View → code.Side → View
turned v d =
    record { before = view_pins v; side = d; pins = []; named = v.named; lines = v.lines; begun = v.begun; row = v.row; joining = v.joining }

abbrev pub naming : View → Name → View
naming v n =
    record { before = v.before; side = v.side; pins = v.pins; named = n ∷ []; lines = v.lines; begun = v.begun; row = v.row; joining = v.joining }

abbrev pub pinned : View → Pin → View
pinned v p =
    record { before = v.before; side = v.side; pins = v.pins ++ p ∷ []; named = []; lines = v.lines; begun = v.begun; row = v.row; joining = v.joining }

abbrev pub lining : View → View
lining v =
    record { before = v.before; side = v.side; pins = v.pins; named = v.named; lines = v.lines; begun = 1; row = v.row; joining = v.joining }

abbrev pub joining : View → View
joining v =
    record { before = v.before; side = v.side; pins = v.pins; named = v.named; lines = v.lines; begun = v.begun; row = v.row; joining = 1 }

-- a connection of a part line is complete, and the last one if so
abbrev pub joined : Line → Connection → Bool → View
joined l c last = cond last (header_view l.header (l.before ++ part_of l c ∷ []) 0 [] 0) (line_view (with_connection l c) 0)

pub record Turns (st : State) (w : Lexeme) (to : State) : Type 0 where
  pub side : code.Side
  pub first : (view st).before ≡ []
  pub ins : (view st).side ≡ code.TheVariants.In
  pub moved : view to ≡ turned (view st) side
  pub free : Free st w

pub record Called (st : State) (w : Lexeme) (to : State) : Type 0 where
  pub at : ℕ
  pub bytes : List ℕ
  pub is : w ≡ name at bytes
  pub same : view to ≡ view st
  pub judged : Judged st w cause.OtherChipName (λ x r. bytes ≡ x → ⊥)

pub record PinBegins (st : State) (w : Lexeme) (to : State) : Type 0 where
  pub at : ℕ
  pub bytes : List ℕ
  pub is : w ≡ name at bytes
  pub moved : view to ≡ naming (view st) (record { first = at; bytes = bytes })
  pub judged : Judged st w cause.TooManyRecords (λ x r. 1024 ≤ length r.pins + length (view_pins (view st)))

pub record PartBegins (st : State) (w : Lexeme) (to : State) : Type 0 where
  pub moved : view to ≡ lining (view st)
  pub judged : Judged st w cause.TooManyRecords (λ x r. 1024 ≤ length r.parts + length (view st).lines)

pub record ConnectionBegins (st : State) (w : Lexeme) (to : State) : Type 0 where
  pub moved : view to ≡ joining (view st)
  pub judged : Judged st w cause.TooManyRecords (λ x r. 4096 ≤ length r.connections + (connected (view st).lines + length (view st).row))

pub record PinEnds (st : State) (w : Lexeme) (to : State) (d : code.Side) (n : Span) (m : ℕ) : Type 0 where
  pub side : Side
  pub pins : List Pin
  pub pin : Pin
  pub on : d ≡ side_of side
  pub name : n ≡ span pin.name
  pub width : m ≡ width_of pin
  pub was : view st ≡ side_view side pins (pin.name ∷ [])
  pub moved : view to ≡ pinned (side_view side pins (pin.name ∷ [])) pin
  pub judged : Judged st w cause.BadPin (λ x r. BadPin side pins pin)

pub record ConnectionEnds (st : State) (w : Lexeme) (to : State) (f : Near) (g : FarEnd) (part : Option Span) : Type 0 where
  pub line : Line
  pub connection : Connection
  pub last : Bool
  pub told : part ≡ cond last (Some (span line.name)) None
  pub near : f ≡ near_of connection.near connection.bits
  pub far : g ≡ far_of connection.far
  pub was : view st ≡ line_view line 1
  pub moved : view to ≡ joined line connection last
  pub free : Free st w

-- what the lexeme w makes of what is read, where it says this to the catalogue
abbrev pub Effect : State → Lexeme → State → Option Event → Type 0
Effect st w to None = (view to ≡ view st) × Free st w
Effect st w to (Some event.ChipNamed) = Called st w to
Effect st w to (Some event.SideBegun) = Turns st w to
Effect st w to (Some event.PinBegun) = PinBegins st w to
Effect st w to (Some event.PartBegun) = PartBegins st w to
Effect st w to (Some event.ConnectionBegun) = ConnectionBegins st w to
Effect st w to (Some (event.PinEnded d n m)) = PinEnds st w to d n m
Effect st w to (Some (event.ConnectionEnded f g part)) = ConnectionEnds st w to f g part

abbrev pub Outcome : State → Lexeme → Next → Type 0
Outcome st w (go to) = Effect st w to (event_of (shape st) (shape to)) × Sound to
Outcome st w stop = Unit {0}

-- the wanted word goes on, and else another way
turn : (st : State) (w v : List ℕ) (to : State) (y : Next) → (w ≡ v → Outcome st (fixed w) (go to)) → Outcome st (fixed w) y → Outcome st (fixed w) (wanted w v (go to) y)
turn st w v to y f q = cond_both (bytes_eq w v) (go to) y (Outcome st (fixed w)) (λ t. f ((bytes_eq-Decides w v).0 t)) (λ _. q)

sole : (st : State) (w v : List ℕ) (to : State) → Outcome st (fixed w) (go to) → Outcome st (fixed w) (wanted w v (go to) stop)
sole st w v to f = turn st w v to stop (λ _. f) tt

bracket : (w : List ℕ) → w ≡ codes "[" → Ending w → ⊥
bracket w e h =
    let first : List ℕ → ℕ = λ l. get_or l 0 0 in
    ⊎_elim (λ k. let z = ap first (sym e ∙ k) in omega (arith, z)) (λ k. let z = ap first (sym e ∙ k) in omega (arith, z)) h

-- behind a pin
module _ (d : Side) (ps : List Pin) (n : Name) (w : List ℕ) (to : State) (e : Ending w) where
  named_ends : view to ≡ pinned (side_view d ps (n ∷ [])) (record { name = n; width = None }) → PinEnds (pin_named d ps n) (fixed w) to (side_of d) (span n) 1
  named_ends h = record {
    side = d;
    pins = ps;
    pin = record { name = n; width = None };
    on = refl;
    name = refl;
    width = refl;
    was = refl;
    moved = h;
    judged = record { flawed = λ x r b. bad_pin d ps n w e b; only = λ x r k f. (wrong f).1 };
  }

  wide_ends : (m : ℕ) → view to ≡ pinned (side_view d ps (n ∷ [])) (record { name = n; width = Some m }) → PinEnds (pin_wide d ps n m) (fixed w) to (side_of d) (span n) m
  wide_ends m h = record {
    side = d;
    pins = ps;
    pin = record { name = n; width = Some m };
    on = refl;
    name = refl;
    width = refl;
    was = refl;
    moved = h;
    judged = record { flawed = λ x r b. bad_wide_pin d ps n m w e b; only = λ x r k f. (wrong f).1 };
  }

behind_named : (d : Side) (ps : List Pin) (n : Name) (w : List ℕ) → Outcome (pin_named d ps n) (fixed w) (after_pin d ps (record { name = n; width = None }) w)
behind_named (ins c) ps n w =
    let p : Pin = record { name = n; width = None } in
    let more = pin (ins c) (ps ++ p ∷ []) in
    let all_read = pins_read (ins c) (record { init = ps; last = p }) in
    turn (pin_named (ins c) ps n) w (codes ",") more _ (λ e. (named_ends (ins c) ps n w more (inl e) refl, tt))
    (turn (pin_named (ins c) ps n) w (codes ";") all_read stop (λ e. (named_ends (ins c) ps n w all_read (inr e) refl, tt)) tt)
behind_named (outs c i) ps n w =
    let p : Pin = record { name = n; width = None } in
    let more = pin (outs c i) (ps ++ p ∷ []) in
    let all_read = pins_read (outs c i) (record { init = ps; last = p }) in
    turn (pin_named (outs c i) ps n) w (codes ",") more _ (λ e. (named_ends (outs c i) ps n w more (inl e) refl, tt))
    (turn (pin_named (outs c i) ps n) w (codes ";") all_read stop (λ e. (named_ends (outs c i) ps n w all_read (inr e) refl, tt)) tt)

behind_wide : (d : Side) (ps : List Pin) (n : Name) (m : ℕ) (w : List ℕ) → Outcome (pin_wide d ps n m) (fixed w) (after_pin d ps (record { name = n; width = Some m }) w)
behind_wide (ins c) ps n m w =
    let p : Pin = record { name = n; width = Some m } in
    let more = pin (ins c) (ps ++ p ∷ []) in
    let all_read = pins_read (ins c) (record { init = ps; last = p }) in
    turn (pin_wide (ins c) ps n m) w (codes ",") more _ (λ e. (wide_ends (ins c) ps n w more (inl e) m refl, tt))
    (turn (pin_wide (ins c) ps n m) w (codes ";") all_read stop (λ e. (wide_ends (ins c) ps n w all_read (inr e) m refl, tt)) tt)
behind_wide (outs c i) ps n m w =
    let p : Pin = record { name = n; width = Some m } in
    let more = pin (outs c i) (ps ++ p ∷ []) in
    let all_read = pins_read (outs c i) (record { init = ps; last = p }) in
    turn (pin_wide (outs c i) ps n m) w (codes ",") more _ (λ e. (wide_ends (outs c i) ps n w more (inl e) m refl, tt))
    (turn (pin_wide (outs c i) ps n m) w (codes ";") all_read stop (λ e. (wide_ends (outs c i) ps n w all_read (inr e) m refl, tt)) tt)

-- behind a connection
connection_ends :
    (st : State) (w : Lexeme) (to : State) (l : Line) (c : Connection) (g : FarEnd) (last : Bool) → view st ≡ line_view l 1 → view to ≡ joined l c last →
    g ≡ far_of c.far → Free st w → ConnectionEnds st w to (near_of c.near c.bits) g (cond last (Some (span l.name)) None)
connection_ends st w to l c g last h k e f = record { line = l; connection = c; last = last; told = refl; near = refl; far = e; was = h; moved = k; free = f }

behind_end : (e : End) (s : Subscript) (w : List ℕ) → Outcome (end_read e s) (fixed w) (after_end e s w)
behind_end (near l n) s w = sole (end_read (near l n) s) w (codes "=") (equals l n s) ((refl, λ x r k f. wrong f), tt)
behind_end (far l n s f) t w =
    let c : Connection = record { near = n; bits = s; far = tree.pin f t } in
    turn (end_read (far l n s f) t) w (codes ",") (connection (with_connection l c)) _ (λ _. (connection_ends (end_read (far l n s f) t) (fixed w) (connection (with_connection l c)) l c _ false refl refl refl (λ x r k f. wrong f), tt))
    (sole (end_read (far l n s f) t) w (codes ")") (closed l.header l.before (part_of l c)) (connection_ends (end_read (far l n s f) t) (fixed w) (closed l.header l.before (part_of l c)) l c _ true refl refl refl (λ x r k f. wrong f), tt))

behind_name : (e : End) (w : List ℕ) → Outcome (end_named e) (fixed w) (after_end e all w)
behind_name (near l n) w = sole (end_named (near l n)) w (codes "=") (equals l n all) ((refl, λ x r k f. wrong f), tt)
behind_name (far l n s f) w =
    let c : Connection = record { near = n; bits = s; far = tree.pin f all } in
    turn (end_named (far l n s f)) w (codes ",") (connection (with_connection l c)) _ (λ _. (connection_ends (end_named (far l n s f)) (fixed w) (connection (with_connection l c)) l c _ false refl refl refl (λ x r k f. wrong f), tt))
    (sole (end_named (far l n s f)) w (codes ")") (closed l.header l.before (part_of l c)) (connection_ends (end_named (far l n s f)) (fixed w) (closed l.header l.before (part_of l c)) l c _ true refl refl refl (λ x r k f. wrong f), tt))

behind_constant : (l : Line) (c : Connection) → Sound (constant_read l c) → (w : List ℕ) → Outcome (constant_read l c) (fixed w) (after_connection l c w)
behind_constant l c h w =
    turn (constant_read l c) w (codes ",") (connection (with_connection l c)) _ (λ _. (connection_ends (constant_read l c) (fixed w) (connection (with_connection l c)) l c _ false refl refl h (λ x r k f. wrong f), tt))
    (sole (constant_read l c) w (codes ")") (closed l.header l.before (part_of l c)) (connection_ends (constant_read l c) (fixed w) (closed l.header l.before (part_of l c)) l c _ true refl refl h (λ x r k f. wrong f), tt))

-- each lexeme that goes on
pub effects : (st : State) (w : Lexeme) → Sound st → Outcome st w (follow st w)
effects start (name i b) _ = tt
effects start (number a) _ = tt
effects start (fixed w) _ = sole start w (codes "CHIP") chip ((refl, λ x r k f. wrong f), tt)
effects chip (name i b) _ = (record { at = i; bytes = b; is = refl; same = refl; judged = record { flawed = λ x r h. other_name i b h; only = λ x r k f. wrong f } }, tt)
effects chip (number a) _ = tt
effects chip (fixed w) _ = tt
effects (called c) (name i b) _ = tt
effects (called c) (number a) _ = tt
effects (called c) (fixed w) _ = sole (called c) w (codes "{") (opened c) ((refl, λ x r k f. wrong f), tt)
effects (opened c) (name i b) _ = tt
effects (opened c) (number a) _ = tt
effects (opened c) (fixed w) _ = turn (opened c) w (codes "IN") (pin (ins c) []) _ (λ _. (record { side = code.TheVariants.In; first = refl; ins = refl; moved = refl; free = λ x r k f. wrong f }, tt)) (sole (opened c) w (codes "OUT") (pin (outs c None) []) (record { side = code.TheVariants.Out; first = refl; ins = refl; moved = refl; free = λ x r k f. wrong f }, tt))
effects (pin d ps) (name i b) _ = (record { at = i; bytes = b; is = refl; moved = refl; judged = record { flawed = λ x r h. many_pins d ps i b h; only = λ x r k f. wrong f } }, tt)
effects (pin d ps) (number a) _ = tt
effects (pin d ps) (fixed w) _ = tt
effects (pin_named d ps p) (name i b) _ = tt
effects (pin_named d ps p) (number a) _ = tt
effects (pin_named d ps p) (fixed w) _ = turn (pin_named d ps p) w (codes "[") (width_open d ps p) _ (λ e. ((refl, λ x r k f. bracket w e (wrong f).0), tt)) (behind_named d ps p w)
effects (width_open d ps p) (name i b) _ = tt
effects (width_open d ps p) (number a) _ = ((refl, λ x r k f. wrong f), tt)
effects (width_open d ps p) (fixed w) _ = tt
effects (width_read d ps p m) (name i b) _ = tt
effects (width_read d ps p m) (number a) _ = tt
effects (width_read d ps p m) (fixed w) _ = sole (width_read d ps p m) w (codes "]") (pin_wide d ps p m) ((refl, λ x r k f. wrong f), tt)
effects (pin_wide d ps p m) (name i b) _ = tt
effects (pin_wide d ps p m) (number a) _ = tt
effects (pin_wide d ps p m) (fixed w) _ = behind_wide d ps p m w
effects (ins_read c q) (name i b) _ = tt
effects (ins_read c q) (number a) _ = tt
effects (ins_read c q) (fixed w) _ = sole (ins_read c q) w (codes "OUT") (pin (outs c (Some q)) []) (record { side = code.TheVariants.Out; first = refl; ins = refl; moved = refl; free = λ x r k f. wrong f }, tt)
effects (headed h) (name i b) _ = tt
effects (headed h) (number a) _ = tt
effects (headed h) (fixed w) _ = sole (headed h) w (codes "PARTS") (parts h) ((refl, λ x r k f. wrong f), tt)
effects (parts h) (name i b) _ = tt
effects (parts h) (number a) _ = tt
effects (parts h) (fixed w) _ = sole (parts h) w (codes ":") (first_line h) ((refl, λ x r k f. wrong f), tt)
effects (first_line h) (name i b) _ = (record { moved = refl; judged = record { flawed = λ x r g. many_parts h i b (omega (arith, g)); only = λ x r k f. let g = wrong f in omega (arith, g) } }, tt)
effects (first_line h) (number a) _ = tt
effects (first_line h) (fixed w) _ = tt
effects (next_line h q) (name i b) _ = (record { moved = refl; judged = record { flawed = λ x r g. more_parts h q i b g; only = λ x r k f. wrong f } }, tt)
effects (next_line h q) (number a) _ = tt
effects (next_line h q) (fixed w) _ = sole (next_line h q) w (codes "}") (done (record { header = h; parts = q })) ((refl, λ x r k f. wrong f), tt)
effects (part_named h ps p) (name i b) _ = tt
effects (part_named h ps p) (number a) _ = tt
effects (part_named h ps p) (fixed w) _ = sole (part_named h ps p) w (codes "(") (connection (record { header = h; before = ps; name = p; connections = [] })) ((refl, λ x r k f. wrong f), tt)
effects (connection l) (name i b) _ = (record { moved = refl; judged = record { flawed = λ x r g. many_connections l i b g; only = λ x r k f. wrong f } }, tt)
effects (connection l) (number a) _ = tt
effects (connection l) (fixed w) _ = tt
effects (end_named e) (name i b) _ = tt
effects (end_named e) (number a) _ = tt
effects (end_named e) (fixed w) _ = turn (end_named e) w (codes "[") (sub_open e) _ (λ _. ((refl, λ x r k f. wrong f), tt)) (behind_name e w)
effects (sub_open e) (name i b) _ = tt
effects (sub_open e) (number a) _ = ((refl, λ x r k f. wrong f), tt)
effects (sub_open e) (fixed w) _ = tt
effects (sub_low e m) (name i b) _ = tt
effects (sub_low e m) (number a) _ = tt
effects (sub_low e m) (fixed w) _ = turn (sub_low e m) w (codes "]") (end_read e (bit m)) _ (λ _. ((refl, λ x r k f. wrong f), tt)) (sole (sub_low e m) w (codes "..") (sub_dots e m) ((refl, λ x r k f. wrong f), tt))
effects (sub_dots e m) (name i b) _ = tt
effects (sub_dots e m) (number a) _ = ((refl, λ x r k f. wrong f), tt)
effects (sub_dots e m) (fixed w) _ = tt
effects (sub_high e m k) (name i b) _ = tt
effects (sub_high e m k) (number a) _ = tt
effects (sub_high e m k) (fixed w) _ = sole (sub_high e m k) w (codes "]") (end_read e (range m k)) ((refl, λ x r k f. wrong f), tt)
effects (end_read e s) (name i b) _ = tt
effects (end_read e s) (number a) _ = tt
effects (end_read e s) (fixed w) _ = behind_end e s w
effects (equals l n s) (name i b) _ = ((refl, λ x r k f. wrong f), tt)
effects (equals l n s) (number a) _ = tt
effects (equals l n s) (fixed w) _ = turn (equals l n s) w (codes "true") (constant_read l (record { near = n; bits = s; far = tree.constant true })) _ (λ _. ((refl, λ x r k f. wrong f), refl)) (sole (equals l n s) w (codes "false") (constant_read l (record { near = n; bits = s; far = tree.constant false })) ((refl, λ x r k f. wrong f), refl))
effects (constant_read l c) (name i b) _ = tt
effects (constant_read l c) (number a) _ = tt
effects (constant_read l c) (fixed w) h = behind_constant l c h w
effects (closed h ps p) (name i b) _ = tt
effects (closed h ps p) (number a) _ = tt
effects (closed h ps p) (fixed w) _ = sole (closed h ps p) w (codes ";") (next_line h (record { init = ps; last = p })) ((refl, λ x r k f. wrong f), tt)
effects (done c) (name i b) _ = tt
effects (done c) (number a) _ = tt
effects (done c) (fixed w) _ = tt
