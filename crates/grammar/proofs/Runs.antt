-- A chip's lexemes are read as that chip.
use Rattle.std.proofs.Common.{◌≡◌, ℕ, true, false, List, [], ◌∷◌, ◌++◌, Some, None, codes, Option, sym, refl, ap, ◌∙◌, append_assoc, append-nil}
use Rattle.std.specs.List.{flat_map}
use Rattle.lexer.specs.Lexemes.{Lexeme, fixed}
use Rattle.grammar.specs.Tree as tree
use Rattle.grammar.specs.Tree.{Name, Row, items, Pin, Subscript, all, bit, range, FarEnd, Connection, Part, Header, Chip}
use Rattle.grammar.specs.Spelling.{mark, named, separated, pin_words, pins_words, subscript_words, far_words, connection_words, part_words, header_words, parts_words, chip_words}
use Rattle.grammar.specs.Progress.{Side, ins, outs, Line, State, start, pin, headed, first_line, next_line, part_named, connection, equals, closed, done, Next, go, stop, pins_read, with_connection, part_of, follow, run}
use Rattle.grammar.proofs.Fronts.{commas}

-- lexemes behind others
pub run_append : (us ws : List Lexeme) (x : Next) → run (us ++ ws) x ≡ run ws (run us x)
run_append [] ws x = refl
run_append (u ∷ us) ws (go st) = run_append us ws (follow st u)
run_append (u ∷ us) [] stop = refl
run_append (u ∷ us) (w ∷ ws) stop = refl

-- one lexeme more
pub run_push : (ws : List Lexeme) (w : Lexeme) (st : State) → run ws (go start) ≡ go st → run (ws ++ w ∷ []) (go start) ≡ follow st w
run_push ws w st h = run_append ws (w ∷ []) (go start) ∙ ap (run (w ∷ [])) h

-- where reading stopped, it stays so
pub run_stop : (ws : List Lexeme) → run ws stop ≡ stop
run_stop [] = refl
run_stop (w ∷ ws) = refl

-- pins
module _ (d : Side) where
  comma_pin : (ps : List Pin) (n : Name) (w : Option ℕ) (ws : List Lexeme) → run ((pin_words (record { name = n; width = w }) ++ mark (codes ",")) ++ ws) (go (pin d ps)) ≡ run ws (go (pin d (ps ++ record { name = n; width = w } ∷ [])))
  comma_pin ps n None ws = refl
  comma_pin ps n (Some w) ws = refl

  last_pin : (ps : List Pin) (n : Name) (w : Option ℕ) (ws : List Lexeme) → run (pin_words (record { name = n; width = w }) ++ (fixed (codes ";") ∷ ws)) (go (pin d ps)) ≡ run ws (go (pins_read d (record { init = ps; last = record { name = n; width = w } })))
  last_pin ps n None ws = refl
  last_pin ps n (Some w) ws = refl

  comma_pins : (qs ps : List Pin) (ws : List Lexeme) → run (commas pin_words qs ++ ws) (go (pin d ps)) ≡ run ws (go (pin d (ps ++ qs)))
  comma_pins [] ps ws = simp append-nil
  comma_pins (q ∷ qs) ps ws =
      ap (λ l. run l (go (pin d ps))) (append_assoc (pin_words q ++ mark (codes ",")) (commas pin_words qs) ws)
      ∙ comma_pin ps q.name q.width (commas pin_words qs ++ ws)
      ∙ comma_pins qs (ps ++ q ∷ []) ws
      ∙ ap (λ l. run ws (go (pin d l))) (append_assoc ps (q ∷ []) qs)

  pub pins_run : (r : Row Pin) (ws : List Lexeme) → run (pins_words r ++ ws) (go (pin d [])) ≡ run ws (go (pins_read d r))
  pins_run r ws =
      ap (λ l. run l (go (pin d []))) (append_assoc (separated pin_words r) (mark (codes ";")) ws ∙ append_assoc (commas pin_words r.init) (pin_words r.last) (fixed (codes ";") ∷ ws))
      ∙ comma_pins r.init [] (pin_words r.last ++ (fixed (codes ";") ∷ ws))
      ∙ last_pin r.init r.last.name r.last.width ws

-- a header
with_ins : (n : Name) (i : Option (Row Pin)) (o : Row Pin) (ws : List Lexeme) → run (header_words (record { name = n; ins = i; outs = o }) ++ ws) (go start) ≡ run ws (go (headed (record { name = n; ins = i; outs = o })))
with_ins n None o ws = pins_run (outs n None) o ws
with_ins n (Some i) o ws =
    ap (λ l. run l (go (pin (ins n) []))) (append_assoc (pins_words i) (fixed (codes "OUT") ∷ pins_words o) ws)
    ∙ pins_run (ins n) i (fixed (codes "OUT") ∷ (pins_words o ++ ws))
    ∙ pins_run (outs n (Some i)) o ws

pub header_run : (h : Header) (ws : List Lexeme) → run (header_words h ++ ws) (go start) ≡ run ws (go (headed h))
header_run h ws = with_ins h.name h.ins h.outs ws

-- a connection: its near end, and its far end with the mark behind it
module _ (l : Line) (n : Name) where
  near_end : (s : Subscript) (ws : List Lexeme) → run (named n ++ (subscript_words s ++ (fixed (codes "=") ∷ ws))) (go (connection l)) ≡ run ws (go (equals l n s))
  near_end all ws = refl
  near_end (bit m) ws = refl
  near_end (range m k) ws = refl

  comma_far : (s : Subscript) (f : FarEnd) (ws : List Lexeme) → run (far_words f ++ (fixed (codes ",") ∷ ws)) (go (equals l n s)) ≡ run ws (go (connection (with_connection l (record { near = n; bits = s; far = f }))))
  comma_far s (tree.constant true) ws = refl
  comma_far s (tree.constant false) ws = refl
  comma_far s (tree.pin f all) ws = refl
  comma_far s (tree.pin f (bit m)) ws = refl
  comma_far s (tree.pin f (range m k)) ws = refl

  last_far : (s : Subscript) (f : FarEnd) (ws : List Lexeme) → run (far_words f ++ (fixed (codes ")") ∷ ws)) (go (equals l n s)) ≡ run ws (go (closed l.header l.before (part_of l (record { near = n; bits = s; far = f }))))
  last_far s (tree.constant true) ws = refl
  last_far s (tree.constant false) ws = refl
  last_far s (tree.pin f all) ws = refl
  last_far s (tree.pin f (bit m)) ws = refl
  last_far s (tree.pin f (range m k)) ws = refl

-- its lexemes, one group behind another
apart : (c : Connection) (ws : List Lexeme) → connection_words c ++ ws ≡ named c.near ++ (subscript_words c.bits ++ (fixed (codes "=") ∷ (far_words c.far ++ ws)))
apart c ws = simp append_assoc

comma_connection : (l : Line) (c : Connection) (ws : List Lexeme) → run ((connection_words c ++ mark (codes ",")) ++ ws) (go (connection l)) ≡ run ws (go (connection (with_connection l c)))
comma_connection l c ws =
    ap (λ us. run us (go (connection l))) (append_assoc (connection_words c) (mark (codes ",")) ws ∙ apart c (fixed (codes ",") ∷ ws))
    ∙ near_end l c.near c.bits (far_words c.far ++ (fixed (codes ",") ∷ ws))
    ∙ comma_far l c.near c.bits c.far ws

last_connection : (l : Line) (c : Connection) (ws : List Lexeme) → run (connection_words c ++ (fixed (codes ")") ∷ ws)) (go (connection l)) ≡ run ws (go (closed l.header l.before (part_of l c)))
last_connection l c ws =
    ap (λ us. run us (go (connection l))) (apart c (fixed (codes ")") ∷ ws))
    ∙ near_end l c.near c.bits (far_words c.far ++ (fixed (codes ")") ∷ ws))
    ∙ last_far l c.near c.bits c.far ws

-- a part line, behind its name
module _ (h : Header) (ps : List Part) (n : Name) where
  abbrev line : List Connection → Line
  line cs = record { header = h; before = ps; name = n; connections = cs }

  comma_connections : (ds cs : List Connection) (ws : List Lexeme) → run (commas connection_words ds ++ ws) (go (connection (line cs))) ≡ run ws (go (connection (line (cs ++ ds))))
  comma_connections [] cs ws = simp append-nil
  comma_connections (d ∷ ds) cs ws =
      ap (λ us. run us (go (connection (line cs)))) (append_assoc (connection_words d ++ mark (codes ",")) (commas connection_words ds) ws)
      ∙ comma_connection (line cs) d (commas connection_words ds ++ ws)
      ∙ comma_connections ds (cs ++ d ∷ []) ws
      ∙ ap (λ us. run ws (go (connection (line us)))) (append_assoc cs (d ∷ []) ds)

  part_run : (r : Row Connection) (ws : List Lexeme) → run (fixed (codes "(") ∷ ((separated connection_words r ++ (fixed (codes ")") ∷ mark (codes ";"))) ++ ws)) (go (part_named h ps n)) ≡ run ws (go (next_line h (record { init = ps; last = record { name = n; connections = r } })))
  part_run r ws =
      ap (λ us. run us (go (connection (line [])))) (append_assoc (separated connection_words r) (fixed (codes ")") ∷ mark (codes ";")) ws ∙ append_assoc (commas connection_words r.init) (connection_words r.last) (fixed (codes ")") ∷ (fixed (codes ";") ∷ ws)))
      ∙ comma_connections r.init [] (connection_words r.last ++ (fixed (codes ")") ∷ (fixed (codes ";") ∷ ws)))
      ∙ last_connection (line r.init) r.last (fixed (codes ";") ∷ ws)

-- part lines
module _ (h : Header) where
  next_part : (r : Row Part) (p : Part) (ws : List Lexeme) → run (part_words p ++ ws) (go (next_line h r)) ≡ run ws (go (next_line h (record { init = items r; last = p })))
  next_part r p ws = part_run h (items r) p.name p.connections ws

  next_parts : (qs : List Part) (r : Row Part) (p : Part) (ws : List Lexeme) → run ((flat_map part_words qs ++ part_words p) ++ ws) (go (next_line h r)) ≡ run ws (go (next_line h (record { init = items r ++ qs; last = p })))
  next_parts [] r p ws = next_part r p ws ∙ ap (λ l. run ws (go (next_line h (record { init = l; last = p })))) (sym (append-nil (items r)))
  next_parts (q ∷ qs) r p ws =
      ap (λ l. run l (go (next_line h r))) (ap (λ l. l ++ ws) (append_assoc (part_words q) (flat_map part_words qs) (part_words p)) ∙ append_assoc (part_words q) (flat_map part_words qs ++ part_words p) ws)
      ∙ next_part r q ((flat_map part_words qs ++ part_words p) ++ ws)
      ∙ next_parts qs (record { init = items r; last = q }) p ws
      ∙ ap (λ l. run ws (go (next_line h (record { init = l; last = p })))) (append_assoc (items r) (q ∷ []) qs)

  with_parts : (qs : List Part) (p : Part) (ws : List Lexeme) → run ((flat_map part_words qs ++ part_words p) ++ ws) (go (first_line h)) ≡ run ws (go (next_line h (record { init = qs; last = p })))
  with_parts [] p ws = part_run h [] p.name p.connections ws
  with_parts (q ∷ qs) p ws =
      ap (λ l. run l (go (first_line h))) (ap (λ l. l ++ ws) (append_assoc (part_words q) (flat_map part_words qs) (part_words p)) ∙ append_assoc (part_words q) (flat_map part_words qs ++ part_words p) ws)
      ∙ part_run h [] q.name q.connections ((flat_map part_words qs ++ part_words p) ++ ws)
      ∙ next_parts qs (record { init = []; last = q }) p ws

  pub parts_run : (r : Row Part) (ws : List Lexeme) → run (parts_words r ++ ws) (go (first_line h)) ≡ run ws (go (next_line h r))
  parts_run r ws = with_parts r.init r.last ws

pub reads : (c : Chip) → run (chip_words c) (go start) ≡ go (done c)
reads c =
    header_run c.header (fixed (codes "PARTS") ∷ (fixed (codes ":") ∷ (parts_words c.parts ++ mark (codes "}"))))
    ∙ parts_run c.header c.parts (mark (codes "}"))
