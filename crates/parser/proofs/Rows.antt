-- The records of what is complete, with one pin, connection or part line more.
use Rattle.std.proofs.Common.{◌≡◌, ℕ, suc, ◌+◌, List, [], ◌∷◌, ◌++◌, map, length, Some, None, Option, sym, refl, ap, ◌∙◌, add-zero, add_assoc, zero-add, arith}
use Rattle.std.proofs.lemmas.List.{append-nil, append_assoc, length-append, map-append}
use Rattle.kit.specs.declared.shape.Side.{Side}
use Rattle.kit.specs.declared.shape.Side.TheVariants.{In, Out}
use Rattle.catalogue.specs.declared.records.Piece.TheVariants.{Entry}
use Rattle.catalogue.specs.declared.records.PinRecord.{PinRecord}
use Rattle.catalogue.specs.declared.records.PartRecord.{PartRecord}
use Rattle.catalogue.specs.Records.{Records, span, width_of, side_pins, in_pins, connection_record, connection_records, part_records, lines_connections, with_chip}
use Rattle.catalogue.specs.Holding as holding
use Rattle.grammar.specs.Tree.{Name, Row, items, Pin, Connection, Part, Chip}
use Rattle.grammar.specs.Progress.{Line, outs, done, with_connection, part_of}
use Rattle.parser.specs.Flaws.{inputs, bits, connected}
use Rattle.parser.specs.Views.{View, view, view_pins, pin_records, so_far, header_view, line_view}
use Rattle.parser.proofs.Effects.{turned, pinned}

-- a pin of the entry e that begins at this bit
abbrev pub pin_record : ℕ → Side → ℕ → Pin → PinRecord
pin_record e d at p = record { entry = e; name = span p.name; side = d; offset = at; width = width_of p }

-- a part line of the entry e whose connections have this number on
abbrev pub part_record : ℕ → ℕ → Part → PartRecord
part_record e at p = record { entry = e; name = span p.name; connections = at; count = length (items p.connections); piece = Entry 0 }

pub bits_push : (ps : List Pin) (p : Pin) → bits (ps ++ p ∷ []) ≡ bits ps + width_of p
bits_push [] p = omega arith
bits_push (q ∷ ps) p = omega (arith, bits_push ps p)

pub connected_push : (ps : List Part) (p : Part) → connected (ps ++ p ∷ []) ≡ connected ps + length (items p.connections)
connected_push [] p = omega arith
connected_push (q ∷ ps) p = omega (arith, connected_push ps p)

module _ (e : ℕ) where
  pins_push : (d : Side) (at : ℕ) (ps : List Pin) (p : Pin) → side_pins e d at (ps ++ p ∷ []) ≡ side_pins e d at ps ++ pin_record e d (at + bits ps) p ∷ []
  pins_push d at [] p = ap (λ o. pin_record e d o p ∷ []) (sym (add-zero at))
  pins_push d at (q ∷ ps) p =
      ap (λ l. pin_record e d at q ∷ l)
      (pins_push d (at + width_of q) ps p ∙ ap (λ o. side_pins e d (at + width_of q) ps ++ pin_record e d o p ∷ []) (add_assoc at (width_of q) (bits ps)))

  connections_push : (n : ℕ) (cs : List Connection) (c : Connection) → connection_records e n (cs ++ c ∷ []) ≡ connection_records e n cs ++ connection_record e n c ∷ []
  connections_push n [] c = refl
  connections_push n (d ∷ cs) c = ap (λ l. connection_record e n d ∷ l) (connections_push n cs c)

  parts_push : (at : ℕ) (ps : List Part) (p : Part) → part_records e at (ps ++ p ∷ []) ≡ part_records e at ps ++ part_record e (at + connected ps) p ∷ []
  parts_push at [] p = ap (λ o. part_record e o p ∷ []) (sym (add-zero at))
  parts_push at (q ∷ ps) p =
      let n = length (items q.connections) in
      ap (λ l. part_record e at q ∷ l)
      (parts_push (at + n) ps p ∙ ap (λ o. part_records e (at + n) ps ++ part_record e o p ∷ []) (add_assoc at n (connected ps)))

  lines_push : (n : ℕ) (ps : List Part) (p : Part) → lines_connections e n (ps ++ p ∷ []) ≡ lines_connections e n ps ++ connection_records e (n + length ps) (items p.connections)
  lines_push n [] p = append-nil _ ∙ ap (λ k. connection_records e k (items p.connections)) (sym (add-zero n))
  lines_push n (q ∷ ps) p =
      let cs = connection_records e n (items q.connections) in
      let k : n + 1 + length ps ≡ n + suc (length ps) = omega arith in
      ap (λ l. cs ++ l) (lines_push (n + 1) ps p ∙ ap (λ k. lines_connections e (n + 1) ps ++ connection_records e k (items p.connections)) k)
      ∙ sym (append_assoc cs _ _)

  -- how many there are
  length_side : (d : Side) (at : ℕ) (ps : List Pin) → length (side_pins e d at ps) ≡ length ps
  length_side d at [] = refl
  length_side d at (p ∷ ps) = ap suc (length_side d (at + width_of p) ps)

  length_connections : (n : ℕ) (cs : List Connection) → length (connection_records e n cs) ≡ length cs
  length_connections n [] = refl
  length_connections n (c ∷ cs) = ap suc (length_connections n cs)

  length_parts : (at : ℕ) (ps : List Part) → length (part_records e at ps) ≡ length ps
  length_parts at [] = refl
  length_parts at (p ∷ ps) = ap suc (length_parts (at + length (items p.connections)) ps)

  length_lines : (n : ℕ) (ps : List Part) → length (lines_connections e n ps) ≡ connected ps
  length_lines n [] = refl
  length_lines n (p ∷ ps) =
      length-append (connection_records e n (items p.connections)) (lines_connections e (n + 1) ps)
      ∙ omega (arith, length_connections n (items p.connections), length_lines (n + 1) ps)

  -- their names
  side_names : (d : Side) (at : ℕ) (ps : List Pin) → map (λ q. q.name) (side_pins e d at ps) ≡ map (λ p. span p.name) ps
  side_names d at [] = refl
  side_names d at (p ∷ ps) = ap (λ l. span p.name ∷ l) (side_names d (at + width_of p) ps)

  pub record_names : (v : View) → map (λ q. q.name) (pin_records e v) ≡ map (λ p. span p.name) (view_pins v)
  record_names v =
      map-append (λ q. q.name) (side_pins e In 0 v.before) (side_pins e v.side 0 v.pins)
      ∙ ap (λ l. l ++ map (λ q. q.name) (side_pins e v.side 0 v.pins)) (side_names In 0 v.before)
      ∙ ap (λ l. map (λ p. span p.name) v.before ++ l) (side_names v.side 0 v.pins)
      ∙ sym (map-append (λ p. span p.name) v.before v.pins)

  module _ (r : Records) where
    pub count_pins : (v : View) → length (so_far r e v).pins ≡ length r.pins + length (view_pins v)
    count_pins v =
        length-append r.pins (pin_records e v)
        ∙ omega (arith, length-append (side_pins e In 0 v.before) (side_pins e v.side 0 v.pins), length_side In 0 v.before, length_side v.side 0 v.pins, length-append v.before v.pins)

    pub count_parts : (v : View) → length (so_far r e v).parts ≡ length r.parts + length v.lines
    count_parts v = length-append r.parts _ ∙ ap (λ n. length r.parts + n) (length_parts (length r.connections) v.lines)

    pub count_connections : (v : View) → length (so_far r e v).connections ≡ length r.connections + (connected v.lines + length v.row)
    count_connections v =
        let n = length r.parts in
        length-append r.connections _
        ∙ ap (λ k. length r.connections + k)
        (length-append (lines_connections e n v.lines) (connection_records e (n + length v.lines) v.row)
        ∙ omega (arith, length_lines n v.lines, length_connections (n + length v.lines) v.row))

    pub turned_records : (v : View) (d : Side) → v.before ≡ [] → v.side ≡ In → so_far r e (turned v d) ≡ so_far r e v
    turned_records v d h k =
        let same : side_pins e In 0 (v.before ++ v.pins) ++ [] ≡ side_pins e In 0 v.before ++ side_pins e v.side 0 v.pins =
        append-nil _ ∙ ap (λ b. side_pins e In 0 (b ++ v.pins)) h
        ∙ sym (ap (λ b. side_pins e In 0 b ++ side_pins e v.side 0 v.pins) h ∙ ap (λ x. side_pins e x 0 v.pins) k) in
        λ i. record { pins = r.pins ++ same i; parts = (so_far r e v).parts; connections = (so_far r e v).connections }

    pub pinned_records : (v : View) (p : Pin) → so_far r e (pinned v p) ≡ holding.with_pin (so_far r e v) (pin_record e v.side (bits v.pins) p)
    pinned_records v p =
        let more : side_pins e v.side 0 (v.pins ++ p ∷ []) ≡ side_pins e v.side 0 v.pins ++ pin_record e v.side (bits v.pins) p ∷ [] =
        pins_push v.side 0 v.pins p ∙ ap (λ o. side_pins e v.side 0 v.pins ++ pin_record e v.side o p ∷ []) (zero-add (bits v.pins)) in
        let all_pins : r.pins ++ (side_pins e In 0 v.before ++ side_pins e v.side 0 (v.pins ++ p ∷ [])) ≡ (r.pins ++ pin_records e v) ++ pin_record e v.side (bits v.pins) p ∷ [] =
        ap (λ l. r.pins ++ (side_pins e In 0 v.before ++ l)) more ∙ simp append_assoc in
        λ i. record { pins = all_pins i; parts = (so_far r e v).parts; connections = (so_far r e v).connections }

    pub joined_records : (l : Line) (c : Connection) → so_far r e (line_view (with_connection l c) 0) ≡ holding.with_connection (so_far r e (line_view l 1)) (connection_record e (length r.parts + length l.before) c)
    joined_records l c =
        let n = length r.parts in
        let k = n + length l.before in
        let all_joined : r.connections ++ (lines_connections e n l.before ++ connection_records e k (l.connections ++ c ∷ [])) ≡ (r.connections ++ (lines_connections e n l.before ++ connection_records e k l.connections)) ++ connection_record e k c ∷ [] =
        ap (λ x. r.connections ++ (lines_connections e n l.before ++ x)) (connections_push k l.connections c) ∙ simp append_assoc in
        λ i. record { pins = (so_far r e (line_view l 1)).pins; parts = (so_far r e (line_view l 1)).parts; connections = all_joined i }

    pub lined_records :
        (l : Line) (c : Connection) → so_far r e (header_view l.header (l.before ++ part_of l c ∷ []) 0 [] 0)
        ≡ holding.with_part (so_far r e (line_view (with_connection l c) 0)) (part_record e (length r.connections + connected l.before) (part_of l c))
    lined_records l c =
        let n = length r.parts in
        let at = length r.connections in
        let p = part_of l c in
        let lines : r.parts ++ part_records e at (l.before ++ p ∷ []) ≡ (r.parts ++ part_records e at l.before) ++ part_record e (at + connected l.before) p ∷ [] =
        ap (λ x. r.parts ++ x) (parts_push at l.before p) ∙ sym (append_assoc r.parts _ _) in
        let ends : r.connections ++ (lines_connections e n (l.before ++ p ∷ []) ++ []) ≡ r.connections ++ (lines_connections e n l.before ++ connection_records e (n + length l.before) (l.connections ++ c ∷ [])) =
        ap (λ x. r.connections ++ x) (append-nil _ ∙ lines_push n l.before p) in
        λ i. record { pins = (so_far r e (line_view l 1)).pins; parts = lines i; connections = ends i }

    ins_records : (n : Name) (i : Option (Row Pin)) → side_pins e In 0 (inputs (outs n i)) ≡ in_pins e i
    ins_records n None = refl
    ins_records n (Some q) = refl

    pub chip_records : (c : Chip) → so_far r e (view (done c)) ≡ with_chip r e c
    chip_records c =
        let first = ins_records c.header.name c.header.ins in
        let ends : lines_connections e (length r.parts) (items c.parts) ++ [] ≡ lines_connections e (length r.parts) (items c.parts) = append-nil _ in
        λ i. record {
          pins = r.pins ++ (first i ++ side_pins e Out 0 (items c.header.outs));
          parts = (with_chip r e c).parts;
          connections = r.connections ++ ends i;
        }
