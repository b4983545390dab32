-- What a reader keeps from token to token.
use Rattle.std.proofs.Common.{◌≡◌, ℕ, ◌+◌, ◌-◌, ◌<◌, List, [], ◌∷◌, ◌++◌, map, length, get_or, replicate, sym, refl, ap, ◌∙◌, subst, arith}
use Rattle.std.proofs.lemmas.List.{append-nil, append_assoc, length-map, map-append, map_push, get_or-map, get_or_append_left, get_or-append-add}
use Rattle.kit.specs.declared.shape.Side.{Side}
use Rattle.kit.specs.declared.shape.Side.TheVariants.{In}
use Rattle.catalogue.specs.declared.records.Piece.TheVariants.{Entry}
use Rattle.catalogue.specs.declared.records.PinRecord.{PinRecord}
use Rattle.catalogue.specs.declared.records.PartRecord.{PartRecord}
use Rattle.catalogue.specs.declared.room.Catalogue.{Catalogue}
use Rattle.catalogue.specs.Records.{Records, span, blank_pin, connection_record}
use Rattle.catalogue.specs.Holding as holding
use Rattle.catalogue.specs.Holding.{Enough, slices, Fills, Long}
use Rattle.grammar.specs.Tree.{Name, Pin, Connection}
use Rattle.grammar.specs.Progress as grammar
use Rattle.grammar.specs.Progress.{Line, with_connection, part_of}
use Rattle.progress.specs.Shapes.{side_of}
use Rattle.parser.specs.declared.reading.Source.{Source}
use Rattle.parser.specs.Flaws as flaws
use Rattle.parser.specs.Flaws.{connected, BadPin}
use Rattle.parser.specs.Views.{View, view_pins, pin_records, so_far, side_view, header_view, line_view}
use Rattle.parser.specs.Keeping as keeping
use Rattle.catalogue.specs.Cuts.{cut}
use Rattle.parser.specs.Keeping.{Stand, BadRecord, Kept}
use Rattle.parser.proofs.Effects.{turned, naming, pinned, lining, joining}
use Rattle.parser.proofs.Rows.{pin_record, part_record, bits_push, connected_push, record_names, count_pins, count_parts, count_connections, turned_records, pinned_records, joined_records, lined_records}

pub enough_stays : (a b : Catalogue) → Enough (slices a) → Long a b → Enough (slices b)
enough_stays a b h l = record { pins = omega (arith, h.pins, l.0); parts = omega (arith, h.parts, l.1); connections = omega (arith, h.connections, l.2) }

module _ (s : List ℕ) where
  pub stand_append : (ns ms : List Name) → Stand s ns → Stand s ms → Stand s (ns ++ ms)
  stand_append ns ms h k =
      map-append (λ n. n.bytes) ns ms
      ∙ ap (λ l. l ++ map (λ n. n.bytes) ms) h
      ∙ ap (λ l. map (λ n. cut s (span n)) ns ++ l) k
      ∙ sym (map-append (λ n. cut s (span n)) ns ms)

  pub stand_at : (ns : List Name) (k : ℕ) (n : Name) → Stand s ns → k < length ns → (get_or ns k n).bytes ≡ cut s (span (get_or ns k n))
  stand_at ns k n h l =
      sym (get_or-map (λ m. m.bytes) ns k n n.bytes l) ∙ ap (λ x. get_or x k n.bytes) h ∙ get_or-map (λ m. cut s (span m)) ns k n n.bytes l

module _ (t : Source) (r : Records) where
  -- how many records there are
  module _ (v : View) (c : Catalogue) (f : Fills c (so_far r t.entry v)) where
    pub used_pins : c.pins.used ≡ length r.pins + length (view_pins v)
    used_pins = f.pins ∙ count_pins t.entry r v

    pub used_parts : c.parts.used ≡ length r.parts + length v.lines
    used_parts = f.parts ∙ count_parts t.entry r v

    pub used_connections : c.connections.used ≡ length r.connections + (connected v.lines + length v.row)
    used_connections = f.connections ∙ count_connections t.entry r v

  module _ (v : View) (c : Catalogue) (bits line : ℕ) (k : Kept t r v c bits line) where
    pub turned_kept : (d : Side) → v.before ≡ [] → v.side ≡ In → Kept t r (turned v d) c 0 line
    turned_kept d h g =
        let same : view_pins v ++ [] ≡ view_pins v = append-nil _ in
        record {
          enough = k.enough;
          fills = subst (Fills c) (sym (turned_records t.entry r v d h g)) k.fills;
          starts = k.starts;
          wide = refl;
          joined = k.joined;
          stand = subst (λ l. Stand t.bytes.now (map (λ p. p.name) l)) (sym same) k.stand;
          head = k.head;
          pin_room = λ l. subst (λ ps. length r.pins + length ps < 1024) (sym same) (k.pin_room l);
          part_room = k.part_room;
          connection_room = k.connection_room;
        }

    pub naming_kept : (n : Name) → n.bytes ≡ cut t.bytes.now (span n) → length r.pins + length (view_pins v) < 1024 → Kept t r (naming v n) c bits line
    naming_kept n h l = record {
      enough = k.enough;
      fills = k.fills;
      starts = k.starts;
      wide = k.wide;
      joined = k.joined;
      stand = k.stand;
      head = ap (λ b. b ∷ []) h;
      pin_room = λ _. l;
      part_room = k.part_room;
      connection_room = k.connection_room;
    }

    pub lining_kept : length r.parts + length v.lines < 1024 → Kept t r (lining v) c bits line
    lining_kept l = record {
      enough = k.enough;
      fills = k.fills;
      starts = k.starts;
      wide = k.wide;
      joined = k.joined;
      stand = k.stand;
      head = k.head;
      pin_room = k.pin_room;
      part_room = λ _. l;
      connection_room = k.connection_room;
    }

    pub joining_kept : length r.connections + (connected v.lines + length v.row) < 4096 → Kept t r (joining v) c bits line
    joining_kept l = record {
      enough = k.enough;
      fills = k.fills;
      starts = k.starts;
      wide = k.wide;
      joined = k.joined;
      stand = k.stand;
      head = k.head;
      pin_room = k.pin_room;
      part_room = k.part_room;
      connection_room = λ _. l;
    }

    -- the records of the text have the names of its pins
    name_at : (i : ℕ) (p : Pin) → i < length (view_pins v) → (get_or c.pins.rows.now (t.pins + i) blank_pin).name ≡ span (get_or (view_pins v) i p).name
    name_at i p l =
        let rs = pin_records t.entry v in
        let zs = replicate (length c.pins.rows.now - length (r.pins ++ rs)) blank_pin in
        let below : length r.pins + i < length (r.pins ++ rs) = omega (arith, count_pins t.entry r v) in
        let names = record_names t.entry v in
        let long : i < length rs = omega (arith, ap length names, length-map rs (λ q. q.name), length-map (view_pins v) (λ q. span q.name)) in
        ap (λ q. q.name)
        (ap (λ n. get_or c.pins.rows.now (n + i) blank_pin) k.starts
        ∙ ap (λ z. get_or z (length r.pins + i) blank_pin) k.fills.holds.pins
        ∙ get_or_append_left (r.pins ++ rs) zs blank_pin (length r.pins + i) below
        ∙ get_or-append-add r.pins rs i blank_pin)
        ∙ sym (get_or-map (λ q. q.name) rs i blank_pin (span p.name) long)
        ∙ ap (λ x. get_or x i (span p.name)) names
        ∙ get_or-map (λ q. span q.name) (view_pins v) i p (span p.name) l

    bytes_at : (i : ℕ) (p : Pin) → i < length (view_pins v) → (get_or (view_pins v) i p).name.bytes ≡ cut t.bytes.now (get_or c.pins.rows.now (t.pins + i) blank_pin).name
    bytes_at i p l =
        let ns = map (λ q. q.name) (view_pins v) in
        let is : get_or ns i p.name ≡ (get_or (view_pins v) i p).name = get_or-map (λ q. q.name) (view_pins v) i p p.name l in
        ap (λ n. n.bytes) (sym is)
        ∙ stand_at t.bytes.now ns i p.name k.stand (omega (arith, length-map (view_pins v) (λ q. q.name)))
        ∙ ap (λ n. cut t.bytes.now (span n)) is
        ∙ ap (cut t.bytes.now) (sym (name_at i p l))

  -- a pin is complete
  module _ (d : grammar.Side) (ps : List Pin) (p : Pin) (c : Catalogue) (bits line : ℕ) (k : Kept t r (side_view d ps (p.name ∷ [])) c bits line) where
    abbrev v : View
    v = side_view d ps (p.name ∷ [])

    here : p.name.bytes ≡ cut t.bytes.now (span p.name)
    here = stand_at t.bytes.now (p.name ∷ []) 0 p.name k.head (omega arith)

    bad_at : BadRecord t.bytes.now t.pins c (pin_record t.entry (side_of d) bits p) → BadPin d ps p
    bad_at (keeping.twice h) =
        let i = h.at - t.pins in
        let l : i < length (view_pins v) = omega (arith, h.after, h.below, used_pins v c k.fills, k.starts) in
        let at : t.pins + i ≡ h.at = omega (arith, h.after) in
        flaws.twice i l (bytes_at v c bits line k i p l ∙ ap (λ n. cut t.bytes.now (get_or c.pins.rows.now n blank_pin).name) at ∙ h.same ∙ sym here)
    bad_at (keeping.none h) = flaws.none h
    bad_at (keeping.wide h) = flaws.wide h
    bad_at (keeping.full h) = flaws.full (omega (arith, k.wide))

    at_bad : BadPin d ps p → BadRecord t.bytes.now t.pins c (pin_record t.entry (side_of d) bits p)
    at_bad (flaws.twice i l e) = keeping.twice (record {
      at = t.pins + i;
      after = omega arith;
      below = omega (arith, used_pins v c k.fills, k.starts);
      same = sym (bytes_at v c bits line k i p l) ∙ e ∙ here;
    })
    at_bad (flaws.none h) = keeping.none h
    at_bad (flaws.wide h) = keeping.wide h
    at_bad (flaws.full h) = keeping.full (omega (arith, k.wide))

    module _ (q : PinRecord) (is : q ≡ pin_record t.entry (side_of d) bits p) where
      pub bad_record : BadRecord t.bytes.now t.pins c q → BadPin d ps p
      bad_record b = bad_at (subst (BadRecord t.bytes.now t.pins c) is b)

      pub bad_pin : BadPin d ps p → BadRecord t.bytes.now t.pins c q
      bad_pin b = subst (BadRecord t.bytes.now t.pins c) (sym is) (at_bad b)

      pub pinned_kept : (z : Catalogue) → Long c z → Fills z (holding.with_pin (so_far r t.entry v) q) → Kept t r (pinned v p) z (q.offset + q.width) line
      pinned_kept z l f =
          let name_of : Pin → Name = λ x. x.name in
          let names : map name_of (view_pins v) ++ p.name ∷ [] ≡ map name_of (view_pins (pinned v p)) =
          sym (map_push name_of (view_pins v) p) ∙ ap (map name_of) (append_assoc v.before ps (p ∷ [])) in
          record {
            enough = enough_stays c z k.enough l;
            fills = subst (Fills z)
                (ap (holding.with_pin (so_far r t.entry v)) (is ∙ ap (λ n. pin_record t.entry (side_of d) n p) k.wide) ∙ sym (pinned_records t.entry r v p)) f;
            starts = k.starts;
            wide = omega (arith, ap (λ x. x.offset) is, ap (λ x. x.width) is, k.wide, bits_push ps p);
            joined = k.joined;
            stand = subst (Stand t.bytes.now) names (stand_append t.bytes.now _ _ k.stand k.head);
            head = refl;
            pin_room = λ h. omega (arith, h);
            part_room = k.part_room;
            connection_room = k.connection_room;
          }

  -- a connection is complete, and a part line
  module _ (l : Line) (e : Connection) (c z : Catalogue) (g : Long c z) (bits line : ℕ) where
    pub joined_kept : Kept t r (line_view l 1) c bits line → Fills z (holding.with_connection (so_far r t.entry (line_view l 1)) (connection_record t.entry c.parts.used e)) → Kept t r (line_view (with_connection l e) 0) z bits line
    joined_kept k f = record {
      enough = enough_stays c z k.enough g;
      fills = subst (Fills z)
          (ap (λ n. holding.with_connection (so_far r t.entry (line_view l 1)) (connection_record t.entry n e)) (used_parts (line_view l 1) c k.fills) ∙ sym (joined_records t.entry r l e)) f;
      starts = k.starts;
      wide = k.wide;
      joined = k.joined;
      stand = k.stand;
      head = k.head;
      pin_room = k.pin_room;
      part_room = k.part_room;
      connection_room = λ h. omega (arith, h);
    }

    pub lined_kept :
        Kept t r (line_view (with_connection l e) 0) c bits line →
        Fills z (holding.with_part (so_far r t.entry (line_view (with_connection l e) 0)) (record { entry = t.entry; name = span l.name; connections = line; count = c.connections.used - line; piece = Entry 0 })) →
        Kept t r (header_view l.header (l.before ++ part_of l e ∷ []) 0 [] 0) z bits c.connections.used
    lined_kept k f =
        let w = line_view (with_connection l e) 0 in
        let used = used_connections w c k.fills in
        let count : c.connections.used - line ≡ length (l.connections ++ e ∷ []) = omega (arith, used, k.joined) in
        let is : ◌≡◌ {A = PartRecord} (record { entry = t.entry; name = span l.name; connections = line; count = c.connections.used - line; piece = Entry 0 }) (part_record t.entry (length r.connections + connected l.before) (part_of l e)) =
        λ i. record { entry = t.entry; name = span l.name; connections = k.joined i; count = count i; piece = Entry 0 } in
        record {
          enough = enough_stays c z k.enough g;
          fills = subst (Fills z) (ap (holding.with_part (so_far r t.entry w)) is ∙ sym (lined_records t.entry r l e)) f;
          starts = k.starts;
          wide = k.wide;
          joined = used ∙ omega (arith, connected_push l.before (part_of l e));
          stand = k.stand;
          head = k.head;
          pin_room = k.pin_room;
          part_room = λ h. omega (arith, h);
          connection_room = λ h. omega (arith, h);
        }
