-- One token more: what a reader knows then, or the fault that it tells.
use Rattle.std.proofs.Common.{◌≡◌, ℕ, ◌+◌, ◌-◌, ◌<◌, ◌≤◌, Bool, true, false, cond, ◌⊎◌, List, [], ◌∷◌, ◌++◌, length, Some, None, Option, Result, sym, refl, ap, ◌∙◌, subst, inl, inr, ⊎_elim, arith, MatchResult}
use Rattle.std.specs.List.{between}
use Rattle.std.proofs.lemmas.List.{append_assoc, same_from_push}
use Rattle.std.proofs.lemmas.Result.{MatchResult-weaker}
use Rattle.fault.specs.declared.Cause.{Cause}
use Rattle.fault.specs.declared.Cause.TheVariants as cause
use Rattle.fault.specs.declared.Place.{Place}
use Rattle.lexer.specs.declared.tokens.Token.{Token}
use Rattle.lexer.specs.declared.tokens.Token.TheVariants as token
use Rattle.lexer.specs.Lexemes.{Lexeme, name, number, fixed, lexeme, more}
use Rattle.lexer.specs.Steps.{Gives}
use Rattle.lexer.specs.Tokens.{Stands}
use Rattle.lexer.proofs.Bytes.{long}
use Rattle.grammar.specs.Progress as grammar
use Rattle.grammar.specs.Progress.{start, Next, go, stop, follow, run, with_connection}
use Rattle.grammar.proofs.Runs.{run_push}
use Rattle.grammar.proofs.Grammar.{viable, refused}
use Rattle.catalogue.specs.declared.records.Span.{Span}
use Rattle.kit.specs.declared.shape.Side.{Side}
use Rattle.catalogue.specs.declared.records.FarEnd.{FarEnd}
use Rattle.catalogue.specs.declared.records.Piece.TheVariants.{Entry}
use Rattle.catalogue.specs.declared.records.PinRecord.{PinRecord}
use Rattle.catalogue.specs.declared.room.Catalogue.{Catalogue}
use Rattle.catalogue.specs.declared.records.ConnectionRecord.{ConnectionRecord}
use Rattle.catalogue.specs.Records.{Records, span, no_joint, connection_record}
use Rattle.catalogue.specs.Holding as holding
use Rattle.catalogue.specs.Holding.{Fills, Long}
use Rattle.progress.specs.declared.state.Near.{Near}
use Rattle.progress.specs.declared.state.State.{State}
use Rattle.progress.specs.Shapes.{shape, Agrees, side_of}
use Rattle.parser.specs.declared.read_fault.ReadFault.{ReadFault}
use Rattle.parser.specs.declared.read_fault.ReadFault.TheVariants as fault
use Rattle.parser.specs.declared.events.Event.{Event}
use Rattle.parser.specs.declared.events.Event.TheVariants as event
use Rattle.parser.specs.declared.reading.Source.{Source}
use Rattle.parser.specs.declared.reading.Reading.{Reading}
use Rattle.parser.specs.Flaws.{Flaw}
use Rattle.parser.specs.Reading.{Clean, FaultAt, breaks, flawed}
use Rattle.parser.specs.Faults.{fault_of}
use Rattle.parser.specs.Verdicts.{Refused}
use Rattle.parser.specs.Events.{event_of}
use Rattle.parser.specs.Views.{View, view, so_far, side_view, line_view}
use Rattle.catalogue.specs.Cuts.{cut}
use Rattle.parser.specs.Keeping.{BadRecord, Kept, Sound, Known}
use Rattle.parser.proofs.Effects.{Effect, Outcome, effects, joined}
use Rattle.parser.proofs.Rows.{pin_record}
use Rattle.parser.proofs.Keeps.{used_pins, used_parts, used_connections, turned_kept, naming_kept, lining_kept, joining_kept, bad_record, bad_pin, pinned_kept, joined_kept, lined_kept}

-- a list is empty, or has a last element
ending : {X : Type 0} (xs : List X) → (xs ≡ []) ⊎ ((ys : List X) × (y : X) × (xs ≡ ys ++ y ∷ []))
ending [] = inl refl
ending (x ∷ xs) = inr (⊎_elim (λ e. ([], x, ap (λ l. x ∷ l) e)) (λ h. (x ∷ h.0, h.1, ap (λ l. x ∷ l) h.2)) (ending xs))

-- where nothing is wrong before and at w, nothing is wrong up to w
module _ (x : List ℕ) (r : Records) (ws : List Lexeme) (w : Lexeme) (st : grammar.State) (h : run ws (go start) ≡ go st) where
  at_end :
      (free : (k : Cause) → Flaw x r st w k → ⊥) (us : List Lexeme) (u : Lexeme) (to : grammar.State) (k : Cause) →
      ws ≡ us → w ≡ u → run us (go start) ≡ go to → Flaw x r to u k → ⊥
  at_end free us u to k p e g f =
      let same : go st ≡ go to = sym h ∙ ap (λ l. run l (go start)) p ∙ g in
      let is : to ≡ st = cc in
      free k (subst (λ s. Flaw x r s w k) is (subst (λ a. Flaw x r to a k) (sym e) f))

  pub clean_more : Clean x r ws → ((k : Cause) → Flaw x r st w k → ⊥) → Clean x r (ws ++ w ∷ [])
  clean_more c free us vs u to k e g f =
      ⊎_elim
      (λ n. let s = same_from_push ws us w u (e ∙ ap (λ l. us ++ u ∷ l) n) in at_end free us u to k s.0 s.1 g f)
      (λ n. c us n.0 u to k (same_from_push ws (us ++ u ∷ n.0) w n.1 (e ∙ ap (λ l. us ++ u ∷ l) n.2 ∙ sym (append_assoc us (u ∷ n.0) (n.1 ∷ [])))).0 g f)
      (ending vs)

-- a name is the bytes at its place
clash : (w : List ℕ) (i : ℕ) (b : List ℕ) → fixed w ≡ name i b → ⊥
clash w i b e = let z : ◌≡◌ {A = ℕ} 0 1 = cc in omega arith

no_name : (n i : ℕ) (b : List ℕ) → number n ≡ name i b → ⊥
no_name n i b e = let z : ◌≡◌ {A = ℕ} 0 1 = cc in omega arith

name_token : (i : ℕ) (t : Token) (at : ℕ) (b : List ℕ) → lexeme i t ≡ name at b → (s : List ℕ) (j : ℕ) → Stands s i j t → (at ≡ i) × (b ≡ between i j s)
name_token i (token.Name r) at b e s j h = let k = h.spells.0 in (cc, cc)
name_token i (token.Number n) at b e s j h = absurd (no_name n at b e)
name_token i token.Chip at b e s j h = absurd (clash _ at b e)
name_token i token.In at b e s j h = absurd (clash _ at b e)
name_token i token.Out at b e s j h = absurd (clash _ at b e)
name_token i token.Parts at b e s j h = absurd (clash _ at b e)
name_token i token.Builtin at b e s j h = absurd (clash _ at b e)
name_token i token.Clocked at b e s j h = absurd (clash _ at b e)
name_token i token.True at b e s j h = absurd (clash _ at b e)
name_token i token.False at b e s j h = absurd (clash _ at b e)
name_token i token.Dots at b e s j h = absurd (clash _ at b e)
name_token i token.OpenBrace at b e s j h = absurd (clash _ at b e)
name_token i token.CloseBrace at b e s j h = absurd (clash _ at b e)
name_token i token.OpenParen at b e s j h = absurd (clash _ at b e)
name_token i token.CloseParen at b e s j h = absurd (clash _ at b e)
name_token i token.OpenBracket at b e s j h = absurd (clash _ at b e)
name_token i token.CloseBracket at b e s j h = absurd (clash _ at b e)
name_token i token.Comma at b e s j h = absurd (clash _ at b e)
name_token i token.Semicolon at b e s j h = absurd (clash _ at b e)
name_token i token.Colon at b e s j h = absurd (clash _ at b e)
name_token i token.Equals at b e s j h = absurd (clash _ at b e)

-- a connection that tells no name goes on, and one that tells a name is the last, of that part
goes_on : (b : Bool) (n : Span) → ◌≡◌ {A = Option Span} None (cond b (Some n) None) → b ≡ false
goes_on true n e = absurd (let z : ◌≡◌ {A = ℕ} 0 1 = cc in omega arith)
goes_on false n e = refl

stops : (b : Bool) (m n : Span) → Some m ≡ cond b (Some n) None → (b ≡ true) × (m ≡ n)
stops true m n e = (refl, cc)
stops false m n e = absurd (let z : ◌≡◌ {A = ℕ} 0 1 = cc in omega arith)

name_stands : (i : ℕ) (t : Token) (at : ℕ) (b : List ℕ) → lexeme i t ≡ name at b → (s : List ℕ) (j : ℕ) → Stands s i j t → b ≡ cut s (span (record { first = at; bytes = b }))
name_stands i t at b e s j h =
    let is = name_token i t at b e s j h in
    let end : j ≡ at + length b = long s i j b h.after h.within (sym is.1) ∙ ap (λ n. n + length b) (sym is.0) in
    is.1 ∙ ap (λ n. between n j s) (sym is.0) ∙ ap (λ n. between at n s) end

-- what a reader finds next
agrees_go : (s : State) (n : Next) → Agrees (Some s) n → (to : grammar.State) × (n ≡ go to) × (s ≡ shape to)
agrees_go s (go to) h = (to, refl, h)
agrees_go s stop h = absurd h

agrees_stop : (n : Next) → Agrees None n → n ≡ stop
agrees_stop (go to) h = absurd h
agrees_stop stop h = refl

-- the refusal tells the first fault of the text
abbrev pub Tells : Source → Records → ReadFault → Type 0
Tells t r f = Refused t.name.now r t.bytes.now t.entry f

module _ (t : Source) (r : Records) (p : ℕ) (c : Catalogue) (x : Reading) (k : Known t r p c x) where
  -- a fault behind what is read
  pub told : (f : ReadFault) (j : Cause) (byte : ℕ) → FaultAt t.name.now r t.bytes.now p k.lexemes j byte → fault_of f ≡ record { cause = j; place = record { entry = t.entry; byte = byte } } → Tells t r f
  told f j byte h e = record {
    cause = j;
    byte = byte;
    faulty = record { lexemes = k.lexemes; place = p; lexed = k.lexed; viable = viable k.lexemes k.state k.runs; clean = k.clean; fault = h };
    tells = e;
  }

module _ (t : Source) (r : Records) (p q : ℕ) (c : Catalogue) (x : Reading) (tok : Token) (place : Place) (k : Known t r p c x) (g : Gives t.bytes.now p place.byte q tok) (e : place.entry ≡ t.entry) where
  abbrev w : Lexeme
  w = lexeme place.byte tok

  -- a fault at the token
  stopped : (f : ReadFault) (j : Cause) → fault_of f ≡ record { cause = j; place = place } → FaultAt t.name.now r t.bytes.now p k.lexemes j place.byte → Tells t r f
  stopped f j h a = told t r p c x k f j place.byte a (h ∙ λ i. record { cause = j; place = record { entry = e i; byte = place.byte } })

  wrong : (f : ReadFault) (j : Cause) → fault_of f ≡ record { cause = j; place = place } → Flaw t.name.now r k.state w j → Tells t r f
  wrong f j h a = stopped f j h (flawed place.byte q tok k.state j g k.runs a)

  pub broken : ((st : grammar.State) → x.state ≡ shape st → Agrees None (follow st w)) → Tells t r (fault.BrokenGrammar place)
  broken a =
      stopped (fault.BrokenGrammar place) cause.BrokenGrammar refl
      (breaks place.byte q tok g (refused k.lexemes w k.state k.runs (agrees_stop _ (a k.state k.shaped))))

  -- the token goes on, and says this to the catalogue
  module _ (next : State) (a : (st : grammar.State) → x.state ≡ shape st → Agrees (Some next) (follow st w)) where
    record Moved (v : Option Event) : Type 0 where
      pub to : grammar.State
      pub goes : follow k.state w ≡ go to
      pub shaped : next ≡ shape to
      pub sound : Sound to
      pub effect : Effect k.state w to v

    moved : (v : Option Event) → v ≡ event_of x.state next → Moved v
    moved v h =
        let m = agrees_go next (follow k.state w) (a k.state k.shaped) in
        let o : Outcome k.state w (go m.0) = subst (Outcome k.state w) m.1 (effects k.state w k.sound) in
        let is : event_of (shape k.state) (shape m.0) ≡ v = ap (λ s. event_of s (shape m.0)) (sym k.shaped) ∙ ap (event_of x.state) (sym m.2) ∙ sym h in
        record { to = m.0; goes = m.1; shaped = m.2; sound = o.1; effect = subst (Effect k.state w m.0) is o.0 }

    -- what is read then, if the token changes nothing else
    abbrev read : Reading
    read = record { state = next; bits = x.bits; line = x.line }

    advance : (v : Option Event) (m : Moved v) → ((j : Cause) → Flaw t.name.now r k.state w j → ⊥) → (z : Catalogue) (bits line : ℕ) → Kept t r (view m.to) z bits line → Known t r q z (record { state = next; bits = bits; line = line })
    advance v m free z bits line h = record {
      lexemes = k.lexemes ++ w ∷ [];
      state = m.to;
      lexed = more k.lexed g;
      runs = run_push k.lexemes w k.state k.runs ∙ m.goes;
      clean = clean_more t.name.now r k.lexemes w k.state k.runs k.clean free;
      sound = m.sound;
      shaped = m.shaped;
      kept = h;
    }

    kept_at : (u v : View) (z : Catalogue) (bits line : ℕ) → u ≡ v → Kept t r v z bits line → Kept t r u z bits line
    kept_at u v z bits line h = subst (λ y. Kept t r y z bits line) (sym h)

    pub quiet : None ≡ event_of x.state next → Known t r q c read
    quiet h =
        let m = moved None h in
        advance None m (m.effect.1 t.name.now r) c x.bits x.line (kept_at _ _ c _ _ m.effect.0 k.kept)

    module _ (h : (Some event.ChipNamed) ≡ event_of x.state next) where
      called : w ≡ name place.byte t.name.now → Known t r q c read
      called s =
          let m = moved (Some event.ChipNamed) h in
          let f = m.effect in
          let one : name f.at f.bytes ≡ name place.byte t.name.now = sym f.is ∙ s in
          let same : f.bytes ≡ t.name.now = cc in
          advance (Some event.ChipNamed) m (λ j b. f.judged.only t.name.now r j b same) c x.bits x.line (kept_at _ _ c _ _ f.same k.kept)

      other : (w ≡ name place.byte t.name.now → ⊥) → Tells t r (fault.OtherChipName place)
      other s =
          let m = moved (Some event.ChipNamed) h in
          let f = m.effect in
          wrong (fault.OtherChipName place) cause.OtherChipName refl
          (f.judged.flawed t.name.now r
          (λ b. s (f.is ∙ ap (λ n. name n f.bytes) (name_token place.byte tok f.at f.bytes f.is t.bytes.now q g.stands).0 ∙ ap (name place.byte) b)))

    pub side_begun : (Some event.SideBegun) ≡ event_of x.state next → Known t r q c (record { state = next; bits = 0; line = x.line })
    side_begun h =
        let m = moved (Some event.SideBegun) h in
        let f = m.effect in
        advance (Some event.SideBegun) m (f.free t.name.now r) c 0 x.line
        (kept_at _ _ c _ _ f.moved (turned_kept t r (view k.state) c x.bits x.line k.kept f.side f.first f.ins))

    -- with room for one record more, and without
    abbrev Room : Result Reading ReadFault → ℕ → ℕ → Type 0
    Room y used most = MatchResult y (λ z. (z ≡ read) × (used < most)) (λ f. (f ≡ fault.TooManyRecords place) × (most ≤ used))

    abbrev Taken : Result Reading ReadFault → Catalogue → Type 0
    Taken y z = MatchResult y (Known t r q z) (Tells t r)

    pub chip_named :
        (Some event.ChipNamed) ≡ event_of x.state next → (y : Result Reading ReadFault) →
        MatchResult y (λ z. (z ≡ read) × (w ≡ name place.byte t.name.now)) (λ f. (f ≡ fault.OtherChipName place) × (w ≡ name place.byte t.name.now → ⊥)) →
        Taken y c
    chip_named h y b = MatchResult-weaker y b (λ z a. subst (Known t r q c) (sym a.0) (called h a.1)) (λ f a. subst (Tells t r) (sym a.0) (other h a.1))

    module _ (y : Result Reading ReadFault) (used : ℕ) where
      crowded : (most : ℕ) → Room y used most → (used < most → Known t r q c read) → (most ≤ used → Flaw t.name.now r k.state w cause.TooManyRecords) → Taken y c
      crowded most h yes' no' =
          MatchResult-weaker y h (λ z o. subst (Known t r q c) (sym o.0) (yes' o.1))
          (λ f o. wrong f cause.TooManyRecords (ap fault_of o.0) (no' o.1))

      pub pin_begun : (Some event.PinBegun) ≡ event_of x.state next → used ≡ c.pins.used → Room y used 1024 → Taken y c
      pin_begun h s room =
          let m = moved (Some event.PinBegun) h in
          let f = m.effect in
          let u = used_pins t r (view k.state) c k.kept.fills in
          crowded 1024 room
          (λ l. advance (Some event.PinBegun) m (λ j b. let n = f.judged.only t.name.now r j b in omega (arith, n, u)) c x.bits x.line
          (kept_at _ _ c _ _ f.moved
          (naming_kept t r (view k.state) c x.bits x.line k.kept _ (name_stands place.byte tok f.at f.bytes f.is t.bytes.now q g.stands) (omega (arith, u)))))
          (λ l. f.judged.flawed t.name.now r (omega (arith, u)))

      pub part_begun : (Some event.PartBegun) ≡ event_of x.state next → used ≡ c.parts.used → Room y used 1024 → Taken y c
      part_begun h s room =
          let m = moved (Some event.PartBegun) h in
          let f = m.effect in
          let u = used_parts t r (view k.state) c k.kept.fills in
          crowded 1024 room
          (λ l. advance (Some event.PartBegun) m (λ j b. let n = f.judged.only t.name.now r j b in omega (arith, n, u)) c x.bits x.line
          (kept_at _ _ c _ _ f.moved (lining_kept t r (view k.state) c x.bits x.line k.kept (omega (arith, u)))))
          (λ l. f.judged.flawed t.name.now r (omega (arith, u)))

      pub connection_begun : (Some event.ConnectionBegun) ≡ event_of x.state next → used ≡ c.connections.used → Room y used 4096 → Taken y c
      connection_begun h s room =
          let m = moved (Some event.ConnectionBegun) h in
          let f = m.effect in
          let u = used_connections t r (view k.state) c k.kept.fills in
          crowded 4096 room
          (λ l. advance (Some event.ConnectionBegun) m (λ j b. let n = f.judged.only t.name.now r j b in omega (arith, n, u)) c x.bits x.line
          (kept_at _ _ c _ _ f.moved (joining_kept t r (view k.state) c x.bits x.line k.kept (omega (arith, u)))))
          (λ l. f.judged.flawed t.name.now r (omega (arith, u)))

    -- a pin is complete, and put into the catalogue z unless it is bad
    module _ (d : Side) (n : Span) (m : ℕ) (h : Some (event.PinEnded d n m) ≡ event_of x.state next) (y : Result Reading ReadFault) (z : Catalogue) (long_z : Long c z) where
      abbrev pin : PinRecord
      pin = record { entry = t.entry; name = n; side = d; offset = x.bits; width = m }

      pub pin_ended :
          MatchResult y
          (λ o. (o ≡ record { state = next; bits = x.bits + m; line = x.line })
          × (BadRecord t.bytes.now t.pins c pin → ⊥)
          × ((rs : Records) → Fills c rs → c.pins.used < length c.pins.rows.now → Fills z (holding.with_pin rs pin)))
          (λ f. (f ≡ fault.BadPin place) × BadRecord t.bytes.now t.pins c pin) →
          Taken y z
      pin_ended told' =
          let mv = moved (Some (event.PinEnded d n m)) h in
          let f = mv.effect in
          let v = side_view f.side f.pins (f.pin.name ∷ []) in
          let kk : Kept t r v c x.bits x.line = subst (λ u. Kept t r u c x.bits x.line) f.was k.kept in
          let is : pin ≡ pin_record t.entry (side_of f.side) x.bits f.pin =
          λ i. record { entry = t.entry; name = f.name i; side = f.on i; offset = x.bits; width = f.width i } in
          let room : c.pins.used < length c.pins.rows.now = omega (arith, used_pins t r v c kk.fills, kk.pin_room (omega arith), kk.enough.pins) in
          MatchResult-weaker y told'
          (λ o a.
          subst (Known t r q z) (sym a.0)
          (advance (Some (event.PinEnded d n m)) mv (λ j b. a.1 (bad_pin t r f.side f.pins f.pin c x.bits x.line kk pin is (f.judged.only t.name.now r j b))) z (x.bits + m) x.line
          (kept_at _ _ z _ _ f.moved (pinned_kept t r f.side f.pins f.pin c x.bits x.line kk pin is z long_z (a.2 _ kk.fills room)))))
          (λ f' a. wrong f' cause.BadPin (ap fault_of a.0) (f.judged.flawed t.name.now r (bad_record t r f.side f.pins f.pin c x.bits x.line kk pin is a.1)))

    -- a connection is complete, and put into the catalogue z
    module _
        (near : Near) (far : FarEnd) (z : Catalogue) (long_z : Long c z)
        (fills : (rs : Records) → Fills c rs → c.connections.used < length c.connections.rows.now → Fills z (holding.with_connection rs (record { entry = t.entry; name = near.name; part = c.parts.used; bits = near.bits; far = far; joint = no_joint })))
      where
        module _ (line : Option Span) (h : Some (event.ConnectionEnded near far line) ≡ event_of x.state next) where
          abbrev mv : Moved (Some (event.ConnectionEnded near far line))
          mv = moved (Some (event.ConnectionEnded near far line)) h

          more_kept : Kept t r (line_view (with_connection mv.effect.line mv.effect.connection) 0) z x.bits x.line
          more_kept =
              let f = mv.effect in
              let v = line_view f.line 1 in
              let kk : Kept t r v c x.bits x.line = subst (λ u. Kept t r u c x.bits x.line) f.was k.kept in
              let room : c.connections.used < length c.connections.rows.now = omega (arith, used_connections t r v c kk.fills, kk.connection_room (omega arith), kk.enough.connections) in
              let is : ◌≡◌ {A = ConnectionRecord} (record { entry = t.entry; name = near.name; part = c.parts.used; bits = near.bits; far = far; joint = no_joint }) (connection_record t.entry c.parts.used f.connection) =
              λ i. record { entry = t.entry; name = (f.near i).name; part = c.parts.used; bits = (f.near i).bits; far = f.far i; joint = no_joint } in
              joined_kept t r f.line f.connection c z long_z x.bits x.line kk
              (subst (λ o. Fills z (holding.with_connection (so_far r t.entry v) o)) is (fills _ kk.fills room))

          pub connection_ended : line ≡ None → Known t r q z read
          connection_ended e =
              let f = mv.effect in
              let b = goes_on f.last (span f.line.name) (sym e ∙ f.told) in
              advance (Some (event.ConnectionEnded near far line)) mv (f.free t.name.now r) z x.bits x.line
              (kept_at _ _ z _ _ (f.moved ∙ ap (joined f.line f.connection) b) more_kept)

          -- and the line too, in the catalogue a
          pub line_ended :
              (part : Span) → line ≡ Some part → (a : Catalogue) → Long z a → (o : Reading) → o ≡ record { state = next; bits = x.bits; line = z.connections.used } →
              ((rs : Records) → Fills z rs → z.parts.used < length z.parts.rows.now → Fills a (holding.with_part rs (record { entry = t.entry; name = part; connections = x.line; count = z.connections.used - x.line; piece = Entry 0 }))) →
              Known t r q a o
          line_ended part e a long_a o is lines =
              let f = mv.effect in
              let b = stops f.last part (span f.line.name) (sym e ∙ f.told) in
              let v = line_view (with_connection f.line f.connection) 0 in
              let kk = more_kept in
              let room : z.parts.used < length z.parts.rows.now = omega (arith, used_parts t r v z kk.fills, kk.part_room (omega arith), kk.enough.parts) in
              let filled = subst (λ n. Fills a (holding.with_part (so_far r t.entry v) (record { entry = t.entry; name = n; connections = x.line; count = z.connections.used - x.line; piece = Entry 0 }))) b.1 (lines _ kk.fills room) in
              subst (Known t r q a) (sym is)
              (advance (Some (event.ConnectionEnded near far line)) mv (f.free t.name.now r) a x.bits z.connections.used
              (kept_at _ _ a _ _ (f.moved ∙ ap (joined f.line f.connection) b.0) (lined_kept t r f.line f.connection z a long_a x.bits x.line kk filled)))
