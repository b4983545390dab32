-- A text from its first token to its end.
use Rattle.std.proofs.Common.{◌≡◌, true, false, ◌⊎◌, List, [], ◌∷◌, ◌++◌, length, sym, refl, ap, ◌∙◌, subst, inl, inr, ⊎_elim, add-zero, arith}
use Rattle.std.proofs.lemmas.List.{append-nil, length-append}
use Rattle.std.proofs.lemmas.Bool.{both_ways}
use Rattle.fault.specs.declared.Cause.TheVariants as cause
use Rattle.fault.specs.declared.Place.{Place}
use Rattle.lexer.specs.declared.cursor.Lexer.{Lexer}
use Rattle.lexer.specs.declared.lex_fault.LexFault.{LexFault}
use Rattle.lexer.specs.Lexemes.{Lexeme, Lexed, none}
use Rattle.lexer.specs.Steps.{Ends, Fails}
use Rattle.grammar.specs.Tree.{Chip}
use Rattle.grammar.specs.Spelling.{chip_words}
use Rattle.grammar.specs.Progress.{State, start, chip, called, opened, pin, pin_named, width_open, width_read, pin_wide, ins_read, headed, parts, first_line, next_line, part_named, connection, end_named, sub_open, sub_low, sub_dots, sub_high, end_read, equals, constant_read, closed, done, go, Live}
use Rattle.grammar.proofs.Grammar.{only, unfinished}
use Rattle.catalogue.specs.declared.room.Catalogue.{Catalogue}
use Rattle.catalogue.specs.declared.room.Counts.{Counts}
use Rattle.catalogue.specs.Records.{Records}
use Rattle.catalogue.specs.Holding.{Enough, counted, slices, Fills, Lent, Long}
use Rattle.progress.specs.declared.state.State.TheVariants as state
use Rattle.progress.specs.Shapes.{shape}
use Rattle.parser.specs.declared.read_fault.ReadFault.TheVariants as fault
use Rattle.parser.specs.declared.reading.Source.{Source}
use Rattle.parser.specs.declared.reading.Reading.{Reading}
use Rattle.parser.specs.Reading.{Clean, no_token, ends}
use Rattle.parser.specs.Verdicts.{Accepted}
use Rattle.parser.specs.Events.{is_done}
use Rattle.parser.specs.Views.{view, no_view, so_far}
use Rattle.parser.specs.Keeping.{Known}
use Rattle.parser.proofs.Rows.{chip_records}
use Rattle.parser.proofs.Steps.{Tells, told}

-- what stays true from token to token, where the catalogue was a at first
pub record Between (t : Source) (a c : Catalogue) (x : Reading) (m : Lexer) : Type 0 where
  pub over : m.text.now ≡ t.bytes.now
  pub from : m.entry ≡ t.entry
  pub lent : Lent a c
  pub long : Long a c
  pub known : (r : Records) → Enough (slices a) → Fills a r → Known t r m.end c x

no_lexeme : (us vs : List Lexeme) (w : Lexeme) → [] ≡ us ++ w ∷ vs → ⊥
no_lexeme us vs w e = omega (arith, ap length e, length-append us (w ∷ vs))

-- before the first token
pub started :
    (t : Source) (c : Catalogue) (m : Lexer) → m.text.now ≡ t.bytes.now → m.entry ≡ t.entry → m.end ≡ 0 → (n : Counts) → n ≡ counted c → t.pins ≡ n.pins →
    Between t c c (record { state = state.Start; bits = 0; line = n.connections }) m
started t c m o e z n u h = record {
  over = o;
  from = e;
  lent = (refl, refl, refl);
  long = (refl, refl, refl);
  known = λ r enough fills.
      let same : so_far r t.entry no_view ≡ r = λ i. record { pins = append-nil r.pins i; parts = append-nil r.parts i; connections = append-nil r.connections i } in
      record {
        lexemes = [];
        state = start;
        lexed = subst (Lexed t.bytes.now 0 []) (sym z) none;
        runs = refl;
        clean = λ us vs w st k p g f. no_lexeme us vs w p;
        sound = tt;
        shaped = refl;
        kept = record {
          enough = enough;
          fills = subst (Fills c) (sym same) fills;
          starts = h ∙ ap (λ x. x.pins) u ∙ fills.pins;
          wide = refl;
          joined = ap (λ x. x.connections) u ∙ fills.connections ∙ sym (add-zero _);
          stand = refl;
          head = refl;
          pin_room = λ l. omega (arith, l);
          part_room = λ l. omega (arith, l);
          connection_room = λ l. omega (arith, l);
        };
      };
}

-- a chip is read to its end, or not
whole : (st : State) → (Live st × (is_done (shape st) ≡ false)) ⊎ ((c : Chip) × (st ≡ done c))
whole start = inl (tt, refl)
whole chip = inl (tt, refl)
whole (called c) = inl (tt, refl)
whole (opened c) = inl (tt, refl)
whole (pin d ps) = inl (tt, refl)
whole (pin_named d ps p) = inl (tt, refl)
whole (width_open d ps p) = inl (tt, refl)
whole (width_read d ps p m) = inl (tt, refl)
whole (pin_wide d ps p m) = inl (tt, refl)
whole (ins_read c q) = inl (tt, refl)
whole (headed h) = inl (tt, refl)
whole (parts h) = inl (tt, refl)
whole (first_line h) = inl (tt, refl)
whole (next_line h q) = inl (tt, refl)
whole (part_named h ps p) = inl (tt, refl)
whole (connection l) = inl (tt, refl)
whole (end_named e) = inl (tt, refl)
whole (sub_open e) = inl (tt, refl)
whole (sub_low e m) = inl (tt, refl)
whole (sub_dots e m) = inl (tt, refl)
whole (sub_high e m k) = inl (tt, refl)
whole (end_read e s) = inl (tt, refl)
whole (equals l n s) = inl (tt, refl)
whole (constant_read l c) = inl (tt, refl)
whole (closed h ps p) = inl (tt, refl)
whole (done c) = inr (c, refl)

module _ (t : Source) (a c : Catalogue) (x : Reading) (m : Lexer) (b : Between t a c x m) (r : Records) (enough : Enough (slices a)) (fills : Fills a r) where
  abbrev k : Known t r m.end c x
  k = b.known r enough fills

  -- the text ends behind a chip
  pub accepted : Ends m.text.now m.end → is_done x.state ≡ true → Accepted t.name.now r t.bytes.now t.entry c
  accepted h d =
      ⊎_elim (λ l. absurd (both_ways (is_done x.state) (ap is_done k.shaped ∙ l.1) d))
      (λ s.
      let is : k.lexemes ≡ chip_words s.0 = only k.lexemes s.0 (k.runs ∙ ap go s.1) in
      record {
        chip = s.0;
        reads = record {
          place = m.end;
          lexed = subst (λ ws. Lexed t.bytes.now 0 ws m.end) is k.lexed;
          ends = subst (λ y. Ends y m.end) b.over h;
          clean = subst (Clean t.name.now r) is k.clean;
        };
        fills = subst (Fills c) (ap (λ st. so_far r t.entry (view st)) s.1 ∙ chip_records t.entry r s.0) k.kept.fills;
      })
      (whole k.state)

  -- the text ends elsewhere
  pub unended : (p : Place) → Ends m.text.now m.end → is_done x.state ≡ false → p.entry ≡ m.entry → p.byte ≡ length m.text.now → Tells t r (fault.BrokenGrammar p)
  unended p h d e z =
      let at : p.byte ≡ length t.bytes.now = z ∙ ap length b.over in
      told t r m.end c x k (fault.BrokenGrammar p) cause.BrokenGrammar (length t.bytes.now)
      (ends (subst (λ y. Ends y m.end) b.over h)
      (⊎_elim (λ l. unfinished k.lexemes k.state k.runs l.0) (λ s. absurd (both_ways (is_done x.state) d (ap is_done (k.shaped ∙ ap shape s.1)))) (whole k.state)))
      (λ i. record { cause = cause.BrokenGrammar; place = record { entry = (e ∙ b.from) i; byte = at i } })

  -- no token comes next
  pub unlexed : (f : LexFault) → Fails m.text.now m.end f.place.byte → f.place.entry ≡ m.entry → Tells t r (fault.Lex f)
  unlexed f h e =
      told t r m.end c x k (fault.Lex f) cause.NoToken f.place.byte
      (no_token f.place.byte (subst (λ y. Fails y m.end f.place.byte) b.over h))
      (λ i. record { cause = cause.NoToken; place = record { entry = (e ∙ b.from) i; byte = f.place.byte } })
