-- What a mark makes of a reader's state is what the grammar says.
use Rattle.std.proofs.Common.{◌≡◌, ℕ, Bool, true, false, cond, List, [], Some, None, Decides, Option, refl, ap, ◌∙◌, arith}
use Rattle.std.specs.Str.{bytes_eq}
use Rattle.std.proofs.lemmas.Slice.Eq.{bytes_eq-Decides}
use Rattle.std.proofs.lemmas.Bool.{false≢true, true≢false}
use Rattle.lexer.specs.declared.tokens.Token.{Token}
use Rattle.lexer.specs.declared.tokens.Kind.{Kind}
use Rattle.lexer.specs.declared.tokens.Kind.TheVariants as kind
use Rattle.lexer.specs.Kinds.{kind_of, spelled}
use Rattle.lexer.specs.Lexemes.{lexeme, fixed}
use Rattle.lexer.proofs.Spellings.{lexeme_of_kind, kind_from_lexeme}
use Rattle.grammar.specs.Tree as tree
use Rattle.grammar.specs.Progress as grammar
use Rattle.progress.specs.declared.state.State.{State}
use Rattle.progress.specs.Moves.{Stops, Turns, AfterPin, AfterConnection, AfterEnd, MarkMove}
use Rattle.progress.specs.Shapes.{Agrees, shape, side_of, part_of, end_of}
use Rattle.catalogue.specs.Records.{span, bits_of}

-- the word w is that of the mark k, and of no other
abbrev Writes : Kind → List ℕ → Type 0
Writes k w = (j : Kind) → bytes_eq (spelled j) [] ≡ false → Decides (bytes_eq w (spelled j)) (k ≡ j)

stops : (r : Option State) → Stops r → Agrees r grammar.stop
stops None e = tt
stops (Some s) e = let z : ◌≡◌ {A = ℕ} 0 1 = cc in omega arith

goes : (r : Option State) (st : grammar.State) → r ≡ Some (shape st) → Agrees r (grammar.go st)
goes None st e = let z : ◌≡◌ {A = ℕ} 0 1 = cc in omega arith
goes (Some s) st e = cc

tested :
    (k j : Kind) (b : Bool) (r : Option State) (st : grammar.State) (others : grammar.Next) (Rest : Type 0) →
    Decides b (k ≡ j) → Turns k j (shape st) (λ o. Rest) r → (Rest → Agrees r others) → Agrees r (cond b (grammar.go st) others)
tested k j true r st others Rest d t f = goes r st (t.0 (d.0 refl))
tested k j false r st others Rest d t f = f (t.1 (λ e. false≢true (d.1 e)))

module _ (k : Kind) (w : List ℕ) (h : Writes k w) (r : Option State) where
  -- a mark goes on as in the grammar, and for the others the rest agrees
  turn :
      (j : Kind) (st : grammar.State) (others : grammar.Next) (Rest : Type 0) → bytes_eq (spelled j) [] ≡ false →
      Turns k j (shape st) (λ o. Rest) r → (Rest → Agrees r others) → Agrees r (grammar.wanted w (spelled j) (grammar.go st) others)
  turn j st others Rest e = tested k j (bytes_eq w (spelled j)) r st others Rest (h j e)

  only :
      (j : Kind) (st : grammar.State) → bytes_eq (spelled j) [] ≡ false →
      Turns k j (shape st) Stops r → Agrees r (grammar.wanted w (spelled j) (grammar.go st) grammar.stop)
  only j st e t = turn j st grammar.stop (Stops r) e t (stops r)

  after_pin :
      (d : grammar.Side) (ps : List tree.Pin) (p : tree.Pin) → AfterPin (side_of d) k r → Agrees r (grammar.after_pin d ps p w)
  after_pin (grammar.ins n) ps p m = turn kind.Comma _ _ _ refl m (only kind.Semicolon _ refl)
  after_pin (grammar.outs n i) ps p m = turn kind.Comma _ _ _ refl m (only kind.Semicolon _ refl)

  after_connection :
      (l : grammar.Line) (c : tree.Connection) → AfterConnection (span l.name) k r → Agrees r (grammar.after_connection l c w)
  after_connection l c m = turn kind.Comma _ _ _ refl m (only kind.CloseParen _ refl)

  after_end :
      (e : grammar.End) (s : tree.Subscript) → AfterEnd (part_of e) (end_of e) (bits_of s) k r → Agrees r (grammar.after_end e s w)
  after_end (grammar.near l n) s m = only kind.Equals _ refl m
  after_end (grammar.far l n t f) s m = after_connection l _ m

  mark_agrees : (st : grammar.State) → MarkMove (shape st) k r → Agrees r (grammar.follow st (fixed w))
  mark_agrees grammar.start m = only kind.Chip _ refl m
  mark_agrees grammar.chip m = stops r m
  mark_agrees (grammar.called c) m = only kind.OpenBrace _ refl m
  mark_agrees (grammar.opened c) m = turn kind.In _ _ _ refl m (only kind.Out _ refl)
  mark_agrees (grammar.pin d ps) m = stops r m
  mark_agrees (grammar.pin_named d ps p) m = turn kind.OpenBracket _ _ _ refl m (after_pin d ps _)
  mark_agrees (grammar.width_open d ps p) m = stops r m
  mark_agrees (grammar.width_read d ps p n) m = only kind.CloseBracket _ refl m
  mark_agrees (grammar.pin_wide d ps p n) m = after_pin d ps _ m
  mark_agrees (grammar.ins_read c ps) m = only kind.Out _ refl m
  mark_agrees (grammar.headed c) m = only kind.Parts _ refl m
  mark_agrees (grammar.parts c) m = only kind.Colon _ refl m
  mark_agrees (grammar.first_line c) m = stops r m
  mark_agrees (grammar.next_line c ps) m = only kind.CloseBrace _ refl m
  mark_agrees (grammar.part_named c ps p) m = only kind.OpenParen _ refl m
  mark_agrees (grammar.connection l) m = stops r m
  mark_agrees (grammar.end_named e) m = turn kind.OpenBracket _ _ _ refl m (after_end e tree.all)
  mark_agrees (grammar.sub_open e) m = stops r m
  mark_agrees (grammar.sub_low e n) m = turn kind.CloseBracket _ _ _ refl m (only kind.Dots _ refl)
  mark_agrees (grammar.sub_dots e n) m = stops r m
  mark_agrees (grammar.sub_high e n i) m = only kind.CloseBracket _ refl m
  mark_agrees (grammar.end_read e s) m = after_end e s m
  mark_agrees (grammar.equals l n s) m = turn kind.True _ _ _ refl m (only kind.False _ refl)
  mark_agrees (grammar.constant_read l c) m = after_connection l c m
  mark_agrees (grammar.closed c ps p) m = only kind.Semicolon _ refl m
  mark_agrees (grammar.done c) m = stops r m

-- a token that is no name and no number is written as its kind, and as no other
writes : (t : Token) → (kind_of t ≡ kind.Name → ⊥) → (kind_of t ≡ kind.Number → ⊥) → Writes (kind_of t) (spelled (kind_of t))
writes t h g j e =
    let d = bytes_eq-Decides (spelled (kind_of t)) (spelled j) in
    let other : j ≡ kind.Number → ⊥ = λ p. true≢false (rw p at e) in
    (λ b. kind_from_lexeme 0 t j other (lexeme_of_kind 0 t h g ∙ ap fixed (d.0 b)), λ p. d.1 (ap spelled p))

-- such a token makes of a state what the grammar says
pub token_agrees :
    (st : grammar.State) (i : ℕ) (t : Token) (r : Option State) → (kind_of t ≡ kind.Name → ⊥) → (kind_of t ≡ kind.Number → ⊥) →
    MarkMove (shape st) (kind_of t) r → Agrees r (grammar.follow st (lexeme i t))
token_agrees st i t r h g m = rw (lexeme_of_kind i t h g) (mark_agrees (kind_of t) _ (writes t h g) r st m)
