-- When a text is read, and which fault of it is the first.
use Rattle.std.specs.Prelude.{◌≡◌, ℕ, List, [], ◌∷◌, ◌++◌, length}
use Rattle.fault.specs.declared.Cause.{Cause}
use Rattle.fault.specs.declared.Cause.TheVariants.{NoToken, BrokenGrammar}
use Rattle.lexer.specs.declared.tokens.Token.{Token}
use Rattle.lexer.specs.Steps.{Gives, Ends, Fails}
use Rattle.lexer.specs.Lexemes.{Lexeme, lexeme, Lexed}
use Rattle.grammar.specs.Tree.{Chip}
use Rattle.grammar.specs.Spelling.{chip_words}
use Rattle.grammar.specs.Progress.{State, start, go, run}
use Rattle.grammar.specs.Sentences.{Sentence, Viable}
use Rattle.catalogue.specs.Records.{Records}
use Rattle.parser.specs.Flaws.{Flaw}

module _ (expected : List ℕ) (r : Records) where
  -- no lexeme has a flaw where it stands
  abbrev pub Clean : List Lexeme → Type 0
  Clean ws = (us vs : List Lexeme) (w : Lexeme) (st : State) (k : Cause) → ws ≡ us ++ w ∷ vs → run us (go start) ≡ go st → Flaw expected r st w k → ⊥

  -- the text writes the chip, from its front to its end, and without a flaw
  pub record Reads (s : List ℕ) (c : Chip) : Type 0 where
    pub place : ℕ
    pub lexed : Lexed s 0 (chip_words c) place
    pub ends : Ends s place
    pub clean : Clean (chip_words c)

  -- what is at fault behind the lexemes ws, which end at p, and at which byte: there is no token; the text ends and is
  -- no chip; a lexeme stands there behind which nothing makes a chip; or it has a flaw
  pub data FaultAt (s : List ℕ) (p : ℕ) (ws : List Lexeme) : Cause → ℕ → Type 0 where
    no_token : (i : ℕ) → Fails s p i → FaultAt s p ws NoToken i
    ends : Ends s p → (Sentence ws → ⊥) → FaultAt s p ws BrokenGrammar (length s)
    breaks : (i j : ℕ) (t : Token) → Gives s p i j t → (Viable (ws ++ lexeme i t ∷ []) → ⊥) → FaultAt s p ws BrokenGrammar i
    flawed : (i j : ℕ) (t : Token) (st : State) (k : Cause) → Gives s p i j t → run ws (go start) ≡ go st → Flaw expected r st (lexeme i t) k → FaultAt s p ws k i

  -- the first fault of the text: all before it can still become a chip, and has no flaw
  pub record Faulty (s : List ℕ) (k : Cause) (byte : ℕ) : Type 0 where
    pub lexemes : List Lexeme
    pub place : ℕ
    pub lexed : Lexed s 0 lexemes place
    pub viable : Viable lexemes
    pub clean : Clean lexemes
    pub fault : FaultAt s place lexemes k byte
