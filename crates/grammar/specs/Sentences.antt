-- Which lexemes are a chip, which can still become one, and that reading step by step finds just these.
use Rattle.std.specs.Prelude.{◌≡◌, List, ◌++◌}
use Rattle.lexer.specs.Lexemes.{Lexeme}
use Rattle.grammar.specs.Tree.{Chip}
use Rattle.grammar.specs.Spelling.{chip_words}
use Rattle.grammar.specs.Progress.{State, start, done, go, stop, run, Live}

-- the lexemes are a chip
abbrev pub Sentence : List Lexeme → Type 0
Sentence ws = (c : Chip) × (ws ≡ chip_words c)

-- some lexemes behind these make a chip of them
pub record Viable (ws : List Lexeme) : Type 0 where
  pub rest : List Lexeme
  pub sentence : Sentence (ws ++ rest)

-- reading lexeme by lexeme is the grammar
pub record ReadsGrammar : Type 0 where
  -- a chip is read to its end, and as the chip that it is
  pub reads : (c : Chip) → run (chip_words c) (go start) ≡ go (done c)
  -- what is read to its end is a chip, and that one
  pub only : (ws : List Lexeme) (c : Chip) → run ws (go start) ≡ go (done c) → ws ≡ chip_words c
  -- what is read so far can still become a chip
  pub viable : (ws : List Lexeme) (st : State) → run ws (go start) ≡ go st → Viable ws
  -- what is read so far and not to its end is no chip yet
  pub unfinished : (ws : List Lexeme) (st : State) → run ws (go start) ≡ go st → Live st → Sentence ws → ⊥
  -- where reading stops, no lexemes behind that one make a chip
  pub stuck : (ws : List Lexeme) → run ws (go start) ≡ stop → Viable ws → ⊥
  -- lexemes are one chip at most
  pub one : (c d : Chip) → chip_words c ≡ chip_words d → c ≡ d
  -- there is a chip
  pub some : Chip
