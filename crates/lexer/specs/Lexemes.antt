-- Tokens as lexemes, which no longer refer to the text, and the lexemes of a text.
use Rattle.std.specs.Prelude.{ℕ, List, [], ◌∷◌, ◌++◌}
use Rattle.lexer.specs.declared.tokens.Token.{Token}
use Rattle.lexer.specs.declared.tokens.Token.TheVariants as token
use Rattle.lexer.specs.declared.tokens.Kind.TheVariants as kind
use Rattle.lexer.specs.Kinds.{spelled}
use Rattle.lexer.specs.Steps.{Gives}

-- a name has its first byte and its bytes; a reserved word or a mark is fixed, as it is written
pub data Lexeme : Type 0 where
  name : ℕ → List ℕ → Lexeme
  number : ℕ → Lexeme
  fixed : List ℕ → Lexeme

-- the token t, standing at i
abbrev pub lexeme : ℕ → Token → Lexeme
lexeme i (token.Name r) = name i r.now
lexeme i (token.Number n) = number n
lexeme i token.Chip = fixed (spelled kind.Chip)
lexeme i token.In = fixed (spelled kind.In)
lexeme i token.Out = fixed (spelled kind.Out)
lexeme i token.Parts = fixed (spelled kind.Parts)
lexeme i token.Builtin = fixed (spelled kind.Builtin)
lexeme i token.Clocked = fixed (spelled kind.Clocked)
lexeme i token.True = fixed (spelled kind.True)
lexeme i token.False = fixed (spelled kind.False)
lexeme i token.Dots = fixed (spelled kind.Dots)
lexeme i token.OpenBrace = fixed (spelled kind.OpenBrace)
lexeme i token.CloseBrace = fixed (spelled kind.CloseBrace)
lexeme i token.OpenParen = fixed (spelled kind.OpenParen)
lexeme i token.CloseParen = fixed (spelled kind.CloseParen)
lexeme i token.OpenBracket = fixed (spelled kind.OpenBracket)
lexeme i token.CloseBracket = fixed (spelled kind.CloseBracket)
lexeme i token.Comma = fixed (spelled kind.Comma)
lexeme i token.Semicolon = fixed (spelled kind.Semicolon)
lexeme i token.Colon = fixed (spelled kind.Colon)
lexeme i token.Equals = fixed (spelled kind.Equals)

-- the lexemes ws stand one after another from p to q
pub data Lexed (s : List ℕ) (p : ℕ) : List Lexeme → ℕ → Type 0 where
  none : Lexed s p [] p
  more : {ws : List Lexeme} {q i j : ℕ} {t : Token} → Lexed s p ws q → Gives s q i j t → Lexed s p (ws ++ lexeme i t ∷ []) j
