-- The kinds of tokens, and how a reserved word or a mark is written.
use Rattle.std.specs.Prelude.{ℕ, List, [], codes}
use Rattle.text.specs.Keywords.{spelling}
use Rattle.text.specs.declared.keyword.Keyword.TheVariants as keyword
use Rattle.lexer.specs.declared.tokens.Token.{Token}
use Rattle.lexer.specs.declared.tokens.Kind.{Kind}
use Rattle.lexer.specs.declared.tokens.Token.TheVariants as token
use Rattle.lexer.specs.declared.tokens.Kind.TheVariants as kind

abbrev pub kind_of : Token → Kind
kind_of (token.Name r) = kind.Name
kind_of (token.Number n) = kind.Number
kind_of token.Chip = kind.Chip
kind_of token.In = kind.In
kind_of token.Out = kind.Out
kind_of token.Parts = kind.Parts
kind_of token.Builtin = kind.Builtin
kind_of token.Clocked = kind.Clocked
kind_of token.True = kind.True
kind_of token.False = kind.False
kind_of token.Dots = kind.Dots
kind_of token.OpenBrace = kind.OpenBrace
kind_of token.CloseBrace = kind.CloseBrace
kind_of token.OpenParen = kind.OpenParen
kind_of token.CloseParen = kind.CloseParen
kind_of token.OpenBracket = kind.OpenBracket
kind_of token.CloseBracket = kind.CloseBracket
kind_of token.Comma = kind.Comma
kind_of token.Semicolon = kind.Semicolon
kind_of token.Colon = kind.Colon
kind_of token.Equals = kind.Equals

-- how the kind is written; names and numbers have no one spelling
abbrev pub spelled : Kind → List ℕ
spelled kind.Name = []
spelled kind.Number = []
spelled kind.Chip = spelling keyword.Chip
spelled kind.In = spelling keyword.In
spelled kind.Out = spelling keyword.Out
spelled kind.Parts = spelling keyword.Parts
spelled kind.Builtin = spelling keyword.Builtin
spelled kind.Clocked = spelling keyword.Clocked
spelled kind.True = spelling keyword.True
spelled kind.False = spelling keyword.False
spelled kind.Dots = codes ".."
spelled kind.OpenBrace = codes "{"
spelled kind.CloseBrace = codes "}"
spelled kind.OpenParen = codes "("
spelled kind.CloseParen = codes ")"
spelled kind.OpenBracket = codes "["
spelled kind.CloseBracket = codes "]"
spelled kind.Comma = codes ","
spelled kind.Semicolon = codes ";"
spelled kind.Colon = codes ":"
spelled kind.Equals = codes "="
