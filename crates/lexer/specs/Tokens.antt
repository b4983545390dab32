-- Which bytes are a token, and where one stands.
use Rattle.std.specs.Prelude.{◌≡◌, ℕ, ◌<◌, ◌≤◌, true, false, List, length}
use Rattle.std.specs.Str.Parse.{digits_value}
use Rattle.std.specs.Char.{is_ascii_digit, is_ascii_alphanumeric}
use Rattle.std.specs.List.{between}
use Rattle.text.specs.Names.{byte, Named}
use Rattle.lexer.specs.declared.tokens.Token.{Token}
use Rattle.lexer.specs.declared.tokens.Token.TheVariants as token
use Rattle.lexer.specs.declared.tokens.Kind.TheVariants as kind
use Rattle.lexer.specs.Kinds.{spelled}

-- the bytes are digits, and write the number n in decimal
pub record Numeral (bs : List ℕ) (n : ℕ) : Type 0 where
  pub some : 0 < length bs
  pub digits : (k : ℕ) → k < length bs → is_ascii_digit (byte bs k) ≡ true
  pub worth : digits_value 10 bs ≡ n
  pub small : n ≤ 65535

-- the bytes are the token
abbrev pub Spells : List ℕ → Token → Type 0
Spells bs (token.Name r) = (r.now ≡ bs) × Named bs
Spells bs (token.Number n) = Numeral bs n
Spells bs token.Chip = bs ≡ spelled kind.Chip
Spells bs token.In = bs ≡ spelled kind.In
Spells bs token.Out = bs ≡ spelled kind.Out
Spells bs token.Parts = bs ≡ spelled kind.Parts
Spells bs token.Builtin = bs ≡ spelled kind.Builtin
Spells bs token.Clocked = bs ≡ spelled kind.Clocked
Spells bs token.True = bs ≡ spelled kind.True
Spells bs token.False = bs ≡ spelled kind.False
Spells bs token.Dots = bs ≡ spelled kind.Dots
Spells bs token.OpenBrace = bs ≡ spelled kind.OpenBrace
Spells bs token.CloseBrace = bs ≡ spelled kind.CloseBrace
Spells bs token.OpenParen = bs ≡ spelled kind.OpenParen
Spells bs token.CloseParen = bs ≡ spelled kind.CloseParen
Spells bs token.OpenBracket = bs ≡ spelled kind.OpenBracket
Spells bs token.CloseBracket = bs ≡ spelled kind.CloseBracket
Spells bs token.Comma = bs ≡ spelled kind.Comma
Spells bs token.Semicolon = bs ≡ spelled kind.Semicolon
Spells bs token.Colon = bs ≡ spelled kind.Colon
Spells bs token.Equals = bs ≡ spelled kind.Equals

-- the token t stands from i to j. A run of letters and digits is taken whole
pub record Stands (s : List ℕ) (i j : ℕ) (t : Token) : Type 0 where
  pub after : i < j
  pub within : j ≤ length s
  pub spells : Spells (between i j s) t
  pub whole : is_ascii_alphanumeric (byte s i) ≡ true → is_ascii_alphanumeric (byte s j) ≡ false
