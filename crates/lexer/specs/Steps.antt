-- What comes next in a text from a place on: a token, the end or a fault.
use Rattle.std.specs.Prelude.{ℕ, ◌<◌, List, length}
use Rattle.lexer.specs.declared.tokens.Token.{Token}
use Rattle.lexer.specs.Gaps.{Gap, Separator}
use Rattle.lexer.specs.Tokens.{Stands}

-- from p on the token t is the next: behind separators it stands from i to j
pub record Gives (s : List ℕ) (p i j : ℕ) (t : Token) : Type 0 where
  pub gap : Gap s p i
  pub stands : Stands s i j t

-- from p on there is nothing but separators
abbrev pub Ends : List ℕ → ℕ → Type 0
Ends s p = Gap s p (length s)

-- from p on, behind separators, at i stands neither a separator, a token nor the end.
-- A comment that is not closed is such a place
pub record Fails (s : List ℕ) (p i : ℕ) : Type 0 where
  pub gap : Gap s p i
  pub within : i < length s
  pub no_separator : (j : ℕ) → Separator s i j → ⊥
  pub no_token : (j : ℕ) (t : Token) → Stands s i j t → ⊥
