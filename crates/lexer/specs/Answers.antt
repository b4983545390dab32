-- What a lexer answers, and where it stands then.
use Rattle.std.specs.Prelude.{◌≡◌, length, Some, None, Ok, Err, Option, Result}
use Rattle.lexer.specs.declared.cursor.Lexer.{Lexer}
use Rattle.lexer.specs.declared.tokens.Token.{Token}
use Rattle.lexer.specs.declared.lex_fault.LexFault.{LexFault}
use Rattle.lexer.specs.Steps.{Gives, Ends, Fails}

-- what the lexer a answers, and b, what it is then
abbrev pub Answers : Lexer → Result (Option Token) LexFault → Lexer → Type 0
Answers a (Ok (Some t)) b = Gives a.text.now a.end b.first b.end t
Answers a (Ok None) b =
    Ends a.text.now a.end × (b.first ≡ length a.text.now) × (b.end ≡ length a.text.now)
Answers a (Err f) b =
    Fails a.text.now a.end f.place.byte × (f.place.entry ≡ a.entry) × (b.first ≡ a.first) × (b.end ≡ a.end)
