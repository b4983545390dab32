-- The contract of a lexer leaves one answer, and each kind of answer is there.
use Rattle.std.specs.Prelude.{◌≡◌, [], ◌∷◌, Some, None, Ok, Err, codes, Option, Result}
use Rattle.fault.specs.declared.Place.{Place}
use Rattle.lexer.specs.declared.cursor.Lexer.{Lexer}
use Rattle.lexer.specs.declared.tokens.Token.{Token}
use Rattle.lexer.specs.declared.lex_fault.LexFault.{LexFault}
use Rattle.lexer.specs.Answers.{Answers}
use Rattle.lexer.specs.Lexemes.{Lexeme, name, fixed, lexeme, Lexed}
use Rattle.lexer.specs.Steps.{Ends, Fails}

-- what an answer says, where the lexer is b then
abbrev pub said : Lexer → Result (Option Token) LexFault → Result (Option Lexeme) Place
said b (Ok (Some t)) = Ok (Some (lexeme b.first t))
said b (Ok None) = Ok None
said b (Err f) = Err f.place

pub record OneAnswer : Type 0 where
  -- two answers of one lexer are the same
  pub one_answer : (a b c : Lexer) (r q : Result (Option Token) LexFault) → Answers a r b → Answers a q c → (said b r ≡ said c q) × (b.first ≡ c.first) × (b.end ≡ c.end)
  -- a text of two lexemes, a comment and nothing else, and a comment that is not closed
  pub a_text : Lexed (codes " ab;") 0 (name 1 (codes "ab") ∷ fixed (codes ";") ∷ []) 4
  pub an_end : Ends (codes "/**/") 0
  pub a_fault : Fails (codes "/*/") 0 0
