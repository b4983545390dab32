-- A fixed lexeme is that of one kind alone.
use Rattle.std.proofs.Common.{◌≡◌, ℕ, cond, List, sym, ap, ◌∙◌, arith, rules}
use Rattle.std.specs.Str.{bytes_eq}
use Rattle.lexer.specs.declared.tokens.Token.{Token}
use Rattle.lexer.specs.declared.tokens.Kind.{Kind}
use Rattle.lexer.specs.declared.tokens.Kind.TheVariants as kind
use Rattle.lexer.specs.Kinds.{kind_of, spelled}
use Rattle.lexer.specs.Lexemes.{Lexeme, name, number, fixed, lexeme}

abbrev kind_at : List ℕ → Kind
kind_at w =
    cond (bytes_eq w (spelled kind.Chip)) kind.Chip (
    cond (bytes_eq w (spelled kind.In)) kind.In (
    cond (bytes_eq w (spelled kind.Out)) kind.Out (
    cond (bytes_eq w (spelled kind.Parts)) kind.Parts (
    cond (bytes_eq w (spelled kind.Builtin)) kind.Builtin (
    cond (bytes_eq w (spelled kind.Clocked)) kind.Clocked (
    cond (bytes_eq w (spelled kind.True)) kind.True (
    cond (bytes_eq w (spelled kind.False)) kind.False (
    cond (bytes_eq w (spelled kind.Dots)) kind.Dots (
    cond (bytes_eq w (spelled kind.OpenBrace)) kind.OpenBrace (
    cond (bytes_eq w (spelled kind.CloseBrace)) kind.CloseBrace (
    cond (bytes_eq w (spelled kind.OpenParen)) kind.OpenParen (
    cond (bytes_eq w (spelled kind.CloseParen)) kind.CloseParen (
    cond (bytes_eq w (spelled kind.OpenBracket)) kind.OpenBracket (
    cond (bytes_eq w (spelled kind.CloseBracket)) kind.CloseBracket (
    cond (bytes_eq w (spelled kind.Comma)) kind.Comma (
    cond (bytes_eq w (spelled kind.Semicolon)) kind.Semicolon (
    cond (bytes_eq w (spelled kind.Colon)) kind.Colon (
    cond (bytes_eq w (spelled kind.Equals)) kind.Equals (
    kind.Name)))))))))))))))))))

abbrev back : Lexeme → Kind
back (name i n) = kind.Name
back (number n) = kind.Number
back (fixed w) = kind_at w

back_lexeme : (i : ℕ) (t : Token) → back (lexeme i t) ≡ kind_of t
back_lexeme i t = search rules

back_spelled : (k : Kind) → (k ≡ kind.Number → ⊥) → kind_at (spelled k) ≡ k
back_spelled k h = grind arith

-- a kind that has one spelling
pub lexeme_of_kind : (i : ℕ) (t : Token) → (kind_of t ≡ kind.Name → ⊥) → (kind_of t ≡ kind.Number → ⊥) → lexeme i t ≡ fixed (spelled (kind_of t))
lexeme_of_kind i t h g = grind arith

pub kind_from_lexeme : (i : ℕ) (t : Token) (k : Kind) → (k ≡ kind.Number → ⊥) → lexeme i t ≡ fixed (spelled k) → kind_of t ≡ k
kind_from_lexeme i t k h e = sym (back_lexeme i t) ∙ ap back e ∙ back_spelled k h
