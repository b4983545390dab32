-- Two answers of one lexer are the same.
use Rattle.std.proofs.Common.{◌≡◌, Some, None, Ok, Err, Option, Result, sym, ap, ◌∙◌}
use Rattle.fault.specs.declared.Place.{Place}
use Rattle.lexer.specs.declared.cursor.Lexer.{Lexer}
use Rattle.lexer.specs.declared.tokens.Token.{Token}
use Rattle.lexer.specs.declared.lex_fault.LexFault.{LexFault}
use Rattle.lexer.specs.Answers.{Answers}
use Rattle.lexer.specs.Single.{said}
use Rattle.lexer.proofs.Single.{one_token, one_fault, token_or_end, token_or_fault, fault_or_end}

same_place : (x y : Place) → x.entry ≡ y.entry → x.byte ≡ y.byte → x ≡ y
same_place x y e b = λ i. record { entry = e i; byte = b i }

pub one_answer : (a b c : Lexer) (r q : Result (Option Token) LexFault) → Answers a r b → Answers a q c → (said b r ≡ said c q) × (b.first ≡ c.first) × (b.end ≡ c.end)
one_answer a b c (Ok (Some t)) (Ok (Some u)) g h = let e = one_token g h in (ap (λ w. Ok (Some w)) e.2, e.0, e.1)
one_answer a b c (Ok (Some t)) (Ok None) g h = absurd (token_or_end g h.0)
one_answer a b c (Ok (Some t)) (Err f) g h = absurd (token_or_fault g h.0)
one_answer a b c (Ok None) (Ok (Some u)) g h = absurd (token_or_end h g.0)
one_answer a b c (Ok None) (Ok None) g h = (cc, g.1 ∙ sym h.1, g.2 ∙ sym h.2)
one_answer a b c (Ok None) (Err f) g h = absurd (fault_or_end h.0 g.0)
one_answer a b c (Err f) (Ok (Some u)) g h = absurd (token_or_fault h g.0)
one_answer a b c (Err f) (Ok None) g h = absurd (fault_or_end g.0 h.0)
one_answer a b c (Err f) (Err e) g h =
    (ap Err (same_place f.place e.place (g.1 ∙ sym h.1) (one_fault g.0 h.0)), g.2 ∙ sym h.2, g.3 ∙ sym h.3)
