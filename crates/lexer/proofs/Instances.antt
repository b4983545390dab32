-- A text of two lexemes, an end behind a comment, and a comment that is not closed.
use Rattle.std.proofs.Common.{◌≡◌, ℕ, List, [], ◌∷◌, codes, refl, arith, Bor}
use Rattle.std.proofs.lemmas.Bool.{both_ways}
use Rattle.text.specs.Keywords.{spelling}
use Rattle.text.specs.Names.{Named}
use Rattle.text.specs.declared.keyword.Keyword.{Keyword}
use Rattle.lexer.specs.declared.tokens.Token.{Token}
use Rattle.lexer.specs.declared.tokens.Token.TheVariants.{Name, Semicolon}
use Rattle.lexer.specs.Gaps.{Separator, one, line, block, none, more}
use Rattle.lexer.specs.Lexemes as lexemes
use Rattle.lexer.specs.Lexemes.{name, fixed, Lexed}
use Rattle.lexer.specs.Steps.{Gives, Ends, Fails}
use Rattle.lexer.specs.Tokens.{Stands}
use Rattle.lexer.proofs.Runs.{mark_token}
use Rattle.lexer.proofs.Sorts.{mark, token_mark, word_by}

ab : Bor (List ℕ)
ab = record { ref_ptr = (0, 0); now = codes "ab" }

-- no reserved word begins with `a`
other : (k : Keyword) → codes "ab" ≡ spelling k → ⊥
other k e = grind arith

ab_named : Named (codes "ab")
ab_named =
    record { some = omega arith; first = refl; word = word_by (codes "ab") refl; short = omega arith; free = λ r. other r.0 r.1 }

the_name : Gives (codes " ab;") 0 1 3 (Name ab)
unfolding ab
the_name =
    record {
      gap = more none (one refl refl);
      stands = record { after = omega arith; within = omega arith; spells = (refl, ab_named); whole = λ _. refl };
    }

the_mark : Gives (codes " ab;") 3 3 4 Semicolon
the_mark = record { gap = none; stands = record { after = omega arith; within = omega arith; spells = refl; whole = λ _. refl } }

pub a_text : Lexed (codes " ab;") 0 (name 1 (codes "ab") ∷ fixed (codes ";") ∷ []) 4
unfolding ab
a_text = lexemes.more (lexemes.more lexemes.none the_name) the_mark

pub an_end : Ends (codes "/**/") 0
an_end = more none (block (record { starts = (refl, refl); after = omega arith; within = omega arith; inside = λ k l m p. omega arith; ends = (refl, refl) }))

pub a_fault : Fails (codes "/*/") 0 0
a_fault = record { gap = none; within = omega arith; no_separator = no_separator; no_token = no_token }
  where
    no_separator : (j : ℕ) → Separator (codes "/*/") 0 j → ⊥
    no_separator j (one b e) = both_ways _ refl b
    no_separator j (line l) = omega (arith, l.starts.1)
    no_separator j (block l) = omega (arith, l.after, l.within)

    no_token : (j : ℕ) (t : Token) → Stands (codes "/*/") 0 j t → ⊥
    no_token j t h = both_ways (mark 47) refl (token_mark 47 t refl (mark_token (codes "/*/") j t h refl (λ p. omega (arith, p.0))))
