-- Two lexings of a text from one place are the same, or one goes on where the other ends.
use Rattle.std.proofs.Common.{◌≡◌, ℕ, List, [], ◌∷◌, ◌++◌, sym, refl, subst}
use Rattle.lexer.specs.declared.tokens.Token.{Token}
use Rattle.lexer.specs.Steps.{Gives}
use Rattle.lexer.specs.Lexemes.{Lexeme, lexeme, Lexed, none, more}
use Rattle.lexer.proofs.Single.{one_token}

-- behind the lexemes us, which end at p, a token leads on to vs
pub record Onward (s : List ℕ) (us : List Lexeme) (p : ℕ) (vs : List Lexeme) : Type 0 where
  pub first : ℕ
  pub end : ℕ
  pub token : Token
  pub rest : List Lexeme
  pub gives : Gives s p first end token
  pub is : vs ≡ us ++ lexeme first token ∷ rest

-- the lexemes us, which end at p, and vs, which end at q
pub data Compared (s : List ℕ) (us : List Lexeme) (p : ℕ) (vs : List Lexeme) (q : ℕ) : Type 0 where
  same : us ≡ vs → p ≡ q → Compared s us p vs q
  shorter : Onward s us p vs → Compared s us p vs q
  longer : Onward s vs q us → Compared s us p vs q

-- lexemes from the front
data Chain (s : List ℕ) : ℕ → List Lexeme → ℕ → Type 0 where
  nil : {p : ℕ} → Chain s p [] p
  cons : {p i j q : ℕ} {t : Token} {ws : List Lexeme} → Gives s p i j t → Chain s j ws q → Chain s p (lexeme i t ∷ ws) q

chain_more : {s : List ℕ} {p q i j : ℕ} {t : Token} {ws : List Lexeme} → Chain s p ws q → Gives s q i j t → Chain s p (ws ++ lexeme i t ∷ []) j
chain_more nil g = cons g nil
chain_more (cons h c) g = cons h (chain_more c g)

chain : {s : List ℕ} {p q : ℕ} {ws : List Lexeme} → Lexed s p ws q → Chain s p ws q
chain none = nil
chain (more h g) = chain_more (chain h) g

-- with the same lexeme in front of both
onward_behind : {s : List ℕ} {us vs : List Lexeme} {p : ℕ} (v w : Lexeme) → v ≡ w → Onward s us p vs → Onward s (v ∷ us) p (w ∷ vs)
onward_behind v w e h =
    let d = h.is in
    record { first = h.first; end = h.end; token = h.token; rest = h.rest; gives = h.gives; is = cc }

behind : {s : List ℕ} {us vs : List Lexeme} {p q : ℕ} (v w : Lexeme) → v ≡ w → Compared s us p vs q → Compared s (v ∷ us) p (w ∷ vs) q
behind v w e (same a b) = same (cc) b
behind v w e (shorter h) = shorter (onward_behind v w e h)
behind v w e (longer h) = longer (onward_behind w v (sym e) h)

compare_chains : {s : List ℕ} {o p q : ℕ} {us vs : List Lexeme} → Chain s o us p → Chain s o vs q → Compared s us p vs q
compare_chains nil nil = same refl refl
compare_chains nil (cons {i = i} {j = j} {t = t} {ws = ws} g d) = shorter (record { first = i; end = j; token = t; rest = ws; gives = g; is = refl })
compare_chains (cons {i = i} {j = j} {t = t} {ws = ws} g c) nil = longer (record { first = i; end = j; token = t; rest = ws; gives = g; is = refl })
compare_chains {s = s} (cons {j = j} g c) (cons {q = q} {ws = ws} h d) =
    let e = one_token g h in
    behind _ _ e.2 (compare_chains c (subst (λ x. Chain s x ws q) (sym e.1) d))

pub compare : {s : List ℕ} {o p q : ℕ} {us vs : List Lexeme} → Lexed s o us p → Lexed s o vs q → Compared s us p vs q
compare h g = compare_chains (chain h) (chain g)
