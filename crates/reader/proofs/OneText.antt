-- A text is one chip at most, has one first fault at most, and not both.
use Rattle.std.proofs.Common.{◌≡◌, ℕ, List, [], ◌∷◌, ◌++◌, sym, refl, ap, ◌∙◌, subst, append_assoc, append-nil}
use Rattle.fault.specs.declared.Cause.{Cause}
use Rattle.lexer.specs.Steps.{Ends}
use Rattle.lexer.specs.Lexemes.{Lexeme, lexeme}
use Rattle.lexer.proofs.Single as lex
use Rattle.lexer.proofs.Single.{one_token, token_or_end, token_or_fault, fault_or_end}
use Rattle.grammar.specs.Tree.{Chip}
use Rattle.grammar.specs.Spelling.{chip_words}
use Rattle.grammar.specs.Progress.{go}
use Rattle.grammar.specs.Sentences.{Sentence, Viable}
use Rattle.grammar.proofs.Grammar.{one}
use Rattle.catalogue.specs.Records.{Records}
use Rattle.parser.specs.Flaws.{Flaw}
use Rattle.parser.specs.Reading.{Clean, Reads, FaultAt, no_token, ends, breaks, flawed, Faulty}
use Rattle.reader.proofs.Lexings.{Onward, Compared, same, shorter, longer, compare}
use Rattle.reader.proofs.OneFlaw.{flaw_viable, one_flaw}

-- what stands before lexemes that can still become a chip can do so too
front_viable : (us vs ws : List Lexeme) → ws ≡ us ++ vs → Viable ws → Viable us
front_viable us vs ws e v =
    record { rest = vs ++ v.rest; sentence = (v.sentence.0, sym (append_assoc us vs v.rest) ∙ ap (λ x. x ++ v.rest) (sym e) ∙ v.sentence.1) }

module _ (e : List ℕ) (r : Records) (s : List ℕ) where
  -- lexemes that can become a chip and have no flaw do not go on past a fault
  passed : {p : ℕ} {ws vs : List Lexeme} {k : Cause} {i : ℕ} → Onward s ws p vs → Viable vs → Clean e r vs → FaultAt e r s p ws k i → ⊥
  passed o v c (no_token i f) = token_or_fault o.gives f
  passed o v c (ends h n) = token_or_end o.gives h
  passed {ws = ws} {vs = vs} o v c (breaks i j t g n) =
      let w = lexeme i t in
      let d : vs ≡ ws ++ w ∷ o.rest = o.is ∙ ap (λ x. ws ++ x ∷ o.rest) (one_token o.gives g).2 in
      n (front_viable (ws ++ w ∷ []) o.rest vs (d ∙ sym (append_assoc ws (w ∷ []) o.rest)) v)
  passed {ws = ws} {vs = vs} o v c (flawed i j t st k g h f) =
      c ws o.rest (lexeme i t) st k (o.is ∙ ap (λ x. ws ++ x ∷ o.rest) (one_token o.gives g).2) h f

  -- at one place there is one fault
  same_fault : {p : ℕ} {ws : List Lexeme} {k l : Cause} {i j : ℕ} → FaultAt e r s p ws k i → FaultAt e r s p ws l j → (k ≡ l) × (i ≡ j)
  same_fault (no_token i f) (no_token j g) = (refl, lex.one_fault f g)
  same_fault (no_token i f) (ends h n) = absurd (fault_or_end f h)
  same_fault (no_token i f) (breaks j y u h n) = absurd (token_or_fault h f)
  same_fault (no_token i f) (flawed j y u st k h m a) = absurd (token_or_fault h f)
  same_fault (ends g m) (no_token j f) = absurd (fault_or_end f g)
  same_fault (ends g m) (ends h n) = (refl, refl)
  same_fault (ends g m) (breaks j y u h n) = absurd (token_or_end h g)
  same_fault (ends g m) (flawed j y u st k h n a) = absurd (token_or_end h g)
  same_fault (breaks i x t g m) (no_token j f) = absurd (token_or_fault g f)
  same_fault (breaks i x t g m) (ends h n) = absurd (token_or_end g h)
  same_fault (breaks i x t g m) (breaks j y u h n) = (refl, (one_token g h).0)
  same_fault {ws = ws} (breaks i x t g m) (flawed j y u st k h n a) =
      absurd (m (subst (λ w. Viable (ws ++ w ∷ [])) (one_token h g).2 (flaw_viable ws (lexeme j u) n a)))
  same_fault (flawed i x t st k g m a) (no_token j f) = absurd (token_or_fault g f)
  same_fault (flawed i x t st k g m a) (ends h n) = absurd (token_or_end g h)
  same_fault {ws = ws} (flawed i x t st k g m a) (breaks j y u h n) =
      absurd (n (subst (λ w. Viable (ws ++ w ∷ [])) (one_token g h).2 (flaw_viable ws (lexeme i t) m a)))
  same_fault (flawed i x t st k g m a) (flawed j y u su l h n b) =
      let z : go su ≡ go st = sym n ∙ m in
      let d : su ≡ st = cc in
      let w = one_token h g in
      (one_flaw a (subst (λ v. Flaw e r st v l) w.2 (subst (λ v. Flaw e r v (lexeme j u) l) d b)), sym w.0)

  -- behind a whole chip that ends the text there is none
  no_fault : {p : ℕ} {ws : List Lexeme} {k : Cause} {i : ℕ} → Ends s p → Sentence ws → FaultAt e r s p ws k i → ⊥
  no_fault h c (no_token i f) = fault_or_end f h
  no_fault h c (ends g n) = n c
  no_fault h c (breaks i j t g n) = token_or_end g h
  no_fault h c (flawed i j t st k g n f) = token_or_end g h

  -- a fault behind lexemes is one behind equal lexemes
  moved : {p q : ℕ} {us vs : List Lexeme} {k : Cause} {i : ℕ} → us ≡ vs → p ≡ q → FaultAt e r s p us k i → FaultAt e r s q vs k i
  moved {p = p} {vs = vs} {k = k} {i = i} a b f =
      subst (λ x. FaultAt e r s x vs k i) b (subst (λ x. FaultAt e r s p x k i) a f)

  chip_viable : (c : Chip) → Viable (chip_words c)
  chip_viable c = record { rest = []; sentence = (c, append-nil (chip_words c)) }

  pub one_chip : (c d : Chip) → Reads e r s c → Reads e r s d → c ≡ d
  one_chip c d a b = judged (compare a.lexed b.lexed)
    where
      judged : Compared s (chip_words c) a.place (chip_words d) b.place → c ≡ d
      judged (same h g) = one c d h
      judged (shorter o) = absurd (token_or_end o.gives a.ends)
      judged (longer o) = absurd (token_or_end o.gives b.ends)

  pub one_fault : (k l : Cause) (i j : ℕ) → Faulty e r s k i → Faulty e r s l j → (k ≡ l) × (i ≡ j)
  one_fault k l i j a b = judged (compare a.lexed b.lexed)
    where
      judged : Compared s a.lexemes a.place b.lexemes b.place → (k ≡ l) × (i ≡ j)
      judged (same h g) = same_fault (moved h g a.fault) b.fault
      judged (shorter o) = absurd (passed o b.viable b.clean a.fault)
      judged (longer o) = absurd (passed o a.viable a.clean b.fault)

  pub not_both : (c : Chip) (k : Cause) (i : ℕ) → Reads e r s c → Faulty e r s k i → ⊥
  not_both c k i a b = judged (compare a.lexed b.lexed)
    where
      judged : Compared s (chip_words c) a.place b.lexemes b.place → ⊥
      judged (same h g) = no_fault a.ends (c, refl) (moved (sym h) (sym g) b.fault)
      judged (shorter o) = token_or_end o.gives a.ends
      judged (longer o) = passed o (chip_viable c) a.clean b.fault
