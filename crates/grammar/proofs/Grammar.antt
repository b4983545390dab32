-- Reading lexeme by lexeme is the grammar.
use Rattle.std.proofs.Common.{◌≡◌, ℕ, List, [], ◌∷◌, ◌++◌, sym, refl, ap, ◌∙◌, subst, arith}
use Rattle.lexer.specs.Lexemes.{Lexeme}
use Rattle.grammar.specs.Tree.{Chip}
use Rattle.grammar.specs.Spelling.{chip_words}
use Rattle.grammar.specs.Progress.{State, start, done, go, stop, follow, run, Live}
use Rattle.grammar.specs.Sentences.{Sentence, Viable, ReadsGrammar}
use Rattle.grammar.proofs.Fronts.{front_is}
use Rattle.grammar.proofs.Runs.{run_append, run_push, run_stop, reads}
use Rattle.grammar.proofs.Endings.{Ending, ending}

pub only : (ws : List Lexeme) (c : Chip) → run ws (go start) ≡ go (done c) → ws ≡ chip_words c
only ws c h = sym (front_is ws (done c) h)

pub viable : (ws : List Lexeme) (st : State) → run ws (go start) ≡ go st → Viable ws
viable ws st h =
    let e : Ending st = ending st in
    record { rest = e.rest; sentence = (e.chip, only (ws ++ e.rest) e.chip (run_append ws e.rest (go start) ∙ ap (run e.rest) h ∙ e.read)) }

-- a whole chip and no more has been read
pub finished : (ws : List Lexeme) (st : State) (c : Chip) → run ws (go start) ≡ go st → ws ≡ chip_words c → st ≡ done c
finished ws st c h e =
    let k : go st ≡ go (done c) = sym h ∙ ap (λ l. run l (go start)) e ∙ reads c in
    cc

pub unfinished : (ws : List Lexeme) (st : State) → run ws (go start) ≡ go st → Live st → Sentence ws → ⊥
unfinished ws st h l s = subst Live (finished ws st s.0 h s.1) l

pub stuck : (ws : List Lexeme) → run ws (go start) ≡ stop → Viable ws → ⊥
stuck ws h v =
    let k : go (done v.sentence.0) ≡ stop = sym (reads v.sentence.0) ∙ ap (λ l. run l (go start)) (sym v.sentence.1) ∙ run_append ws v.rest (go start) ∙ ap (run v.rest) h ∙ run_stop v.rest in
    let z : ◌≡◌ {A = ℕ} 0 1 = cc in omega arith

-- the lexeme w is refused behind ws
pub refused : (ws : List Lexeme) (w : Lexeme) (st : State) → run ws (go start) ≡ go st → follow st w ≡ stop → Viable (ws ++ w ∷ []) → ⊥
refused ws w st h k = stuck (ws ++ w ∷ []) (run_push ws w st h ∙ k)

pub one : (c d : Chip) → chip_words c ≡ chip_words d → c ≡ d
one c d e =
    let k : done c ≡ done d = finished (chip_words d) (done c) d (ap (λ l. run l (go start)) (sym e) ∙ reads c) refl in
    cc

-- every part of the theorem
pub grammar : ReadsGrammar
grammar = record { reads = reads; only = only; viable = viable; unfinished = unfinished; stuck = stuck; one = one; some = (ending start).chip }
