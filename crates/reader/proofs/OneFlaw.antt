-- A lexeme with a flaw goes on, and its flaw has one cause.
use Rattle.std.proofs.Common.{◌≡◌, ℕ, List, [], ◌∷◌, ◌++◌, sym, refl, ◌∙◌, subst, inl, inr}
use Rattle.fault.specs.declared.Cause.{Cause}
use Rattle.lexer.specs.Lexemes.{Lexeme, fixed}
use Rattle.grammar.specs.Tree.{Name, Pin}
use Rattle.grammar.specs.Progress.{Side, State, start, pin_named, pin_wide, go, follow, run}
use Rattle.grammar.specs.Sentences.{Viable}
use Rattle.grammar.proofs.Runs.{run_push}
use Rattle.grammar.proofs.Grammar.{viable}
use Rattle.catalogue.specs.Records.{Records}
use Rattle.parser.specs.Flaws.{Ending, Flaw, other_name, many_pins, many_parts, more_parts, many_connections, bad_pin, bad_wide_pin}

-- the lexeme w goes on from a state
abbrev Goes : State → Lexeme → Type 0
Goes st w = (next : State) × (follow st w ≡ go next)

pin_goes : (d : Side) (ps : List Pin) (p : Name) (w : List ℕ) → Ending w → Goes (pin_named d ps p) (fixed w)
pin_goes d ps p w (inl e) = subst (λ x. Goes (pin_named d ps p) (fixed x)) (sym e) (_, refl)
pin_goes d ps p w (inr e) = subst (λ x. Goes (pin_named d ps p) (fixed x)) (sym e) (_, refl)

wide_goes : (d : Side) (ps : List Pin) (p : Name) (m : ℕ) (w : List ℕ) → Ending w → Goes (pin_wide d ps p m) (fixed w)
wide_goes d ps p m w (inl e) = subst (λ x. Goes (pin_wide d ps p m) (fixed x)) (sym e) (_, refl)
wide_goes d ps p m w (inr e) = subst (λ x. Goes (pin_wide d ps p m) (fixed x)) (sym e) (_, refl)

goes : {x : List ℕ} {r : Records} {st : State} {w : Lexeme} {k : Cause} → Flaw x r st w k → Goes st w
goes (other_name i n h) = (_, refl)
goes (many_pins d ps i n h) = (_, refl)
goes (many_parts h i n g) = (_, refl)
goes (more_parts h ps i n g) = (_, refl)
goes (many_connections l i n h) = (_, refl)
goes (bad_pin d ps p w e b) = pin_goes d ps p w e
goes (bad_wide_pin d ps p m w e b) = wide_goes d ps p m w e

-- so a chip can still come of what is read with it
pub flaw_viable : {x : List ℕ} {r : Records} {st : State} {k : Cause} (ws : List Lexeme) (w : Lexeme) → run ws (go start) ≡ go st → Flaw x r st w k → Viable (ws ++ w ∷ [])
flaw_viable {st = st} ws w h f = viable (ws ++ w ∷ []) (goes f).0 (run_push ws w st h ∙ (goes f).1)

pub one_flaw : {x : List ℕ} {r : Records} {st : State} {w : Lexeme} {k l : Cause} → Flaw x r st w k → Flaw x r st w l → k ≡ l
one_flaw (other_name i n h) (other_name j m g) = refl
one_flaw (many_pins d ps i n h) (many_pins c qs j m g) = refl
one_flaw (many_parts h i n g) (many_parts f j m e) = refl
one_flaw (more_parts h ps i n g) (more_parts f qs j m e) = refl
one_flaw (many_connections l i n h) (many_connections k j m g) = refl
one_flaw (bad_pin d ps p w e b) (bad_pin c qs q v f a) = refl
one_flaw (bad_wide_pin d ps p m w e b) (bad_wide_pin c qs q n v f a) = refl
