-- Every pin of a bundle that is read fits: else its text had a flaw behind it.
use Rattle.std.proofs.Common.{◌≡◌, ℕ, ◌+◌, ◌<◌, List, [], ◌∷◌, ◌++◌, length, Some, None, codes, Option, sym, refl, ap, ◌∙◌, inl, inr, append_assoc, arith}
use Rattle.std.specs.List.{AllByRecursion as All}
use Rattle.std.proofs.ByRecursion.{All-get_or, All-append}
use Rattle.fault.specs.declared.Cause.TheVariants as cause
use Rattle.bundle.specs.Layout.{name}
use Rattle.lexer.specs.Lexemes.{Lexeme, fixed}
use Rattle.kit.specs.declared.shape.Side as kit
use Rattle.kit.specs.declared.shape.Side.TheVariants.{In, Out}
use Rattle.grammar.specs.Tree.{Name, Row, items, Pin}
use Rattle.grammar.specs.Spelling.{mark, named, pin_words, pins_words, header_words, chip_words}
use Rattle.grammar.specs.Progress as state
use Rattle.grammar.specs.Progress.{Side, ins, outs, start, pin_named, pin_wide, go, run}
use Rattle.grammar.proofs.Fronts.{commas, side_front}
use Rattle.grammar.proofs.Runs.{run_append, pins_run}
use Rattle.catalogue.specs.Records.{Records, blank_pin, width_of, side_pins, header_pins}
use Rattle.parser.specs.Flaws.{bits, BadPin, none, wide, full, Ending, bad_pin, bad_wide_pin}
use Rattle.parser.specs.Reading.{Clean}
use Rattle.parser.proofs.Rows.{pin_record, bits_push}
use Rattle.reader.specs.Verdicts as verdicts
use Rattle.reader.specs.Verdicts.{ReadUpto}
use Rattle.wellformed.specs.Places.{pin}
use Rattle.wellformed.specs.WellFormed.{PinFits}

-- a pin that may stand behind the pins ps of its side fits
good_fits : (e at : ℕ) (s : kit.Side) (d : Side) (ps : List Pin) (p : Pin) → at ≡ bits ps → (BadPin d ps p → ⊥) → PinFits (pin_record e s at p)
good_fits e at s d ps p a g =
    let x : width_of p ≡ 0 → ⊥ = λ h. g (none h) in
    let y : 16 < width_of p → ⊥ = λ h. g (wide h) in
    let z : 64 < bits ps + width_of p → ⊥ = λ h. g (full h) in
    record { some = omega arith; narrow = omega arith; within = omega arith }

-- behind a pin and a comma
comma_pin : (d : Side) (ps : List Pin) (n : Name) (w : Option ℕ) → run (pin_words (record { name = n; width = w }) ++ mark (codes ",")) (go (state.pin d ps)) ≡ go (state.pin d (ps ++ record { name = n; width = w } ∷ []))
comma_pin d ps n None = refl
comma_pin d ps n (Some w) = refl

-- lexemes without a flaw: no pin with a comma or a semicolon behind it is a bad one
module _ (expected : List ℕ) (r : Records) (ws : List Lexeme) (clean : Clean expected r ws) where
  good : (d : Side) (ps : List Pin) (n : Name) (m : Option ℕ) (us vs : List Lexeme) (w : List ℕ) → Ending w → ws ≡ us ++ (pin_words (record { name = n; width = m }) ++ fixed w ∷ vs) → run us (go start) ≡ go (state.pin d ps) → BadPin d ps (record { name = n; width = m }) → ⊥
  good d ps n None us vs w k e h b =
      clean (us ++ named n) vs (fixed w) (pin_named d ps n) cause.BadPin (e ∙ sym (append_assoc us _ _)) (run_append us (named n) (go start) ∙ ap (run (named n)) h) (bad_pin d ps n w k b)
  good d ps n (Some m) us vs w k e h b =
      let p = pin_words (record { name = n; width = Some m }) in
      clean (us ++ p) vs (fixed w) (pin_wide d ps n m) cause.BadPin (e ∙ sym (append_assoc us _ _)) (run_append us p (go start) ∙ ap (run p) h) (bad_wide_pin d ps n m w k b)

  module _ (e : ℕ) where
    -- the pins of a row, behind the pins ps of its side
    row_fits : (s : kit.Side) (d : Side) (qs ps : List Pin) (q : Pin) (us vs : List Lexeme) (at : ℕ) → at ≡ bits ps → ws ≡ us ++ (commas pin_words qs ++ (pin_words q ++ fixed (codes ";") ∷ vs)) → run us (go start) ≡ go (state.pin d ps) → All PinFits (side_pins e s at (qs ++ q ∷ []))
    row_fits s d [] ps q us vs at a x h = (good_fits e at s d ps q a (good d ps q.name q.width us vs (codes ";") (inr refl) x h), tt)
    row_fits s d (p ∷ qs) ps q us vs at a x h =
        let w = pin_words p ++ mark (codes ",") in
        let more = commas pin_words qs ++ (pin_words q ++ fixed (codes ";") ∷ vs) in
        let y : ws ≡ us ++ (w ++ more) = x ∙ ap (λ l. us ++ l) (append_assoc w _ _) in
        let z : ws ≡ us ++ (pin_words p ++ fixed (codes ",") ∷ more) = y ∙ ap (λ l. us ++ l) (append_assoc (pin_words p) _ _) in (
          good_fits e at s d ps p a (good d ps p.name p.width us more (codes ",") (inl refl) z h),
          row_fits s d qs (ps ++ p ∷ []) q (us ++ w) vs (at + width_of p) (omega (arith, bits_push ps p)) (y ∙ sym (append_assoc us w more)) (run_append us w (go start) ∙ ap (run w) h ∙ comma_pin d ps p.name p.width),
        )

    -- a whole row
    side_fits : (s : kit.Side) (d : Side) (q : Row Pin) (us vs : List Lexeme) → ws ≡ us ++ (pins_words q ++ vs) → run us (go start) ≡ go (state.pin d []) → All PinFits (side_pins e s 0 (items q))
    side_fits s d q us vs x h = row_fits s d q.init [] q.last us vs 0 refl (x ∙ simp append_assoc) h

    -- either side
    header_fits : (n : Name) (i : Option (Row Pin)) (o : Row Pin) (vs : List Lexeme) → ws ≡ header_words (record { name = n; ins = i; outs = o }) ++ vs → All PinFits (header_pins e (record { name = n; ins = i; outs = o }))
    header_fits n None o vs x = side_fits Out (outs n None) o (side_front (outs n None)) vs x refl
    header_fits n (Some i) o vs x =
        let us = side_front (ins n) in
        let y : ws ≡ us ++ (pins_words i ++ fixed (codes "OUT") ∷ (pins_words o ++ vs)) = x ∙ ap (λ l. us ++ l) (append_assoc (pins_words i) _ vs) in
        let z : ws ≡ side_front (outs n (Some i)) ++ (pins_words o ++ vs) = y ∙ ap (λ l. us ++ l) (sym (append_assoc (pins_words i) (mark (codes "OUT")) (pins_words o ++ vs))) in
        All-append PinFits _ _ (side_fits In (ins n) i us (fixed (codes "OUT") ∷ (pins_words o ++ vs)) y refl)
        (side_fits Out (outs n (Some i)) o (side_front (outs n (Some i))) vs z (pins_run (ins n) i (mark (codes "OUT"))))

-- text by text
all_fit : (s : List ℕ) (k : ℕ) (r : Records) → ReadUpto s k r → All PinFits r.pins
all_fit s _ _ verdicts.none = tt
all_fit s _ _ (verdicts.more k r c h x) =
    let d = c.header in
    All-append PinFits r.pins (header_pins k d) (all_fit s k r h) (header_fits (name s k) r (chip_words c) x.clean k d.name d.ins d.outs _ refl)

pub pins_fit : (s : List ℕ) (k : ℕ) (r : Records) → ReadUpto s k r → (i : ℕ) → i < length r.pins → PinFits (pin r i)
pins_fit s k r h i l = All-get_or PinFits r.pins i blank_pin l (all_fit s k r h)
