-- Pins that names mean fit their sides.
use Rattle.std.proofs.Common.{◌≡◌, ℕ, suc, ◌<◌, ◌≤◌, Bool, true, false, cond, List, [], ◌∷◌, Some, None, Option, sym, refl, ◌∙◌, ⊎_elim, arith}
use Rattle.std.specs.Option.{option_map}
use Rattle.std.specs.List.{All, find}
use Rattle.std.proofs.lemmas.Bool.{cases_lt}
use Rattle.std.proofs.lemmas.Option.{none-some}
use Rattle.kit.specs.Models.{Model, Sound, on}
use Rattle.kit.specs.declared.shape.Side.{Side}
use Rattle.kit.specs.declared.shape.Side.TheVariants.{In, Out}
use Rattle.kit.specs.declared.shape.Pin.{Pin}
use Rattle.catalogue.specs.declared.records.PinRecord.{PinRecord}
use Rattle.catalogue.specs.Shapes.{shape}
use Rattle.wellformed.specs.WellFormed.{PinFits}
use Rattle.joiner.specs.Scopes.{Fit, FitFound}

-- pins that a text declares
pub first_fits : (P : PinRecord → Bool) (ps : List PinRecord) → All PinFits ps → FitFound (option_map shape (find P ps))
first_fits P [] h = tt
first_fits P (p ∷ ps) h = go (P p) (first_fits P ps (λ k d l. h (suc k) d (omega arith)))
  where
    go : (b : Bool) → FitFound (option_map shape (find P ps)) → FitFound (option_map shape (cond b (Some p) (find P ps)))
    go true rest = let f = h 0 p (omega arith) in record { some = f.some; within = f.within }
    go false rest = rest

-- pins of a kit's kinds
pub kit_fits : (m : Model) → Sound m → (k : ℕ) (n : List ℕ) → FitFound (m.pin k n)
kit_fits m h k n = go (m.pin k n) refl
  where
    most : (d : Side) (a b : ℕ) → a ≤ 64 → b ≤ 64 → on d a b ≤ 64
    most In a b x y = x
    most Out a b x y = y

    placed : (p : Pin) → k < m.count → m.pin k n ≡ Some p → Fit p
    placed p l e =
        let laws = h.lawful k l in
        let x = laws.placed n p e in
        record { some = x.some; within = omega (arith, x.within, most p.side _ _ laws.inputs_most laws.outputs_most) }

    go : (o : Option Pin) → m.pin k n ≡ o → FitFound o
    go None e = tt
    go (Some p) e = ⊎_elim (λ l. placed p l e) (λ l. absurd (none-some p (sym ((h.regular.unknown k l).no_pin n) ∙ e))) (cases_lt k m.count)
