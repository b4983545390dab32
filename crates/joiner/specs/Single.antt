-- No bundle has two verdicts. That each has one is for the contract of joining to say.
use Rattle.std.specs.Prelude.{◌≡◌, ℕ, List}
use Rattle.fault.specs.declared.Cause.{Cause}
use Rattle.fault.specs.declared.Place.{Place}
use Rattle.fault.specs.declared.Fault.{Fault}
use Rattle.kit.specs.Models.{Model}
use Rattle.catalogue.specs.Records.{Records}
use Rattle.catalogue.specs.declared.room.Counts.{Counts}
use Rattle.catalogue.specs.Holding.{Slices}
use Rattle.joiner.specs.Rules.{Joins, Breaks, LeftOpen}
use Rattle.joiner.specs.Verdicts.{Accepted, Refusal}

pub record OneVerdict : Type 0 where
  -- where all rules hold, nothing breaks one, and nothing is left open
  pub sound : (m : Model) (s : List ℕ) (r : Records) (k : Cause) (x : Place) → Joins m s r → Breaks m s r k x → ⊥
  pub closed : (m : Model) (s : List ℕ) (r : Records) (k : Cause) (x : Place) → Joins m s r → LeftOpen m s r k x → ⊥
  -- a bundle is refused for one fault at most
  pub one_refusal : (m : Model) (s : List ℕ) (old : Slices) (f g : Fault) → Refusal m s old f → Refusal m s old g → f ≡ g
  -- and it is not both joined and refused
  pub joined_or_refused : (m : Model) (s : List ℕ) (old new : Slices) (n : Counts) (f : Fault) → Accepted m s old new n → Refusal m s old f → ⊥
