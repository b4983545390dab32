-- What a check of a bundle stands on.
use Rattle.std.specs.Prelude.{ℕ, List}
use Rattle.fault.specs.declared.Fault.{Fault}
use Rattle.bundle.specs.Layout.{Layout, count}
use Rattle.kit.specs.Models.{Model}
use Rattle.catalogue.specs.Records.{Records}
use Rattle.catalogue.specs.Holding.{Slices}
use Rattle.reader.specs.Verdicts.{ReadUpto}
use Rattle.joiner.specs.Rules.{Joins}
use Rattle.joiner.specs.Verdicts.{Refusal}

-- every text of the bundle is read, and all rules of joining hold of what is read
pub record Joined (m : Model) (s : List ℕ) : Type 0 where
  pub layout : Layout s
  pub records : Records
  pub read : ReadUpto s (count s) records
  pub joins : Joins m s records

-- reading or joining is refused, into this memory
pub record Unjoined (m : Model) (s : List ℕ) (z : Slices) : Type 0 where
  pub fault : Fault
  pub why : Refusal m s z fault
