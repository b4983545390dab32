-- What the outline of a bundle stands on.
use Rattle.std.specs.Prelude.{ℕ, List}
use Rattle.fault.specs.declared.Fault.{Fault}
use Rattle.bundle.specs.Layout.{Layout, count}
use Rattle.catalogue.specs.Records.{Records}
use Rattle.catalogue.specs.Holding.{Slices}
use Rattle.reader.specs.Verdicts.{ReadUpto, Refusal}

-- every text of the bundle is read
pub record Read (s : List ℕ) : Type 0 where
  pub layout : Layout s
  pub records : Records
  pub read : ReadUpto s (count s) records

-- the reading is refused, into this memory
pub record Unread (s : List ℕ) (z : Slices) : Type 0 where
  pub fault : Fault
  pub why : Refusal s z fault
