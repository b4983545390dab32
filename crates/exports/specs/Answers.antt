-- The answer for callers in other languages.
use Rattle.std.specs.Prelude.{◌≡◌, List, ℕ}
use Rattle.fault.specs.declared.Fault.{Fault}
use Rattle.fault.specs.Faults.{number_of}
use Rattle.bundle.specs.Layout.{Layout, count}
use Rattle.kit.specs.Models.{Model}
use Rattle.catalogue.specs.Records.{Records}
use Rattle.catalogue.specs.Holding.{room}
use Rattle.reader.specs.Verdicts.{ReadUpto, Refusal}
use Rattle.joiner.specs.Rules.{Joins}
use Rattle.joiner.specs.Verdicts as joiner

-- 0 where all texts of the bundle are read, and else the number of the fault
pub data Answered (s : List ℕ) (n : ℕ) : Type 0 where
  read : Layout s → (r : Records) → ReadUpto s (count s) r → n ≡ 0 → Answered s n
  refused : (f : Fault) → Refusal s room f → n ≡ number_of f.cause → Answered s n

-- 0 where they are joined, with this kit, and else the number of the fault
pub data Judged (m : Model) (s : List ℕ) (n : ℕ) : Type 0 where
  joined : Layout s → (r : Records) → ReadUpto s (count s) r → Joins m s r → n ≡ 0 → Judged m s n
  unjoined : (f : Fault) → joiner.Refusal m s room f → n ≡ number_of f.cause → Judged m s n
