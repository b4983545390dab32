-- What reading a text answers.
use Rattle.std.specs.Prelude.{◌≡◌, ℕ, List}
use Rattle.fault.specs.declared.Cause.{Cause}
use Rattle.grammar.specs.Tree.{Chip}
use Rattle.catalogue.specs.declared.room.Catalogue.{Catalogue}
use Rattle.catalogue.specs.Records.{Records, with_chip}
use Rattle.catalogue.specs.Holding.{Fills}
use Rattle.parser.specs.declared.read_fault.ReadFault.{ReadFault}
use Rattle.parser.specs.Reading.{Reads, Faulty}
use Rattle.parser.specs.Faults.{fault_of}

-- the text s of the entry e is read as a chip, and the catalogue has its records
pub record Accepted (expected : List ℕ) (r : Records) (s : List ℕ) (e : ℕ) (c : Catalogue) : Type 0 where
  pub chip : Chip
  pub reads : Reads expected r s chip
  pub fills : Fills c (with_chip r e chip)

-- the refusal f of the text s of the entry e tells its first fault
pub record Refused (expected : List ℕ) (r : Records) (s : List ℕ) (e : ℕ) (f : ReadFault) : Type 0 where
  pub cause : Cause
  pub byte : ℕ
  pub faulty : Faulty expected r s cause byte
  pub tells : fault_of f ≡ record { cause = cause; place = record { entry = e; byte = byte } }
