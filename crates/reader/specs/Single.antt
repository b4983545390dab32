-- No text and no bundle has two verdicts. That each has one is for the contract of reading to say.
use Rattle.std.specs.Prelude.{◌≡◌, ℕ, List}
use Rattle.fault.specs.declared.Cause.{Cause}
use Rattle.fault.specs.declared.Fault.{Fault}
use Rattle.grammar.specs.Tree.{Chip}
use Rattle.catalogue.specs.Records.{Records}
use Rattle.catalogue.specs.declared.room.Counts.{Counts}
use Rattle.catalogue.specs.Holding.{Slices}
use Rattle.parser.specs.Reading.{Reads, Faulty}
use Rattle.reader.specs.Verdicts.{ReadUpto, Accepted, Refusal}

pub record OneVerdict : Type 0 where
  -- a text is one chip at most
  pub one_chip : (e : List ℕ) (r : Records) (s : List ℕ) (c d : Chip) → Reads e r s c → Reads e r s d → c ≡ d
  -- it has one first fault at most
  pub one_fault : (e : List ℕ) (r : Records) (s : List ℕ) (k l : Cause) (i j : ℕ) → Faulty e r s k i → Faulty e r s l j → (k ≡ l) × (i ≡ j)
  -- and it is not both a chip and at fault
  pub not_both : (e : List ℕ) (r : Records) (s : List ℕ) (c : Chip) (k : Cause) (i : ℕ) → Reads e r s c → Faulty e r s k i → ⊥
  -- the first texts of a bundle have one list of records at most
  pub one_reading : (s : List ℕ) (k : ℕ) (q r : Records) → ReadUpto s k q → ReadUpto s k r → q ≡ r
  -- a bundle is refused for one fault at most
  pub one_refusal : (s : List ℕ) (old : Slices) (f g : Fault) → Refusal s old f → Refusal s old g → f ≡ g
  -- and it is not both read and refused
  pub read_or_refused : (s : List ℕ) (old new : Slices) (n : Counts) (f : Fault) → Accepted s old new n → Refusal s old f → ⊥
