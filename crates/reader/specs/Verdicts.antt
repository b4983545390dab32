-- What reading all texts of a bundle comes to.
use Rattle.std.specs.Prelude.{◌≡◌, ℕ, suc, ◌<◌, List, length}
use Rattle.fault.specs.declared.Cause.{Cause}
use Rattle.fault.specs.declared.Cause.TheVariants.{SmallCatalogue, BrokenLayout}
use Rattle.fault.specs.declared.Fault.{Fault}
use Rattle.fault.specs.Faults.{nowhere}
use Rattle.bundle.specs.Layout.{Layout, count, name, text}
use Rattle.grammar.specs.Tree.{Chip}
use Rattle.catalogue.specs.Records as records
use Rattle.catalogue.specs.Records.{Records, with_chip, blank_pin, blank_part, blank_connection}
use Rattle.catalogue.specs.declared.room.Catalogue.{Catalogue}
use Rattle.catalogue.specs.declared.room.Counts.{Counts}
use Rattle.catalogue.specs.Holding.{Slices, Enough, Holds, Fills}
use Rattle.parser.specs.Reading.{Reads, Faulty}

-- the first texts of the bundle s are read, and these are their records
pub data ReadUpto (s : List ℕ) : ℕ → Records → Type 0 where
  none : ReadUpto s 0 records.none
  more : (k : ℕ) (r : Records) (c : Chip) → ReadUpto s k r → Reads (name s k) r (text s k) c → ReadUpto s (suc k) (with_chip r k c)

-- the catalogue is filled with the records of the first texts of the bundle s
pub record FilledUpto (s : List ℕ) (k : ℕ) (c : Catalogue) : Type 0 where
  pub records : Records
  pub read : ReadUpto s k records
  pub fills : Fills c records

-- or of all of them
abbrev pub AllRead : List ℕ → Catalogue → Type 0
AllRead s c = FilledUpto s (count s) c

-- the first text of the bundle s that has a fault has this one first
pub record Unread (s : List ℕ) (f : Fault) : Type 0 where
  pub entry : ℕ
  pub below : entry < count s
  pub records : Records
  pub read : ReadUpto s entry records
  pub cause : Cause
  pub byte : ℕ
  pub faulty : Faulty (name s entry) records (text s entry) cause byte
  pub is : f ≡ record { cause = cause; place = record { entry = entry; byte = byte } }

-- all texts are read; the catalogue holds their records, so many, and then blank ones
pub record Accepted (s : List ℕ) (old new : Slices) (n : Counts) : Type 0 where
  pub enough : Enough old
  pub layout : Layout s
  pub records : Records
  pub read : ReadUpto s (count s) records
  pub holds : Holds new records
  pub counted : n ≡ record { pins = length (records).pins; parts = length (records).parts; connections = length (records).connections }

-- why a reading is refused: the catalogue is too small; else the bundle's layout is broken; else a text has a fault
pub data Refusal (s : List ℕ) (old : Slices) (f : Fault) : Type 0 where
  small : (Enough old → ⊥) → f ≡ nowhere SmallCatalogue → Refusal s old f
  broken : Enough old → (Layout s → ⊥) → f ≡ nowhere BrokenLayout → Refusal s old f
  unread : Enough old → Layout s → Unread s f → Refusal s old f

-- a refusal leaves the whole catalogue blank
pub record Refused (s : List ℕ) (old new : Slices) (f : Fault) : Type 0 where
  pub why : Refusal s old f
  pub blank : Holds new records.none
