-- What joining all texts of a bundle comes to.
use Rattle.std.specs.Prelude.{◌≡◌, ℕ, List, length}
use Rattle.fault.specs.declared.Cause.{Cause}
use Rattle.fault.specs.declared.Place.{Place}
use Rattle.fault.specs.declared.Fault.{Fault}
use Rattle.bundle.specs.Layout.{Layout, count}
use Rattle.kit.specs.Models.{Model}
use Rattle.catalogue.specs.Records as records
use Rattle.catalogue.specs.Records.{Records}
use Rattle.catalogue.specs.declared.room.Counts.{Counts}
use Rattle.catalogue.specs.Holding.{Slices, Enough, Holds}
use Rattle.reader.specs.Verdicts as reader
use Rattle.reader.specs.Verdicts.{ReadUpto}
use Rattle.joiner.specs.Joined.{joined}
use Rattle.joiner.specs.Rules.{Joins, Breaks, LeftOpen, First}

-- all texts are read and joined: the catalogue holds their records, so many and resolved, and then blank ones
pub record Accepted (m : Model) (s : List ℕ) (old new : Slices) (n : Counts) : Type 0 where
  pub enough : Enough old
  pub layout : Layout s
  pub records : Records
  pub read : ReadUpto s (count s) records
  pub joins : Joins m s records
  pub holds : Holds new (joined m s records)
  pub counted : n ≡ record { pins = length (records).pins; parts = length (records).parts; connections = length (records).connections }

-- the fault at a place
abbrev pub fault_at : Cause → Place → Fault
fault_at k x = record { cause = k; place = x }

-- why texts that are read are not joined: a rule is broken, or else something is left open
pub data Unjoined (m : Model) (s : List ℕ) (r : Records) : Cause → Place → Type 0 where
  broken : (k : Cause) (x : Place) → First (Breaks m s r) k x → Unjoined m s r k x
  left_open : (k : Cause) (x : Place) → ((l : Cause) (y : Place) → Breaks m s r l y → ⊥) → First (LeftOpen m s r) k x → Unjoined m s r k x

-- why a bundle is refused: reading refuses it, or else joining
pub data Refusal (m : Model) (s : List ℕ) (old : Slices) (f : Fault) : Type 0 where
  unread : reader.Refusal s old f → Refusal m s old f
  unjoined : (r : Records) (k : Cause) (x : Place) → Enough old → Layout s → ReadUpto s (count s) r → Unjoined m s r k x → f ≡ fault_at k x → Refusal m s old f

-- a refusal leaves the whole catalogue blank
pub record Refused (m : Model) (s : List ℕ) (old new : Slices) (f : Fault) : Type 0 where
  pub why : Refusal m s old f
  pub blank : Holds new records.none
