-- Records in lent memory, with blank ones behind them.
use Rattle.std.specs.Prelude.{◌≡◌, ℕ, List, length}
use Rattle.fault.specs.declared.Cause.{Cause}
use Rattle.fault.specs.declared.Place.{Place}
use Rattle.fault.specs.declared.Fault.{Fault}
use Rattle.bundle.specs.Layout.{Layout, count}
use Rattle.kit.specs.Models.{Model}
use Rattle.catalogue.specs.Records.{Records}
use Rattle.catalogue.specs.declared.room.Counts.{Counts}
use Rattle.catalogue.specs.Holding.{Slices, Holds}
use Rattle.reader.specs.Verdicts.{ReadUpto}
use Rattle.joiner.specs.Joined.{joined}
use Rattle.joiner.specs.Rules.{Joins}
use Rattle.joiner.specs.Verdicts as verdicts
use Rattle.joiner.specs.Verdicts.{fault_at}

abbrev pub counts_of : Records → Counts
counts_of r = record { pins = length r.pins; parts = length r.parts; connections = length r.connections }

-- all texts of the bundle s are read, into so many records
pub record ReadInto (s : List ℕ) (z : Slices) (n : Counts) : Type 0 where
  pub layout : Layout s
  pub records : Records
  pub read : ReadUpto s (count s) records
  pub holds : Holds z records
  pub counted : n ≡ counts_of records

-- and joined
pub record JoinedInto (m : Model) (s : List ℕ) (z : Slices) (n : Counts) : Type 0 where
  pub records : Records
  pub read : ReadUpto s (count s) records
  pub joins : Joins m s records
  pub holds : Holds z (joined m s records)
  pub counted : n ≡ counts_of records

-- or they are not, for this reason
pub record Unjoined (m : Model) (s : List ℕ) (f : Fault) : Type 0 where
  pub records : Records
  pub read : ReadUpto s (count s) records
  pub cause : Cause
  pub place : Place
  pub unjoined : verdicts.Unjoined m s records cause place
  pub tells : f ≡ fault_at cause place
