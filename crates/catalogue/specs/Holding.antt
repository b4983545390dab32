-- What a catalogue holds.
use Rattle.std.specs.Prelude.{◌≡◌, ◌-◌, ◌≤◌, List, [], ◌∷◌, ◌++◌, length, replicate}
use Rattle.catalogue.specs.declared.records.PinRecord.{PinRecord}
use Rattle.catalogue.specs.declared.records.PartRecord.{PartRecord}
use Rattle.catalogue.specs.declared.records.ConnectionRecord.{ConnectionRecord}
use Rattle.catalogue.specs.declared.room.Catalogue.{Catalogue}
use Rattle.catalogue.specs.declared.room.Counts.{Counts}
use Rattle.catalogue.specs.Records.{Records, blank_pin, blank_part, blank_connection}

-- what the three lent slices hold
pub record Slices : Type 0 where
  pub pins : List PinRecord
  pub parts : List PartRecord
  pub connections : List ConnectionRecord

-- the catalogue has enough records
pub record Enough (z : Slices) : Type 0 where
  pub pins : 1024 ≤ length z.pins
  pub parts : 1024 ≤ length z.parts
  pub connections : 4096 ≤ length z.connections

-- the records, and blank ones behind them
pub record Holds (z : Slices) (r : Records) : Type 0 where
  pub pins : z.pins ≡ r.pins ++ replicate (length z.pins - length r.pins) blank_pin
  pub parts : z.parts ≡ r.parts ++ replicate (length z.parts - length r.parts) blank_part
  pub connections : z.connections ≡ r.connections ++ replicate (length z.connections - length r.connections) blank_connection

abbrev pub slices : Catalogue → Slices
slices c = record { pins = c.pins.rows.now; parts = c.parts.rows.now; connections = c.connections.rows.now }

-- how many records are in the catalogue
abbrev pub counted : Catalogue → Counts
counted c = record { pins = c.pins.used; parts = c.parts.used; connections = c.connections.used }

-- a catalogue of just enough blank records
abbrev pub room : Slices
room = record { pins = replicate 1024 blank_pin; parts = replicate 1024 blank_part; connections = replicate 4096 blank_connection }

-- the catalogue is filled with the records
pub record Fills (c : Catalogue) (r : Records) : Type 0 where
  pub holds : Holds (slices c) r
  pub pins : c.pins.used ≡ length r.pins
  pub parts : c.parts.used ≡ length r.parts
  pub connections : c.connections.used ≡ length r.connections

-- the same memory is lent to both. This and what follows are no invariant of a type: they are about two catalogues, before a
-- call and after it
abbrev pub Lent : Catalogue → Catalogue → Type 0
Lent a b = (b.pins.rows.ghost_name ≡ a.pins.rows.ghost_name) × (b.parts.rows.ghost_name ≡ a.parts.rows.ghost_name) × (b.connections.rows.ghost_name ≡ a.connections.rows.ghost_name)

-- and as much of it
abbrev pub Long : Catalogue → Catalogue → Type 0
Long a b = (length b.pins.rows.now ≡ length a.pins.rows.now) × (length b.parts.rows.now ≡ length a.parts.rows.now) × (length b.connections.rows.now ≡ length a.connections.rows.now)

-- one record more
abbrev pub with_pin : Records → PinRecord → Records
with_pin r p = record { pins = r.pins ++ p ∷ []; parts = r.parts; connections = r.connections }

abbrev pub with_part : Records → PartRecord → Records
with_part r p = record { pins = r.pins; parts = r.parts ++ p ∷ []; connections = r.connections }

abbrev pub with_connection : Records → ConnectionRecord → Records
with_connection r c = record { pins = r.pins; parts = r.parts; connections = r.connections ++ c ∷ [] }
