-- Where records stand, and which of two places comes first.
use Rattle.std.specs.Prelude.{◌≡◌, ℕ, ◌<◌, ◌⊎◌, slice_index_or}
use Rattle.fault.specs.declared.Place.{Place}
use Rattle.catalogue.specs.declared.records.Span.{Span}
use Rattle.catalogue.specs.declared.records.FarEnd.{FarEnd}
use Rattle.catalogue.specs.declared.records.FarEnd.TheVariants as far
use Rattle.catalogue.specs.declared.records.PinRecord.{PinRecord}
use Rattle.catalogue.specs.declared.records.PartRecord.{PartRecord}
use Rattle.catalogue.specs.declared.records.ConnectionRecord.{ConnectionRecord}
use Rattle.catalogue.specs.Records.{Records, blank_pin, blank_part, blank_connection}

-- a comes before b: in an earlier entry, or in the same text at an earlier byte
abbrev pub Sooner : Place → Place → Type 0
Sooner a b = (a.entry < b.entry) ⊎ ((a.entry ≡ b.entry) × (a.byte < b.byte))

-- the records of these numbers
abbrev pub pin : Records → ℕ → PinRecord
pin r i = slice_index_or r.pins i blank_pin

abbrev pub part : Records → ℕ → PartRecord
part r p = slice_index_or r.parts p blank_part

abbrev pub connection : Records → ℕ → ConnectionRecord
connection r i = slice_index_or r.connections i blank_connection

-- a record stands where its name begins
abbrev pub pin_place : Records → ℕ → Place
pin_place r i = record { entry = (pin r i).entry; byte = (pin r i).name.first }

abbrev pub part_place : Records → ℕ → Place
part_place r p = record { entry = (part r p).entry; byte = (part r p).name.first }

abbrev pub connection_place : Records → ℕ → Place
connection_place r i = record { entry = (connection r i).entry; byte = (connection r i).name.first }

-- where the name at the far end begins; a constant has none, and is told by the connection's own place
abbrev pub far_byte : Span → FarEnd → ℕ
far_byte n (far.Constant b) = n.first
far_byte n (far.Pin m s) = m.first

abbrev pub far_place : Records → ℕ → Place
far_place r i = record { entry = (connection r i).entry; byte = far_byte (connection r i).name (connection r i).far }
