-- What holds of the records that reading gives.
use Rattle.std.specs.Prelude.{◌≡◌, ℕ, ◌+◌, ◌<◌, ◌≤◌, cond, List, length, nat_lt}
use Rattle.bundle.specs.Layout.{Layout, count}
use Rattle.catalogue.specs.declared.records.Span.{Span}
use Rattle.catalogue.specs.declared.records.Subscript.{Subscript}
use Rattle.catalogue.specs.declared.records.FarEnd.TheVariants as far
use Rattle.catalogue.specs.declared.records.PinRecord.{PinRecord}
use Rattle.catalogue.specs.Records.{Records}
use Rattle.reader.specs.Verdicts.{ReadUpto}
use Rattle.wellformed.specs.Places.{Sooner, pin, part, connection, pin_place, part_place, connection_place, far_place}

-- a pin is 1 to 16 bits wide, within the 64 bits of a side
pub record PinFits (p : PinRecord) : Type 0 where
  pub some : 1 ≤ p.width
  pub narrow : p.width ≤ 16
  pub within : p.offset + p.width ≤ 64

-- a connection is one of its part, and stands in the same text
pub record Belongs (r : Records) (i : ℕ) : Type 0 where
  pub below : (connection r i).part < length r.parts
  pub same : (connection r i).entry ≡ (part r (connection r i).part).entry
  pub from : (part r (connection r i).part).connections ≤ i
  pub until : i < (part r (connection r i).part).connections + (part r (connection r i).part).count

-- a part's connections are some, and all its own
pub record Line (r : Records) (p : ℕ) : Type 0 where
  pub some : 1 ≤ (part r p).count
  pub within : (part r p).connections + (part r p).count ≤ length r.connections
  pub own : (i : ℕ) → (part r p).connections ≤ i → i < (part r p).connections + (part r p).count → (connection r i).part ≡ p

-- where the connections of the part p begin; where all connections end, if it is the number of parts
abbrev pub line_start : Records → ℕ → ℕ
line_start r p = cond (nat_lt p (length r.parts)) (part r p).connections (length r.connections)

-- records stand in the order of the texts, the pins of a text before its parts, and each connection behind its part's
-- name and before the next part
pub record InTextOrder (r : Records) : Type 0 where
  pub pins_rise : (i j : ℕ) → i < j → j < length r.pins → Sooner (pin_place r i) (pin_place r j)
  pub parts_rise : (p q : ℕ) → p < q → q < length r.parts → Sooner (part_place r p) (part_place r q)
  pub connections_rise : (i j : ℕ) → i < j → j < length r.connections → Sooner (far_place r i) (connection_place r j)
  pub header_first : (i p : ℕ) → i < length r.pins → p < length r.parts → (pin r i).entry ≡ (part r p).entry → Sooner (pin_place r i) (part_place r p)
  pub in_line : (i : ℕ) → i < length r.connections → Sooner (part_place r (connection r i).part) (connection_place r i)
  pub far_behind : (i : ℕ) (n : Span) (b : Subscript) → i < length r.connections → (connection r i).far ≡ far.Pin n b → Sooner (connection_place r i) (far_place r i)
  pub next_line : (i p : ℕ) → i < length r.connections → (connection r i).part < p → p < length r.parts → Sooner (far_place r i) (part_place r p)

-- each record is of an entry of the bundle, pins fit, and parts and connections go together, in the order of the texts
pub record WellFormed (s : List ℕ) (r : Records) : Type 0 where
  pub pin_entry : (i : ℕ) → i < length r.pins → (pin r i).entry < count s
  pub part_entry : (p : ℕ) → p < length r.parts → (part r p).entry < count s
  pub fits : (i : ℕ) → i < length r.pins → PinFits (pin r i)
  pub lines : (p : ℕ) → p < length r.parts → Line r p
  -- the connections of a part stand behind those of the part before
  pub begins : line_start r 0 ≡ 0
  pub continues : (p : ℕ) → p < length r.parts → line_start r (p + 1) ≡ (part r p).connections + (part r p).count
  pub belongs : (i : ℕ) → i < length r.connections → Belongs r i
  pub ordered : InTextOrder r

-- so are the records that reading gives
abbrev pub ReadWellFormed : Type 0
ReadWellFormed = (s : List ℕ) (r : Records) → ReadUpto s (count s) r → WellFormed s r
