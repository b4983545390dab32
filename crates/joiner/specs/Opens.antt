-- What is left open among connections that are joined, as it is found record by record.
use Rattle.std.specs.Prelude.{◌≡◌, ℕ, ◌+◌, ◌<◌, Bool, cond, ◌&&◌, ◌||◌, List, length, Some, None, Option, MatchOption, ◌==◌, nat_lt, slice_index_or}
use Rattle.std.specs.List.{between}
use Rattle.fault.specs.declared.Place.{Place}
use Rattle.kit.specs.Models.{Model}
use Rattle.kit.specs.declared.shape.Side.TheVariants.{In, Out}
use Rattle.catalogue.specs.declared.records.Piece.{Piece}
use Rattle.catalogue.specs.declared.records.Piece.TheVariants.{Entry, Kind}
use Rattle.catalogue.specs.declared.records.Target.TheVariants as target
use Rattle.catalogue.specs.declared.records.PinRecord.{PinRecord}
use Rattle.catalogue.specs.declared.records.PartRecord.{PartRecord}
use Rattle.catalogue.specs.declared.records.ConnectionRecord.{ConnectionRecord}
use Rattle.catalogue.specs.Records.{blank_pin, blank_connection}
use Rattle.wellformed.specs.Places.{far_byte}
use Rattle.joiner.specs.declared.feeds.Sink.{Sink}
use Rattle.joiner.specs.declared.feeds.Sink.TheVariants as sink
use Rattle.joiner.specs.declared.feeds.Feed.{Feed}
use Rattle.joiner.specs.Feeding.{OpenIn}

-- where records stand
abbrev pub pin_at : PinRecord → Place
pin_at p = record { entry = p.entry; byte = p.name.first }

abbrev pub part_at : PartRecord → Place
part_at p = record { entry = p.entry; byte = p.name.first }

abbrev pub connection_at : ConnectionRecord → Place
connection_at c = record { entry = c.entry; byte = far_byte c.name c.far }

-- the bits of a declared pin, at a sink
abbrev pub bits_at : Sink → PinRecord → Feed
bits_at k p = record { sink = k; first = p.offset; width = p.width }

-- an output pin has a bit that none of the connections feeds
pub record OpenAsOutput (cs : List ConnectionRecord) (p : PinRecord) : Type 0 where
  pub side : p.side ≡ Out
  pub unfed : OpenIn cs (bits_at (sink.ChipOutputs p.entry) p)

-- so has an internal pin, at its first mention: none from there on feeds it
pub record OpenAsInternal (cs : List ConnectionRecord) (i : ℕ) : Type 0 where
  pub first : (slice_index_or cs i blank_connection).joint.target ≡ target.Internal i
  pub unfed : OpenIn (between i (length cs) cs) (record { sink = sink.Internal i; first = 0; width = 1 })

-- and an input pin of the chip at the part p
pub record OpenAsInput (cs : List ConnectionRecord) (p chip : ℕ) (x : PinRecord) : Type 0 where
  pub side : x.side ≡ In
  pub own : x.entry ≡ chip
  pub unfed : OpenIn cs (bits_at (sink.PartInputs p) x)

-- an input pin of that chip
pub record SomeInput (pins : List PinRecord) (cs : List ConnectionRecord) (p chip : ℕ) : Type 0 where
  pub number : ℕ
  pub below : number < length pins
  pub open_at : OpenAsInput cs p chip (slice_index_or pins number blank_pin)

-- and an input bit of the part p, which is that piece
abbrev pub OpenAsPart : Model → List PinRecord → List ConnectionRecord → ℕ → Piece → Type 0
OpenAsPart m pins cs p (Entry e) = SomeInput pins cs p e
OpenAsPart m pins cs p (Kind k) = OpenIn cs (record { sink = sink.PartInputs p; first = 0; width = m.inputs k })

-- the connections of a part line
abbrev pub line_of : PartRecord → List ConnectionRecord → List ConnectionRecord
line_of p cs = between p.connections (p.connections + p.count) cs

-- the place of the first of n at which P holds, or none where it holds nowhere
abbrev pub FirstPlace : (ℕ → Type 0) → (ℕ → Place) → ℕ → Option Place → Type 0
FirstPlace P at n o = MatchOption o ((i : ℕ) → i < n → P i → ⊥) (λ x. (i : ℕ) × (i < n) × P i × (x ≡ at i) × ((j : ℕ) → j < i → P j → ⊥))

-- a comes before b
abbrev pub is_sooner : Place → Place → Bool
is_sooner a b = nat_lt a.entry b.entry || (a.entry == b.entry && nat_lt a.byte b.byte)

abbrev pub sooner_of : Option Place → Option Place → Option Place
sooner_of None b = b
sooner_of (Some x) None = Some x
sooner_of (Some x) (Some y) = cond (is_sooner y x) (Some y) (Some x)
