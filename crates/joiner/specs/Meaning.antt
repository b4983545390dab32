-- What the names of a bundle's texts mean, with a kit of built-in parts. The records are those that reading gave.
use Rattle.std.specs.Prelude.{ℕ, Bool, false, ◌&&◌, List, find, Some, None, Option, ◌==◌, slice_index_or}
use Rattle.std.specs.Option.{unwrap_or, option_or, option_map}
use Rattle.std.specs.Str.{bytes_eq}
use Rattle.kit.specs.Models.{Model}
use Rattle.kit.specs.declared.shape.Side.{Side}
use Rattle.kit.specs.declared.shape.Side.TheVariants.{In, Out}
use Rattle.kit.specs.declared.shape.Pin.{Pin}
use Rattle.bundle.specs.Layout.{count, name, text}
use Rattle.catalogue.specs.declared.records.Span.{Span}
use Rattle.catalogue.specs.declared.records.Subscript.{Subscript}
use Rattle.catalogue.specs.declared.records.Subscript.TheVariants.{All, Bit, Range}
use Rattle.catalogue.specs.declared.records.FarEnd.{FarEnd}
use Rattle.catalogue.specs.declared.records.FarEnd.TheVariants as far
use Rattle.catalogue.specs.declared.records.Piece.{Piece}
use Rattle.catalogue.specs.declared.records.Piece.TheVariants.{Entry, Kind}
use Rattle.catalogue.specs.declared.records.Target.TheVariants as target
use Rattle.catalogue.specs.declared.records.PinRecord.{PinRecord}
use Rattle.catalogue.specs.declared.records.ConnectionRecord.{ConnectionRecord}
use Rattle.catalogue.specs.Cuts.{cut}
use Rattle.catalogue.specs.Shapes.{shape}
use Rattle.catalogue.specs.Records.{Records, blank_connection}
use Rattle.wellformed.specs.Places.{part, connection}
use Rattle.joiner.specs.declared.ends.Far.{Far}
use Rattle.joiner.specs.Search.{first_below, chained}
use Rattle.joiner.specs.Slices.{slice_of}

module _ (s : List ℕ) where
  -- the name at a span of the text of the entry e
  abbrev pub word : ℕ → Span → List ℕ
  word e n = cut (text s e) n

  -- the entry of a name
  abbrev pub entry_of : List ℕ → Option ℕ
  entry_of n = first_below (λ k. bytes_eq (name s k) n) (count s)

  -- the record is a pin of this name in the text of the entry e
  abbrev pub declares : ℕ → List ℕ → PinRecord → Bool
  declares e n p = p.entry == e && bytes_eq (word e p.name) n

  -- the pin of a name that the text of the entry e declares
  abbrev pub declared : List PinRecord → ℕ → List ℕ → Option Pin
  declared ps e n = option_map shape (find (declares e n) ps)

  -- the far end has this name
  abbrev pub far_named : ℕ → List ℕ → FarEnd → Bool
  far_named e n (far.Constant b) = false
  far_named e n (far.Pin x b) = bytes_eq (word e x) n

  -- a connection of the text of the entry e mentions the name at its far end
  abbrev pub mentions : ℕ → List ℕ → ConnectionRecord → Bool
  mentions e n c = c.entry == e && far_named e n c.far

  -- the first connection of that text, before the connection i, which mentions the name
  abbrev pub earlier_mention : List ConnectionRecord → ℕ → List ℕ → ℕ → Option ℕ
  earlier_mention cs e n i = first_below (λ j. mentions e n (slice_index_or cs j blank_connection)) i

  -- the first connection of that text which mentions the name, where the connection i does
  abbrev pub first_mention : List ConnectionRecord → ℕ → List ℕ → ℕ → ℕ
  first_mention cs e n i = unwrap_or (earlier_mention cs e n i) i

-- a constant goes to a part's input, at any width
abbrev pub constant_far : Side → ℕ → Bool → Option Far
constant_far In w b = Some (record { target = target.Constant b; width = w })
constant_far Out w b = None

-- a part's input takes an input pin of the chip, and a part's output feeds an output pin: the first side is that of the
-- part's pin, the other that of the chip's
abbrev pub chip_far : Side → Side → Pin → Option Far
chip_far In In p = Some (record { target = target.Input p.first; width = p.width })
chip_far In Out p = None
chip_far Out In p = None
chip_far Out Out p = Some (record { target = target.Output p.first; width = p.width })

-- an internal pin has no subscript
abbrev pub internal_far : ℕ → ℕ → Subscript → Option Far
internal_far h w All = Some (record { target = target.Internal h; width = w })
internal_far h w (Bit n) = None
internal_far h w (Range n k) = None

abbrev pub width_of : Option Pin → ℕ
width_of None = 0
width_of (Some p) = p.width

module _ (m : Model) (s : List ℕ) where
  -- what the name of a part means: a chip of the bundle, or else a kind of the kit
  abbrev pub piece_of : List ℕ → Option Piece
  piece_of n = option_or (option_map Entry (entry_of s n)) (option_map Kind (m.find n))

  -- the pin of a name that a part has
  abbrev pub pin_of : List PinRecord → Piece → List ℕ → Option Pin
  pin_of ps (Entry e) n = declared s ps e n
  pin_of ps (Kind k) n = m.pin k n

module _ (m : Model) (s : List ℕ) (r : Records) where
  -- what the part line p is
  abbrev pub piece : ℕ → Option Piece
  piece p = piece_of m s (word s (part r p).entry (part r p).name)

  -- of the connection i: the part's pin, and which bits of it are joined
  abbrev pub near_pin : ℕ → Option Pin
  near_pin i = chained (piece (connection r i).part) (λ x. pin_of m s r.pins x (word s (connection r i).entry (connection r i).name))

  abbrev pub near : ℕ → Option Pin
  near i = chained (near_pin i) (λ p. slice_of p (connection r i).bits)

  -- an internal pin is as wide as the bits at its first mention
  abbrev pub internal : ℕ → Subscript → Option Far
  internal h b = internal_far h (width_of (near h)) b

  -- a name at the far end of the connection i is a pin of the chip if declared, else an internal pin
  abbrev pub named_far : ℕ → Side → List ℕ → Subscript → Option Pin → Option Far
  named_far i d n b (Some q) = chained (slice_of q b) (λ x. chip_far d x.side x)
  named_far i d n b None = internal (first_mention s r.connections (connection r i).entry n i) b

  abbrev pub far_of : ℕ → Pin → FarEnd → Option Far
  far_of i p (far.Constant b) = constant_far p.side p.width b
  far_of i p (far.Pin n b) =
      named_far i p.side (word s (connection r i).entry n) b (declared s r.pins (connection r i).entry (word s (connection r i).entry n))

  -- what stands at the far end of the connection i, which joins these bits of its part; none where that is not allowed
  abbrev pub far_end : ℕ → Pin → Option Far
  far_end i p = far_of i p (connection r i).far
