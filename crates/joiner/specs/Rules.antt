-- The rules of joining, and what breaks them. The records are those that reading gave.
use Rattle.std.specs.Prelude.{◌≡◌, ℕ, ◌<◌, List, length, Some, None, ◌≢◌}
use Rattle.fault.specs.declared.Cause.{Cause}
use Rattle.fault.specs.declared.Cause.TheVariants as cause
use Rattle.fault.specs.declared.Place.{Place}
use Rattle.fault.specs.Faults.{number_of}
use Rattle.kit.specs.Models.{Model, Has}
use Rattle.kit.specs.declared.shape.Pin.{Pin}
use Rattle.kit.specs.declared.shape.Side.TheVariants.{In, Out}
use Rattle.catalogue.specs.declared.records.Piece.{Piece}
use Rattle.catalogue.specs.declared.records.Piece.TheVariants.{Entry, Kind}
use Rattle.catalogue.specs.declared.records.Target.TheVariants as target
use Rattle.catalogue.specs.Records.{Records}
use Rattle.catalogue.specs.Shapes.{shape}
use Rattle.wellformed.specs.Places.{Sooner, pin, connection, pin_place, part_place, connection_place, far_place}
use Rattle.joiner.specs.declared.ends.Far.{Far}
use Rattle.joiner.specs.declared.feeds.Sink.{Sink}
use Rattle.joiner.specs.declared.feeds.Sink.TheVariants as sink
use Rattle.joiner.specs.Slices.{slice_of}
use Rattle.joiner.specs.Meaning.{piece, near_pin, near, far_end}
use Rattle.joiner.specs.Feeding.{Feeds}
use Rattle.joiner.specs.Joined.{joint, joined_connection}

module _ (m : Model) (s : List ℕ) (r : Records) where
  -- a connection that feeds the bit b of the sink k
  pub record Fed (k : Sink) (b : ℕ) : Type 0 where
    pub by : ℕ
    pub below : by < length r.connections
    pub feeds : Feeds (joined_connection m s r by) k b

  -- the bit b is an input bit of a piece: a bit of an input pin that the chip declares, or one of the kind's
  pub data InputBit : Piece → ℕ → Type 0 where
    declared : (i b : ℕ) → i < length r.pins → (pin r i).side ≡ In → Has (shape (pin r i)) b → InputBit (Entry (pin r i).entry) b
    built_in : (k b : ℕ) → b < m.inputs k → InputBit (Kind k) b

  -- both ends of a connection are there, may be joined, and have one width
  pub record Met (i : ℕ) : Type 0 where
    pub pin : Pin
    pub is : near m s r i ≡ Some pin
    pub far : Far
    pub leads : far_end m s r i pin ≡ Some far
    pub wide : far.width ≡ pin.width

  -- no bit that the connection i feeds is fed by an earlier one
  abbrev pub Once : ℕ → Type 0
  Once i = (j b : ℕ) (k : Sink) → j < i → Feeds (joined_connection m s r j) k b → Feeds (joined_connection m s r i) k b → ⊥

  -- all rules hold
  pub record Joins : Type 0 where
    pub known : (p : ℕ) → p < length r.parts → (x : Piece) × (piece m s r p ≡ Some x)
    pub met : (i : ℕ) → i < length r.connections → Met i
    pub once : (i : ℕ) → i < length r.connections → Once i
    -- each input bit of each part, each output bit of each chip, and each internal pin is fed
    pub inputs_fed : (p b : ℕ) (x : Piece) → p < length r.parts → piece m s r p ≡ Some x → InputBit x b → Fed (sink.PartInputs p) b
    pub outputs_fed : (i b : ℕ) → i < length r.pins → (pin r i).side ≡ Out → Has (shape (pin r i)) b → Fed (sink.ChipOutputs (pin r i).entry) b
    pub internals_fed : (i : ℕ) → i < length r.connections → (joint m s r i).target ≡ target.Internal i → Fed (sink.Internal i) 0

  -- what is wrong with the connection i
  pub data Wrong (i : ℕ) : Cause → Type 0 where
    no_pin : near_pin m s r i ≡ None → Wrong i cause.NoSuchPartPin
    bad_bits : (p : Pin) → near_pin m s r i ≡ Some p → slice_of p (connection r i).bits ≡ None → Wrong i cause.BadEnd
    bad_end : (p : Pin) → near m s r i ≡ Some p → far_end m s r i p ≡ None → Wrong i cause.BadEnd
    other_width : (p : Pin) (f : Far) → near m s r i ≡ Some p → far_end m s r i p ≡ Some f → (f.width ≢ p.width) → Wrong i cause.WidthsDiffer
    fed_twice : (j b : ℕ) (k : Sink) → j < i → Feeds (joined_connection m s r j) k b → Feeds (joined_connection m s r i) k b → Wrong i cause.FedTwice

  -- what is at fault, and where: the name of a part that means nothing, or a connection
  pub data Breaks : Cause → Place → Type 0 where
    unknown_part : (p : ℕ) → p < length r.parts → piece m s r p ≡ None → Breaks cause.UnknownPart (part_place r p)
    wrong : (i : ℕ) (k : Cause) → i < length r.connections → Wrong i k → Breaks k (connection_place r i)

  -- an input bit of the part p is never fed
  pub record OpenPart (p : ℕ) : Type 0 where
    pub bit : ℕ
    pub piece_is : Piece
    pub means : piece m s r p ≡ Some piece_is
    pub input : InputBit piece_is bit
    pub unfed : Fed (sink.PartInputs p) bit → ⊥

  -- an output bit of a chip, of the pin i, is never fed
  pub record OpenOutput (i : ℕ) : Type 0 where
    pub bit : ℕ
    pub side : (pin r i).side ≡ Out
    pub has : Has (shape (pin r i)) bit
    pub unfed : Fed (sink.ChipOutputs (pin r i).entry) bit → ⊥

  -- the internal pin that the connection i is the first to mention is never fed
  pub record OpenInternal (i : ℕ) : Type 0 where
    pub first : (joint m s r i).target ≡ target.Internal i
    pub unfed : Fed (sink.Internal i) 0 → ⊥

  -- what is left open, and where it is told: an input bit of a part at the part's name, an output bit of a chip at its
  -- declaration, an internal pin at its first mention
  pub data LeftOpen : Cause → Place → Type 0 where
    part : (p : ℕ) → p < length r.parts → OpenPart p → LeftOpen cause.LeftOpen (part_place r p)
    output : (i : ℕ) → i < length r.pins → OpenOutput i → LeftOpen cause.LeftOpen (pin_place r i)
    internal : (i : ℕ) → i < length r.connections → OpenInternal i → LeftOpen cause.LeftOpen (far_place r i)

-- the first of what is at fault: none is sooner, and none at the same place has a lower number
pub record First (B : Cause → Place → Type 0) (k : Cause) (x : Place) : Type 0 where
  pub broken : B k x
  pub soonest : (l : Cause) (y : Place) → B l y → Sooner y x → ⊥
  pub lowest : (l : Cause) → B l x → number_of l < number_of k → ⊥
