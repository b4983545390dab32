-- What connections feed.
use Rattle.std.specs.Prelude.{◌≡◌, ℕ, ◌+◌, ◌<◌, ◌≤◌, List, length, Some, None, Option, MatchOption, slice_index_or}
use Rattle.kit.specs.declared.shape.Side.{Side}
use Rattle.kit.specs.declared.shape.Side.TheVariants.{In, Out}
use Rattle.catalogue.specs.declared.records.Target.{Target}
use Rattle.catalogue.specs.declared.records.Target.TheVariants.{Constant, Input, Output, Internal}
use Rattle.catalogue.specs.declared.records.ConnectionRecord.{ConnectionRecord}
use Rattle.catalogue.specs.Records.{blank_connection}
use Rattle.joiner.specs.declared.feeds.Sink.{Sink}
use Rattle.joiner.specs.declared.feeds.Sink.TheVariants as sink
use Rattle.joiner.specs.declared.feeds.Feed.{Feed}

-- a part's input is fed by the far end, and a part's output feeds a pin of the chip or an internal pin
abbrev pub feed_by : ConnectionRecord → Side → Target → Option Feed
feed_by c In t = Some (record { sink = sink.PartInputs c.part; first = c.joint.offset; width = c.joint.width })
feed_by c Out (Constant b) = None
feed_by c Out (Input b) = None
feed_by c Out (Output b) = Some (record { sink = sink.ChipOutputs c.entry; first = b; width = c.joint.width })
feed_by c Out (Internal h) = Some (record { sink = sink.Internal h; first = 0; width = c.joint.width })

-- what a connection feeds
abbrev pub feed : ConnectionRecord → Option Feed
feed c = feed_by c c.joint.side c.joint.target

-- the bit b of the sink k is among these
abbrev pub Covers : Feed → Sink → ℕ → Type 0
Covers f k b = (f.sink ≡ k) × (f.first ≤ b) × (b < f.first + f.width)

-- the connection feeds that bit
abbrev pub Feeds : ConnectionRecord → Sink → ℕ → Type 0
Feeds c k b = MatchOption (feed c) ⊥ (λ f. Covers f k b)

-- some bit is among both
pub record Meet (f g : Feed) : Type 0 where
  pub bit : ℕ
  pub left : Covers f g.sink bit
  pub right : Covers g g.sink bit

-- the connection feeds one of the bits
pub record FeedsAmong (c : ConnectionRecord) (f : Feed) : Type 0 where
  pub bit : ℕ
  pub feeds : Feeds c f.sink bit
  pub among : Covers f f.sink bit

-- one of the connections feeds one of the bits
pub record FedIn (cs : List ConnectionRecord) (f : Feed) : Type 0 where
  pub by : ℕ
  pub below : by < length cs
  pub bit : ℕ
  pub feeds : Feeds (slice_index_or cs by blank_connection) f.sink bit
  pub among : Covers f f.sink bit

-- none of the connections feeds one of the bits
pub record OpenIn (cs : List ConnectionRecord) (f : Feed) : Type 0 where
  pub bit : ℕ
  pub among : Covers f f.sink bit
  pub unfed : (j : ℕ) → j < length cs → Feeds (slice_index_or cs j blank_connection) f.sink bit → ⊥

-- one of the first i connections feeds a bit that the connection c feeds
pub record FedBefore (cs : List ConnectionRecord) (i : ℕ) (c : ConnectionRecord) : Type 0 where
  pub by : ℕ
  pub below : by < i
  pub sink : Sink
  pub bit : ℕ
  pub feeds : Feeds (slice_index_or cs by blank_connection) sink bit
  pub again : Feeds c sink bit
