-- From which connection on a sink can be fed.
use Rattle.std.specs.Prelude.{ℕ, ◌<◌, ◌≤◌, List, length, slice_index_or}
use Rattle.catalogue.specs.declared.records.PartRecord.{PartRecord}
use Rattle.catalogue.specs.declared.records.ConnectionRecord.{ConnectionRecord}
use Rattle.catalogue.specs.Records.{blank_part, blank_connection}
use Rattle.joiner.specs.declared.feeds.Sink.{Sink}
use Rattle.joiner.specs.declared.feeds.Sink.TheVariants.{PartInputs, ChipOutputs, Internal}
use Rattle.joiner.specs.Feeding.{Feeds}

-- a part that is fed is one of so many
abbrev pub SinkBelow : ℕ → Sink → Type 0
SinkBelow n (PartInputs p) = p < n
SinkBelow n (ChipOutputs e) = Unit {0}
SinkBelow n (Internal h) = Unit {0}

-- the part's first connection, the chip's, which is n, or the first mention of the internal pin
abbrev pub first_feeder : List PartRecord → ℕ → Sink → ℕ
first_feeder ps n (PartInputs p) = (slice_index_or ps p blank_part).connections
first_feeder ps n (ChipOutputs e) = n
first_feeder ps n (Internal h) = h

-- it is not behind the connection i, and none before it feeds the sink
pub record Feeders (ps : List PartRecord) (cs : List ConnectionRecord) (n i : ℕ) (k : Sink) : Type 0 where
  pub below : SinkBelow (length ps) k
  pub upto : first_feeder ps n k ≤ i
  pub none_before : (j b : ℕ) → j < first_feeder ps n k → Feeds (slice_index_or cs j blank_connection) k b → ⊥
