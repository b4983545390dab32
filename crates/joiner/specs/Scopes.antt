-- What holds of what names are looked up in.
use Rattle.std.specs.Prelude.{ℕ, ◌+◌, ◌<◌, ◌≤◌, List, IfSome, Option, ◌≢◌, slice_index_or}
use Rattle.kit.specs.declared.shape.Pin.{Pin}
use Rattle.catalogue.specs.declared.records.Piece.{Piece}
use Rattle.catalogue.specs.declared.records.Piece.TheVariants.{Entry, Kind}
use Rattle.catalogue.specs.declared.records.ConnectionRecord.{ConnectionRecord}
use Rattle.catalogue.specs.Records.{blank_connection}

-- some bits, within the 64 of a side
pub record Fit (p : Pin) : Type 0 where
  pub some : 1 ≤ p.width
  pub within : p.first + p.width ≤ 64

-- so does a pin that is found
abbrev pub FitFound : Option Pin → Type 0
FitFound o = IfSome o Fit

-- a piece that is a chip is one of so many entries
abbrev pub EntryBelow : ℕ → Piece → Type 0
EntryBelow n (Entry e) = e < n
EntryBelow n (Kind k) = Unit {0}

-- none of the first n connections is of the text of the entry e
abbrev pub OtherTexts : List ConnectionRecord → ℕ → ℕ → Type 0
OtherTexts cs n e = (j : ℕ) → j < n → (slice_index_or cs j blank_connection).entry ≢ e
