-- Which rule of the layout is the first that bytes break.
use Rattle.std.specs.Prelude.{◌≡◌, ℕ, ◌+◌, ◌-◌, ◌<◌, ◌≤◌, List, length, ◌≢◌}
use Rattle.text.specs.Orders.{Before}
use Rattle.bundle.specs.declared.breach.Breach.{Breach}
use Rattle.bundle.specs.declared.breach.Breach.TheVariants.{TooLong, NoCount, TooManyEntries, ContentsCut, BadName, NotRising, Displaced, PastEnd, LeftOver}
use Rattle.bundle.specs.Layout.{count, row, name, start, size, end_before, Listed, NameStands, Rises, EntryStands}

-- all that comes before the k-th entry stands
pub record Upto (s : List ℕ) (k : ℕ) : Type 0 where
  pub listed : Listed s
  pub below : k < count s
  pub stands : (j : ℕ) → j < k → EntryStands s j

abbrev pub Broken : List ℕ → Breach → Type 0
Broken s NoCount = length s < 2
Broken s TooLong = 65535 < length s
Broken s TooManyEntries = (2 ≤ length s) × (length s ≤ 65535) × (128 < count s)
Broken s ContentsCut = (2 ≤ length s) × (length s ≤ 65535) × (count s ≤ 128) × (length s < row (count s))
Broken s (BadName k) = Upto s k × (NameStands s k → ⊥)
Broken s (NotRising k) = Upto s k × NameStands s k × (0 < k) × (Before (name s (k - 1)) (name s k) → ⊥)
Broken s (Displaced k) = Upto s k × NameStands s k × Rises s k × (start s k ≢ end_before s k)
Broken s (PastEnd k) = Upto s k × NameStands s k × Rises s k × (start s k ≡ end_before s k) × (length s < start s k + size s k)
Broken s LeftOver = Listed s × ((k : ℕ) → k < count s → EntryStands s k) × (end_before s (count s) < length s)
