use Rattle.std.proofs.Common.{◌≡◌, ℕ, ◌<◌, ◌≤◌, length}
use Rattle.bundle.specs.Layout.{EntryStands, end_before}
use Rattle.bundle.proofs.check.check_entries.Given as goal

abbrev pub invariant-loop-k : goal.invariant-loop-k
invariant-loop-k l = ((j : ℕ) → j < l.k → EntryStands l.bytes j) × (l.end ≡ end_before l.bytes l.k) × (l.end ≤ length l.bytes)
