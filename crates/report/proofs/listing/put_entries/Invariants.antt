use Rattle.std.proofs.Common.{◌≡◌, ◌++◌, vec_items}
use Rattle.report.specs.Columns.{lines}
use Rattle.report.proofs.listing.put_entries.Given as goal

abbrev pub invariant-loop-k : goal.invariant-loop-k
invariant-loop-k l =
    (l.k-iterator.iter.bundle ≡ l.bundle)
    × (l.k-iterator.iter.next ≡ l.k-iterator.count)
    × (vec_items l.page.bytes ≡ vec_items l.initial.page.bytes ++ lines l.bundle.bytes.now l.width l.k-iterator.count)
