use Rattle.std.proofs.Common.{◌≡◌}
use Rattle.catalogue.specs.Holding.{Lent, Long}
use Rattle.reader.specs.Verdicts.{FilledUpto}
use Rattle.reader.proofs.read_texts.Given as goal

abbrev pub invariant-loop-k : goal.invariant-loop-k
invariant-loop-k l =
    Lent l.initial.catalogue l.catalogue
    × Long l.initial.catalogue l.catalogue
    × (l.k-iterator.iter.bundle ≡ l.bundle)
    × (l.k-iterator.iter.next ≡ l.k-iterator.count)
    × FilledUpto l.bundle.bytes.now l.k-iterator.count l.catalogue
