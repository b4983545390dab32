use Rattle.catalogue.proofs.Cuts.{clamped}
use Rattle.catalogue.proofs.records.Span.cut.Goals as goal

pub returns : goal.returns
returns c = clamped _ _ _ _ _ c.min-first.ensures c.min-len.ensures
