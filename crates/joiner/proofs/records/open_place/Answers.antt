use Rattle.joiner.proofs.Completing.{lines_within, soonest}
use Rattle.joiner.proofs.records.open_place.Goals as goal

pub open_part-requires : goal.open_part-requires
open_part-requires g c = lines_within c.requires

pub returns : goal.returns
returns g c = rw (c.sooner-2.ensures, c.sooner.ensures) (soonest c.requires _ _ _ c.open_output.ensures c.open_part.ensures c.open_internal.ensures)
