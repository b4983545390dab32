use Rattle.wellformed.proofs.Reading.{read_well_formed}
use Rattle.wellformed.proofs.readings_are_well_formed.Goals as goal

pub returns : goal.returns
returns c = read_well_formed
