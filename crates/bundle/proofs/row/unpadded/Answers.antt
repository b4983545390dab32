use Rattle.std.proofs.Common.{rules}
use Rattle.bundle.proofs.Reading.{unpadded_is}
use Rattle.bundle.proofs.row.unpadded.Goals as goal

pub returns : goal.returns
returns c = unpadded_is _ _ (search rules) (search rules) (search rules)
