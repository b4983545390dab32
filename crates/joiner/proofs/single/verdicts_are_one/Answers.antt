use Rattle.joiner.proofs.OneVerdict.{one_verdict}
use Rattle.joiner.proofs.single.verdicts_are_one.Goals as goal

pub returns : goal.returns
returns c = one_verdict
