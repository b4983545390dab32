use Rattle.progress.proofs.state.State.on_mark.Goals as goal

pub returns-in-SubLow : goal.returns-in-SubLow
returns-in-SubLow c = rw c.in-SubLow.is c.either-in-SubLow.ensures
