use Rattle.std.proofs.Common.{rules}
use Rattle.progress.proofs.Agreement.{token_agrees}
use Rattle.progress.proofs.state.State.follow.Goals as goal

pub returns-in_default : goal.returns-in_default
returns-in_default c st e =
    token_agrees st c.args.first c.args.token c.on_mark.result (search rules) (search rules)
    (rw (← e, ← c.kind.ensures) c.on_mark.ensures)
