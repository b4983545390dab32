use Rattle.std.proofs.Common.{rules}
use Rattle.joiner.proofs.Names.{entry_is}
use Rattle.joiner.proofs.scope.Scope.piece.Goals as goal

pub returns : goal.returns
returns g c =
    let e = entry_is c.args.self.now.bundle c.args.name.now c.find.result c.find.ensures.first in
    search rules
