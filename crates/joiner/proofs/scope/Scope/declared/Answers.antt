use Rattle.std.proofs.Common.{rules}
use borrow.Author.Tests.{tests}
use Rattle.std.proofs.lemmas.Iterator.{YieldsList-from_slice}
use Rattle.std.proofs.lemmas.Iterator.Search.{find_from_yields_List}
use Rattle.joiner.specs.Meaning.{declares}
use Rattle.joiner.proofs.scope.Scope.declared.Goals as goal

pub returns : goal.returns
returns g c =
    let t = c.args.self.now in
    let e = find_from_yields_List (declares t.bundle.bytes.now c.args.chip c.args.name.now) c.find.new.self _ c.find.result c.find.ensures.ran (YieldsList-from_slice t.pins.now cc) (λ x b q k. search (rules, tests)) in
    search rules
