use Rattle.std.proofs.Common.{◌≡◌, rules, subst}
use Rattle.catalogue.specs.Holding.{slices, room}
use Rattle.report.specs.Refusals.{WhenTold}
use Rattle.inspect.specs.Checks.{Unjoined}
use Rattle.inspect.proofs.reports.check.Goals as goal

pub returns-in-Err : goal.returns-in-Err
returns-in-Err g c =
    let blank : slices c.over-catalogue.result ≡ room = search rules in
    subst (λ z. WhenTold c.refused.result (Unjoined (g.K.Kit.model c.args.kit.now) c.args.bytes.now z)) blank (search rules)
