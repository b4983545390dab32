use Rattle.std.proofs.Common.{◌≡◌, rules}
use Rattle.catalogue.specs.Holding.{slices, room}
use Rattle.exports.proofs.Numbers.{judged}
use Rattle.exports.proofs.tethersecond_join.Goals as goal

pub returns : goal.returns
returns c =
    let blank : slices c.over-catalogue.result ≡ room = search rules in
    judged _ _ _ blank _ _ c.join.result c.join.ensures.verdict c.number.ensures
