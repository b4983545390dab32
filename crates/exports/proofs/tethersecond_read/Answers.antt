use Rattle.std.proofs.Common.{◌≡◌, rules}
use Rattle.catalogue.specs.Holding.{slices, room}
use Rattle.exports.proofs.Numbers.{answered}
use Rattle.exports.proofs.tethersecond_read.Goals as goal

pub returns : goal.returns
returns c =
    let blank : slices c.over-catalogue.result ≡ room = search rules in
    answered _ _ _ blank _ c.read.result c.read.ensures.verdict c.number.ensures
