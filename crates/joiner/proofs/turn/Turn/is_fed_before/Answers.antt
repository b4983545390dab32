use Rattle.std.proofs.Common.{◌≤◌, IfSome, Option, sym, subst, arith}
use Rattle.joiner.specs.declared.feeds.Feed.{Feed}
use Rattle.joiner.specs.Feeders.{Feeders}
use Rattle.joiner.proofs.Feeding.{fed_before, before_fed}
use Rattle.joiner.proofs.turn.Turn.is_fed_before.Goals as goal

pub returns-in-Some : goal.returns-in-Some
returns-in-Some g c =
    let t = c.args.self.now in
    let from = c.first_feeder.result in
    let bits = c.in-Some.bits in
    let is = c.in-Some.ensures in
    let fed : Feeders t.parts.now t.connections.now t.from t.i bits.sink = subst (λ (o : Option Feed). IfSome o (λ f. Feeders t.parts.now t.connections.now t.from t.i f.sink)) (sym is) c.requires in
    let upto : from ≤ t.i = omega (arith, c.first_feeder.ensures, fed.upto) in (
      λ e. fed_before t.connections.now from t.i c.args.joined.now bits t.within is upto (c.is_fed.ensures.0 e),
      λ h. c.is_fed.ensures.1 (before_fed t.connections.now from t.i c.args.joined.now bits t.within is upto (λ j b l. fed.none_before j b (omega (arith, c.first_feeder.ensures))) h),
    )
