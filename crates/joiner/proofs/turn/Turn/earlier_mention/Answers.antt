use Rattle.std.proofs.Common.{◌≡◌, true, false, Some, None, get_or, ◌∙◌, rules}
use borrow.Author.Tests.{tests}
use Rattle.std.specs.List.{between}
use Rattle.std.proofs.lemmas.Iterator.{IsFirst-from_position, YieldsList-from_slice}
use Rattle.catalogue.specs.Records.{blank_connection}
use Rattle.joiner.specs.Meaning.{mentions}
use Rattle.joiner.proofs.Mentions.{mention_found}
use Rattle.joiner.proofs.turn.Turn.earlier_mention.Goals as goal

pub returns-in_err-at : goal.returns-in_err-at
returns-in_err-at g c =
    let t = c.args.self.now in
    let cs = t.connections.now in
    let s = t.scope.now.bundle.bytes.now in
    let e = (get_or cs t.i blank_connection).entry in
    c.from_residual.ensures
    ∙ mention_found s cs c.args.name.now t.from t.i t.within t.others None
    (IsFirst-from_position c.position.new.self _ None (λ x. mentions s e c.args.name.now x ≡ true) (λ x. mentions s e c.args.name.now x ≡ false) c.in_err-at.ensures.ran
    (YieldsList-from_slice (between t.from t.i cs) cc) (λ x q k. search (rules, tests)) (λ x q k. search (rules, tests)))

pub returns : goal.returns
returns g c =
    let t = c.args.self.now in
    let cs = t.connections.now in
    let s = t.scope.now.bundle.bytes.now in
    let e = (get_or cs t.i blank_connection).entry in
    mention_found s cs c.args.name.now t.from t.i t.within t.others (Some c.in_ok-at.at)
    (IsFirst-from_position c.position.new.self _ (Some c.in_ok-at.at) (λ x. mentions s e c.args.name.now x ≡ true) (λ x. mentions s e c.args.name.now x ≡ false) c.in_ok-at.ensures.ran
    (YieldsList-from_slice (between t.from t.i cs) cc) (λ x q k. search (rules, tests)) (λ x q k. search (rules, tests)))
