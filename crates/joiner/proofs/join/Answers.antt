use Rattle.joiner.specs.Verdicts.{unjoined}
use Rattle.joiner.proofs.join.Goals as goal

pub returns-in-Err-clause-verdict : goal.returns-in-Err-clause-verdict
returns-in-Err-clause-verdict g c =
    let a = c.in_ok-counts.ensures.verdict in
    let u = c.in-Err.ensures.joins in
    record {
      why = unjoined u.records u.cause u.place a.enough a.layout u.read u.unjoined u.tells;
      blank = c.clear.ensures.blank.holds;
    }
