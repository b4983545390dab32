use Rattle.std.proofs.Common.{◌+◌, ap, sym, ◌∙◌}
use Rattle.std.proofs.lemmas.List.{length_push}
use Rattle.catalogue.proofs.Putting.{put_more}
use Rattle.catalogue.proofs.lent.Table.push.Goals as goal

pub returns-then-self-clause-held : goal.returns-then-self-clause-held
returns-then-self-clause-held g c = λ xs f l. record {
  rows = put_more xs c.args.self.now.rows.now g.R.Record.BLANK c.args.row _ f.rows l f.used;
  used = ap (λ n. n + 1) f.used ∙ sym (length_push xs c.args.row);
}
