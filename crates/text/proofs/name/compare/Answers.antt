use Rattle.std.proofs.Common.{◌∙◌}
use Rattle.text.proofs.Comparing.{cmp_order}
use Rattle.text.proofs.name.compare.Goals as goal

pub returns : goal.returns
returns c = c.cmp.ensures ∙ cmp_order _ _
