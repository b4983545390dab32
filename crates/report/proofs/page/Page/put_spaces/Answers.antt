use Rattle.std.proofs.Common.{◌≡◌, rules}
use Rattle.std.proofs.lemmas.Iterator.Adapters.{YieldsList-from_repeat_n, items_from_extend}
use Rattle.report.proofs.page.Page.put_spaces.Goals as goal

pub returns : goal.returns
returns c =
    let spaces = items_from_extend c.extend.result c.extend.ensures.ran (YieldsList-from_repeat_n (λ x y. y ≡ x) c.args.count 32 c.repeat_n.ensures.count c.repeat_n.ensures.item (λ y h. h)) in
    search rules
