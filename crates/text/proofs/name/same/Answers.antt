use Rattle.std.proofs.Common.{rules}
use Rattle.std.proofs.lemmas.Slice.Eq.{bytes_eq-Decides}
use Rattle.text.proofs.Comparing.{same_order, order_same}
use Rattle.text.proofs.name.same.Goals as goal

pub returns-then-ends_alike-clause-value : goal.returns-then-ends_alike-clause-value
returns-then-ends_alike-clause-value c = search (rules, same_order, order_same, bytes_eq-Decides)
