use Rattle.std.proofs.Common.{◌≡◌, take, rules}
use Rattle.std.proofs.lemmas.Iterator.{YieldsList-from_slice, cases_from_all}
use borrow.Author.Tests.{tests}
use Rattle.packer.specs.Rules.{name_of}
use Rattle.packer.proofs.Places.{name_read, asked_before}
use Rattle.packer.proofs.check.is_new.Goals as goal

pub returns : goal.returns
returns c =
    let ss = c.args.sources.now in
    let i = c.args.i in
    let here = name_read ss i c.requires in
    asked_before ss i c.all.result c.requires
    (cases_from_all c.all.new.self _ _ (λ s. s.name.now ≡ name_of ss i → ⊥) (λ s. s.name.now ≡ name_of ss i) c.all.ensures.ran (YieldsList-from_slice (take i ss) cc) (λ x q k. search (rules, tests, here)) (λ x q k. search (rules, tests, here)))
