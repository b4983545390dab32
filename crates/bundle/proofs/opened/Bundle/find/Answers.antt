use Rattle.std.proofs.Common.{◌≡◌, subst, rules}
use Rattle.std.proofs.lemmas.Iterator.{IsFirst-from_position}
use borrow.Author.Tests.{tests}
use Rattle.bundle.proofs.Finding.{First, gives_names, first_named, only_one}
use Rattle.bundle.proofs.opened.Bundle.find.Goals as goal

pub returns : goal.returns
returns c =
    let n = c.args.name.now in
    let s = c.entries.result in
    let ran = IsFirst-from_position c.position.new.self _ _ (λ m. m ≡ n) (λ m. m ≡ n → ⊥) c.position.ensures.ran (gives_names s) (λ x q k. search (rules, tests)) (λ x q k. search (rules, tests)) in
    let first = subst (λ b. First b n c.position.result) c.entries.ensures.bundle (first_named s c.entries.ensures.first n c.position.result ran) in
    record { first = first; only = λ o. only_one _ n c.position.result first }
