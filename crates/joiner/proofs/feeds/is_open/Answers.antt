use Rattle.std.proofs.Common.{ℕ, ◌+◌, refl, arith, rules}
use borrow.Author.Tests.{tests}
use Rattle.std.proofs.lemmas.Iterator.{cases_from_any, YieldsList-from_range}
use Rattle.joiner.specs.Feeding.{FedIn}
use Rattle.joiner.proofs.Feeding.{some_unfed}
use Rattle.joiner.proofs.feeds.is_open.Goals as goal

pub returns : goal.returns
returns c =
    let cs = c.args.connections.now in
    let f = c.args.bits in
    some_unfed cs f c.any.result
    (cases_from_any c.any.new.self _ _ (λ (b : ℕ). FedIn cs (record { sink = f.sink; first = b; width = 1 }) → ⊥) (λ (b : ℕ). FedIn cs (record { sink = f.sink; first = b; width = 1 })) c.any.ensures.ran
    (YieldsList-from_range f.first (f.first + f.width) f.width refl (omega arith)) (λ x q k. search (rules, tests)) (λ x q k. search (rules, tests)))
