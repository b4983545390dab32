-- How many bits listed pins have, as a sum.
use Rattle.std.proofs.Common.{◌≡◌, List, refl}
use Rattle.std.specs.List.{sum_by}
use Rattle.std.proofs.lemmas.List.Recursion.{is_sum_by}
use Rattle.kit.specs.declared.header.Listed.{Listed}
use Rattle.kit.specs.Headers.{bits}
use Rattle.kit.specs.Listings.{listed}

pub bits_sum : (ls : List Listed) → bits (listed ls) ≡ sum_by (λ l. l.1) ls
bits_sum = is_sum_by (λ ls. bits (listed ls)) (λ l. l.1) refl (λ _ _. refl)
