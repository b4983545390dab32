use Rattle.std.proofs.Common.{vec_items, refl, subst}
use Rattle.std.specs.List.Sorted.{IsPermutation}
use Rattle.packer.proofs.Arranged.{arranged}
use Rattle.packer.proofs.source.in_order.Goals as goal

pub returns : goal.returns
returns c =
    let sorted = c.sort.new.self in
    let shuffled = subst (λ ss. IsPermutation ss (vec_items sorted)) c.in_ok-sorted.ensures.items c.sort.ensures.permutation in (
      shuffled,
      arranged c.args.sources.now (vec_items sorted) _ c.requires shuffled
          refl
          c.in_ok-sort.ensures.sorted,
    )
