use Rattle.std.proofs.Common.{map, vec_items, subst, rules}
use Rattle.packer.specs.Packed.{Packed}
use Rattle.samples.proofs.lines.bundle_of.Goals as goal

pub returns : goal.returns
returns c =
    let packed = subst (λ ss. Packed ss c.in_ok-pack.field-0.items) c.as_slice-2.ensures.value c.in_ok-pack.ensures in
    (map vec_items c.in_ok-texts.texts.items, c.in_ok-sources.sources.items, c.in_ok-texts.ensures, search rules, packed)
