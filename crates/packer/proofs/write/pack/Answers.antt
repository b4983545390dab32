use Rattle.std.proofs.Common.{sym, ap, ◌∙◌, subst}
use Rattle.packer.specs.Written.{written}
use Rattle.packer.specs.Packed.{Packed}
use Rattle.packer.proofs.Whole.{packed}
use Rattle.packer.proofs.write.pack.Goals as goal

pub returns : goal.returns
returns c =
    let ss = c.args.sources.now in
    let told = c.in_ok-sorted.ensures in
    let same = c.in_ok-write.ensures ∙ ap written c.deref.ensures.value in
    subst (Packed ss) (sym same) (packed ss _ c.in_ok-check_sources.ensures told.0 told.1)
