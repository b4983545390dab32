use Rattle.std.proofs.Common.{◌≡◌, ◌+◌, ◌*◌, ◌++◌, length, drop, vec_items}
use Rattle.packer.specs.Rules.{size_upto}
use Rattle.packer.specs.Written.{rows}
use Rattle.packer.proofs.write.push_rows.Given as goal

abbrev pub invariant-loop-source : goal.invariant-loop-source
invariant-loop-source l =
    (l.start ≡ size_upto l.sources l.source-index)
    × (vec_items l.out ++ rows (drop l.source-index l.sources) l.start ≡ vec_items l.initial.out ++ rows l.sources (2 + 36 * length l.sources))
